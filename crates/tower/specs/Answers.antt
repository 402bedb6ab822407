-- What a class and a tower answer.
-- From: Newman and O'Brien's p-quotient method.
use Rattle.std.specs.Prelude.{◌≡◌, ◌<◌, ◌≤◌, ℕ, suc}
use Rattle.pq_base.specs.Limits.{max_rank}
use Rattle.pq_base.specs.LPresentation.{LPresentation}
use Rattle.pq_base.specs.Series.{HasClass}
use Rattle.pq_base.specs.Answer.{Answer, class_of}
use Rattle.pq_base.specs.Canonical.{up_to_class, IsCanonical}
use Rattle.pq_base.specs.Largest.{IsLargest, HasOrder}
use Rattle.class_step.specs.declared.step.Step.{Step}
use Rattle.class_step.specs.declared.step.Step.TheVariants.{Next, Same, TooLarge}
use Rattle.cover_quotient.specs.Stages.{IsStage, IsNextStage, IsTower}

-- what one class makes of the stage A of class c: the next stage, the same answer as the stage of every later class, or a rank
-- above the greatest, which is the order of the largest quotient
abbrev pub IsStepFrom : LPresentation → ℕ → ℕ → Answer → Step → Type 0
IsStepFrom L p c A (Next N) = IsNextStage L p c A N
IsStepFrom L p c A Same = (d : ℕ) → c ≤ d → IsStage L p d A
IsStepFrom L p c A (TooLarge rank) = (max_rank < rank) × HasOrder L p (suc c) rank

-- an answer of exactly the class c, which cut at each class is the stage of that class
pub record IsGrown (L : LPresentation) (p c : ℕ) (A : Answer) : Type 0 where
  pub tower : IsTower L p c A
  pub class : class_of A ≡ c

-- the largest quotient of class c, which cut at each class is the largest quotient of that class. It is canonical, its
-- presentation has the class that it shows and no smaller one, and no largest quotient up to class c has an order of more factors p
-- than the greatest rank
pub record IsQuotient (L : LPresentation) (p c : ℕ) (A : Answer) : Type 0 where
  pub largest : IsLargest L p c A
  pub cuts : (j : ℕ) → j ≤ c → IsLargest L p j (up_to_class A j)
  pub canonical : IsCanonical A
  pub class : HasClass A.presentation (class_of A)
  pub exact : (k : ℕ) → k < class_of A → ¬ HasClass A.presentation k
  pub small : (k r : ℕ) → k ≤ c → max_rank < r → ¬ HasOrder L p k r

-- a refusal has its cause: at class k the largest quotient has the order p to the rank named, above the greatest, and at no class
-- before it has such an order
pub record IsTooLarge (L : LPresentation) (p c k r : ℕ) : Type 0 where
  pub first : 1 ≤ k
  pub last : k ≤ c
  pub large : max_rank < r
  pub order : HasOrder L p k r
  pub before : (j s : ℕ) → j < k → max_rank < s → ¬ HasOrder L p j s
