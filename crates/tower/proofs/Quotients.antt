-- A tower of few generators is the canonical largest quotient of its class, cut at each class too; and a rank above the limit is refused
-- with its cause.
use Rattle.std.proofs.Common.{◌≡◌, ℕ, suc, ◌+◌, ◌<◌, ◌≤◌, List, [], ◌∷◌, ◌++◌, length, refl, ap, sym, ◌∙◌, subst, arith}
use Rattle.std.proofs.lemmas.List.{length-append}
use Rattle.pq_base.specs.Limits.{max_rank, max_names}
use Rattle.pq_base.specs.LPresentation.{LPresentation, AreDistinct}
use Rattle.pq_base.specs.Presentation.{Presentation}
use Rattle.pq_base.specs.declared.prime.Prime.{Prime}
use Rattle.pq_base.specs.Prime.{prime_value}
use Rattle.pq_base.proofs.PrimeLaws.{prime_value-offered}
use Rattle.pq_base.specs.Answer.{Answer, class_of}
use Rattle.pq_base.specs.Canonical.{up_to_class}
use Rattle.pq_base.specs.Largest.{HasOrder}
use Rattle.pc_presentation.specs.Pcp.{TailedPresentation, IsTailedPresentation}
use Rattle.pc_presentation.specs.Parts.{trivial_answer}
use Rattle.derivation_log.specs.HeldSteps.{HeldStep, KeepsOneMore, KeepsTheSame}
use Rattle.cover_quotient.specs.Stages.{IsStage, IsNextStage, IsTower}
use Rattle.tower.specs.Answers.{IsGrown, IsQuotient, IsTooLarge}
use Rattle.cover_quotient.proofs.stages.FirstStages.{stages_are_largest, stages_have_their_class, stages_have_no_smaller_class}
use Rattle.cover_quotient.proofs.stages.Towers.{towers_start, towers_grow, towers_stay, towers_bound_orders}

pub quotient-from_tower : (L : LPresentation) (p c : ℕ) (A : Answer) → IsTower L p c A → A.presentation.rank ≤ max_rank → IsQuotient L p c A
quotient-from_tower L p c A tower few = record {
  largest = stages_are_largest L p c A tower.stage;
  cuts = λ j l. stages_are_largest L p j (up_to_class A j) (tower.stages j l);
  canonical = tower.stage.canonical;
  class = stages_have_their_class L p c A tower.stage;
  exact = λ k l. stages_have_no_smaller_class L p c A tower.stage k l;
  small = λ k r l big. towers_bound_orders L p c max_rank A tower few k r l big;
}

-- the stage as a step takes it
pub own-stage : (L : LPresentation) (p c : ℕ) (A : Answer) → IsGrown L p c A → IsStage L A.presentation.prime (class_of A) A
own-stage L p c A grown =
    subst (λ (q : ℕ). IsStage L q (class_of A) A) (sym grown.tower.stage.prime)
    (subst (λ (k : ℕ). IsStage L p k A) (sym grown.class) grown.tower.stage)

pub grown-next : (L : LPresentation) (p c : ℕ) (A N : Answer) → IsGrown L p c A → IsNextStage L p c A N → IsGrown L p (c + 1) N
grown-next L p c A N grown next =
    let place : suc c ≡ c + 1 = omega arith in
    record {
      tower = subst (λ (k : ℕ). IsTower L p k N) place (towers_grow L p c A N grown.tower next);
      class = next.class ∙ place;
    }

pub quotient-stopped : (L : LPresentation) (p c d : ℕ) (A : Answer) → IsGrown L p c A → ((k : ℕ) → c ≤ k → IsStage L p k A)
    → A.presentation.rank ≤ max_rank → c ≤ d → IsQuotient L p d A
quotient-stopped L p c d A grown stays few l =
    let class = grown.class in
    quotient-from_tower L p d A (towers_stay L p c A grown.tower (omega arith) stays d l) few

pub too_large-at : (L : LPresentation) (p c d rank : ℕ) (A : Answer) → IsGrown L p c A → A.presentation.rank ≤ max_rank → c < d
    → (max_rank < rank) × HasOrder L p (suc c) rank → IsTooLarge L p d (c + 1) rank
too_large-at L p c d rank A grown few l h =
    let place : suc c ≡ c + 1 = omega arith in
    record {
      first = omega arith;
      last = omega arith;
      large = h.0;
      order = subst (λ (k : ℕ). HasOrder L p k rank) place h.1;
      before = λ j s m big. towers_bound_orders L p c max_rank A grown.tower few j s (omega arith) big;
    }

-- the trivial answer has the class 0
pub grown-first : (L : LPresentation) (q : Prime) (names : List (List ℕ)) (A : Answer) → names ≡ L.names → 1 ≤ length L.names
    → length L.names ≤ max_names → AreDistinct L.names → A ≡ trivial_answer (prime_value q) names → IsGrown L (prime_value q) 0 A
grown-first L q names A named some limit distinct is =
    let same : A ≡ trivial_answer (prime_value q) L.names = is ∙ ap (trivial_answer (prime_value q)) named in
    subst (IsGrown L (prime_value q) 0) (sym same) (record {
      tower = towers_start L (prime_value q) (prime_value-offered q) some limit distinct;
      class = refl;
    })

-- the answer of the last class
pub quotient-last : (L : LPresentation) (p c d : ℕ) (A : Answer) → IsGrown L p c A → A.presentation.rank ≤ max_rank → c ≡ d
    → IsQuotient L p d A
quotient-last L p c d A grown few same = subst (λ (k : ℕ). IsQuotient L p k A) same (quotient-from_tower L p c A grown.tower few)

-- the ranks of values are at most the greatest
pub rank-few : (P : Presentation) (T : TailedPresentation) → T.presentation ≡ P → IsTailedPresentation T → P.rank ≤ max_rank
rank-few P T e is =
    let same : T.presentation.rank ≡ P.rank = ap (λ (Q : Presentation). Q.rank) e in
    omega (arith, same, is.rank_limit)

-- lists that are kept the same twice are kept the same
pub same-twice : (X Y Z : List HeldStep → Type 0) → KeepsTheSame X Y → KeepsTheSame Y Z → KeepsTheSame X Z
same-twice X Y Z first next steps = (λ h. (next steps).0 ((first steps).0 h), λ h. (first steps).1 ((next steps).1 h))

-- each list that is kept has one step more
pub one-more : (X Y : List HeldStep → Type 0) (s : HeldStep) (n : ℕ) → KeepsOneMore X Y s
    → ((steps : List HeldStep) → X steps → length steps ≡ n) → (steps : List HeldStep) → Y steps → length steps ≡ n + 1
one-more X Y s n more count steps h =
    let split = more.one_more steps h in
    let longer : length (split.0 ++ split.1 ∷ []) ≡ length split.0 + 1 = length-append split.0 (split.1 ∷ []) in
    let before = count split.0 split.2 in
    ap length split.3 ∙ longer ∙ ap (λ (k : ℕ). k + 1) before
