-- What is proved of the stages of a tower. Each statement is the contract of a function of `laws_of_stages`.
-- From: Newman and O'Brien's p-quotient method.
use Rattle.std.specs.Prelude.{◌≡◌, ◌≤◌, ◌<◌, ◌↔◌, ℕ, suc, List, length}
use Rattle.pq_base.specs.Limits.{max_class, max_names}
use Rattle.pq_base.specs.LPresentation.{LPresentation, IsLPresentation, Obeys, AreDistinct}
use Rattle.pq_base.specs.Relators.{HasMoreRelators}
use Rattle.pq_base.specs.Joined.{IsConsistent}
use Rattle.pq_base.specs.Prime.{IsOffered}
use Rattle.pq_base.specs.Series.{HasClass}
use Rattle.pq_base.specs.Answer.{Answer, IsAnswer, class_of}
use Rattle.pq_base.specs.Largest.{Kills, IsLargest, HasOrder}
use Rattle.fp_echelon.specs.Reduced.{BasisRow}
use Rattle.fp_echelon.specs.Basis.{Echelon}
use Rattle.pc_presentation.specs.Collection.{State}
use Rattle.pc_presentation.specs.Arithmetic.{IsMeaning}
use Rattle.pc_presentation.specs.NormalTable.{normal_table}
use Rattle.pc_presentation.specs.Parts.{trivial_answer}
use Rattle.p_cover.specs.RowedAnswer.{rowed}
use Rattle.p_cover.specs.Covers.{CoverOf, IsCover, all_sources, rowed_cover}
use Rattle.cover_quotient.specs.NextAnswer.{eliminated}
use Rattle.cover_quotient.specs.AnswerLaws.{kept_count}
use Rattle.cover_quotient.specs.Defining.{KeptMayBeKept, KeptMayDefine}
use Rattle.cover_quotient.specs.Stages.{image_numbers, IsStage, IsFitted, IsTrustedBasis, OwesToObeying, IsBasisOfRows, IsLightCover}
use Rattle.cover_quotient.specs.Stages.{IsNextStage, IsTower}

-- the table of normal words obeys an L-presentation exactly where the answer kills its relators
abbrev pub TablesObeyWhatIsKilled : Type 0
TablesObeyWhatIsKilled = (L : LPresentation) (A : Answer) → IsAnswer A → IsConsistent A.presentation → A.names ≡ L.names
    → Obeys (normal_table A.presentation) (image_numbers A) L ↔ Kills L A

-- the trivial answer is a stage of class 0
abbrev pub TrivialAnswersAreStages : Type 0
TrivialAnswersAreStages = (L : LPresentation) (p : ℕ) → IsOffered p → 1 ≤ length L.names → length L.names ≤ max_names → AreDistinct L.names
    → IsStage L p 0 (trivial_answer p L.names)

-- each stage is the largest quotient of its class
abbrev pub StagesAreLargest : Type 0
StagesAreLargest = (L : LPresentation) (p c : ℕ) (A : Answer) → IsStage L p c A → IsLargest L p c A

-- it has the class that it shows
abbrev pub StagesHaveTheirClass : Type 0
StagesHaveTheirClass = (L : LPresentation) (p c : ℕ) (A : Answer) → IsStage L p c A → HasClass A.presentation (class_of A)

-- and no smaller one
abbrev pub StagesHaveNoSmallerClass : Type 0
StagesHaveNoSmallerClass = (L : LPresentation) (p c : ℕ) (A : Answer) → IsStage L p c A → (k : ℕ) → k < class_of A
    → ¬ HasClass A.presentation k

-- a stage whose answer kills all of a presentation with more relators is a stage of that one
abbrev pub StagesOfMoreRelators : Type 0
StagesOfMoreRelators = (L M : LPresentation) (p c : ℕ) (A : Answer) → HasMoreRelators L M → IsStage L p c A → Kills M A → IsStage M p c A

-- full covers owe nothing
abbrev pub FullCoversOwe : Type 0
FullCoversOwe = (L : LPresentation) (C : CoverOf) → IsCover C → C.sources ≡ all_sources C.answer → OwesToObeying L C

-- and covers that leave out heavy commutators owe what holds by itself
abbrev pub LightCoversOwe : Type 0
LightCoversOwe = (L : LPresentation) (C : CoverOf) → IsLightCover C → OwesToObeying L C

-- a stage is an answer that elements fit
abbrev pub StagesAreFitted : Type 0
StagesAreFitted = (L : LPresentation) (p c : ℕ) (A : Answer) → IsStage L p c A → IsFitted L p c A

-- consistent or not, elements fit the next answer at the next level, where the kept tails may be kept
abbrev pub NextAnswersAreFitted : Type 0
NextAnswersAreFitted = (L : LPresentation) (p c : ℕ) (C : CoverOf) (rows : List (List ℕ)) (bs : List BasisRow) → IsFitted L p c C.answer
    → OwesToObeying L C → IsTrustedBasis L C rows bs → class_of C.answer ≡ c → KeptMayBeKept C bs → c < max_class → 1 ≤ kept_count C bs
    → IsFitted L p (suc c) (eliminated C bs)

-- and the same answer at every later level, where no tail is kept
abbrev pub FittedAnswersStay : Type 0
FittedAnswersStay = (L : LPresentation) (p c : ℕ) (C : CoverOf) (rows : List (List ℕ)) (bs : List BasisRow) → IsFitted L p c C.answer
    → OwesToObeying L C → IsTrustedBasis L C rows bs → kept_count C bs ≡ 0 → (d : ℕ) → c ≤ d → IsFitted L p d C.answer

-- an answer that elements fit is the largest quotient once it is consistent, has the class and kills the relators
abbrev pub FittedAnswersAreLargest : Type 0
FittedAnswersAreLargest = (L : LPresentation) (p c : ℕ) (A : Answer) → IsFitted L p c A → IsConsistent A.presentation
    → HasClass A.presentation c → Kills L A → IsLargest L p c A

-- a basis of the rows of the overlaps and relators in a cover of the stage of class c that owes what it leaves out
pub record IsStepOf (L : LPresentation) (p c : ℕ) (C : CoverOf) (push : State → ℕ → State) (B : Echelon) : Type 0 where
  pub words : IsLPresentation L
  pub stage : IsStage L p c C.answer
  pub class : class_of C.answer ≡ c
  pub owes : OwesToObeying L C
  pub meaning : IsMeaning (rowed (rowed_cover C)) push
  pub rows : IsBasisOfRows L C push B

-- each tail that it keeps may define a generator
abbrev pub KeptTailsOfStagesMayDefine : Type 0
KeptTailsOfStagesMayDefine = (L : LPresentation) (p c : ℕ) (C : CoverOf) (push : State → ℕ → State) (B : Echelon) → IsStepOf L p c C push B
    → KeptMayDefine C B.rows

-- where it keeps a tail, the next answer is the stage of the next class
abbrev pub NextAnswersAreStages : Type 0
NextAnswersAreStages = (L : LPresentation) (p c : ℕ) (C : CoverOf) (push : State → ℕ → State) (B : Echelon) → IsStepOf L p c C push B
    → c < max_class → 1 ≤ kept_count C B.rows → IsNextStage L p c C.answer (eliminated C B.rows)

-- where it keeps none, the answer is the stage of every later class
abbrev pub StagesStay : Type 0
StagesStay = (L : LPresentation) (p c : ℕ) (C : CoverOf) (push : State → ℕ → State) (B : Echelon) → IsStepOf L p c C push B
    → kept_count C B.rows ≡ 0 → (d : ℕ) → c ≤ d → IsStage L p d C.answer

-- the trivial answer is a tower of class 0, and a next stage makes a tower of one class more
abbrev pub TowersStart : Type 0
TowersStart = (L : LPresentation) (p : ℕ) → IsOffered p → 1 ≤ length L.names → length L.names ≤ max_names → AreDistinct L.names
    → IsTower L p 0 (trivial_answer p L.names)

abbrev pub TowersGrow : Type 0
TowersGrow = (L : LPresentation) (p c : ℕ) (A N : Answer) → IsTower L p c A → IsNextStage L p c A N → IsTower L p (suc c) N

-- a tower whose answer is the stage of every later class is a tower of each of them
abbrev pub TowersStay : Type 0
TowersStay = (L : LPresentation) (p c : ℕ) (A : Answer) → IsTower L p c A → class_of A ≤ c → ((d : ℕ) → c ≤ d → IsStage L p d A)
    → (d : ℕ) → c ≤ d → IsTower L p d A

-- in a tower of at most so many generators no largest quotient up to its class has a greater order
abbrev pub TowersBoundOrders : Type 0
TowersBoundOrders = (L : LPresentation) (p c n : ℕ) (A : Answer) → IsTower L p c A → A.presentation.rank ≤ n → (k r : ℕ) → k ≤ c → n < r
    → ¬ HasOrder L p k r
