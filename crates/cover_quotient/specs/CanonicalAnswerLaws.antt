-- What is proved of canonical answers, and of commutators of the levels of a series. Each statement is the contract of a
-- function of `laws_of_canonical_answers`.
-- From: the lower exponent-p series, and this project's order of definitions.
use Rattle.std.specs.Prelude.{◌≡◌, ◌+◌, ◌<◌, ◌≤◌, ℕ, suc, ℤ, List, []}
use Rattle.pq_base.specs.Limits.{max_class}
use Rattle.pq_base.specs.SignedWord.{comm}
use Rattle.pq_base.specs.Presentation.{Presentation, IsPresentation}
use Rattle.pq_base.specs.Joined.{Joined, IsConsistent}
use Rattle.pq_base.specs.Series.{InSeries, HasClass}
use Rattle.pq_base.specs.Answer.{Answer, IsAnswer, class_of}
use Rattle.pq_base.specs.Answer.Definition.{commutator}
use Rattle.pq_base.specs.Canonical.{weight_of, up_to_class, ObeysWeights, TakesTurns, IsCanonical}
use Rattle.fp_echelon.specs.Reduced.{BasisRow}
use Rattle.pc_presentation.specs.Parts.{trivial_answer}
use Rattle.pc_presentation.specs.Rowed.{flat}
use Rattle.pc_presentation.specs.Collection.{State}
use Rattle.p_cover.specs.RowedAnswer.{rowed, row_at, tails_word}
use Rattle.p_cover.specs.Covers.{CoverOf, IsCover, rowed_cover}
use Rattle.cover_quotient.specs.AnswerLaws.{IsBasisOver, HoldsOverlaps, kept_count}
use Rattle.cover_quotient.specs.Levels.{IsReady}
use Rattle.cover_quotient.specs.NextAnswer.{eliminated}
use Rattle.cover_quotient.specs.Defining.{KeptMayDefine}

-- an answer that obeys weights, cut to class k, has class k
abbrev pub WeightsGiveTheClass : Type 0
WeightsGiveTheClass = (A : Answer) → IsAnswer A → ObeysWeights A → (k : ℕ) → HasClass (up_to_class A k).presentation k

-- a consistent answer that obeys weights is ready for the class after its own
abbrev pub ConsistentAnswersAreReady : Type 0
ConsistentAnswersAreReady = (A : Answer) → IsAnswer A → ObeysWeights A → IsConsistent A.presentation → IsReady A (class_of A)

-- a consistent and canonical answer has no smaller class than it shows
abbrev pub CanonicalAnswersHaveNoSmallerClass : Type 0
CanonicalAnswersHaveNoSmallerClass = (A : Answer) → IsAnswer A → IsCanonical A → IsConsistent A.presentation
    → (k : ℕ) → k < class_of A → ¬ HasClass A.presentation k

-- in every cover of a canonical answer, consistent or not, the tail of a commutator of generators whose weights have a sum
-- above the class and one is trivial
abbrev pub HeavyTailsAreTrivial : Type 0
HeavyTailsAreTrivial = (C : CoverOf) → IsCover C → IsCanonical C.answer → (j i : ℕ) → 1 ≤ i → i < j → j ≤ C.answer.presentation.rank
    → suc (class_of C.answer) < weight_of C.answer j + weight_of C.answer i
    → Joined (flat (rowed (rowed_cover C))) (tails_word (rowed_cover C) (row_at (rowed_cover C) (commutator j i))) []

-- where the entries of an answer define its generators in turn, so do those of the next one, consistent or not, and whatever the
-- cover leaves out
abbrev pub NextAnswersTakeTurns : Type 0
NextAnswersTakeTurns = (C : CoverOf) (bs : List BasisRow) → IsBasisOver C bs → KeptMayDefine C bs → class_of C.answer < max_class
    → 1 ≤ kept_count C bs → TakesTurns C.answer → TakesTurns (eliminated C bs)

-- over a canonical and consistent answer, where the span holds the overlap rows, the next answer is canonical
abbrev pub NextAnswersAreCanonical : Type 0
NextAnswersAreCanonical = (C : CoverOf) (bs : List BasisRow) (push : State → ℕ → State) → HoldsOverlaps C bs push → IsCanonical C.answer
    → KeptMayDefine C bs → 1 ≤ kept_count C bs → class_of C.answer < max_class → IsCanonical (eliminated C bs)

-- and the answer of class 0, from which answers of all classes come, is canonical
abbrev pub TrivialAnswersAreCanonical : Type 0
TrivialAnswersAreCanonical = (p : ℕ) (names : List (List ℕ)) → IsCanonical (trivial_answer p names)
