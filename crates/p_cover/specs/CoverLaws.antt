-- What holds of the sources of tails, and of every cover.
use Rattle.std.specs.Prelude.{◌≡◌, ◌≢◌, ◌≤◌, ◌<◌, ◌-◌, ◌↔◌, ℕ, true, Some, List, get_or, length}
use Rattle.std.specs.List.{AllPairs, Contains}
use Rattle.pq_base.specs.Answer.{Answer, Definition as Source, IsAnswer, class_of, definition_at}
use Rattle.pq_base.specs.Answer.Definition.{image, commutator, power}
use Rattle.pq_base.specs.Canonical.{is_qualifying}
use Rattle.pc_presentation.specs.Tailed.{rowed_presentation}
use Rattle.p_cover.specs.RowedAnswer.{IsRowedAnswer, rowed}
use Rattle.p_cover.specs.Sources.{place_in, IsPartOf}
use Rattle.p_cover.specs.Covers.{covering, cover_on, all_sources}

-- a relation of the generators of an answer, or the image of one of its names
abbrev pub IsSource : Answer → Source → Type 0
IsSource A (image i) = (1 ≤ i) × (i ≤ length A.names)
IsSource A (commutator j i) = (1 ≤ i) × (i < j) × (j ≤ A.presentation.rank)
IsSource A (power j) = (1 ≤ j) × (j ≤ A.presentation.rank)

-- tail t comes from d exactly where d carries tail t
abbrev pub TailsAndSourcesAreInverse : Type 0
TailsAndSourcesAreInverse = (A : Answer) (ds : List Source) → IsPartOf ds (all_sources A) → (d : Source) (t : ℕ)
    → (place_in ds d ≡ Some t) ↔ ((1 ≤ t) × (t ≤ length ds) × (get_or ds (t - 1) (image 0) ≡ d))

-- what defines no generator, and nothing else, is a source of the full cover, and once
pub record HasEachOnce (A : Answer) : Type 0 where
  pub members : (d : Source)
      → Contains (all_sources A) d ↔ (IsSource A d × ((k : ℕ) → k < A.presentation.rank → definition_at A k ≢ d))
  pub once : AllPairs (λ d e. d ≢ e) (all_sources A)

abbrev pub EachSourceOnce : Type 0
EachSourceOnce = (A : Answer) → IsAnswer A → HasEachOnce A

-- no source that qualifies comes after one that doesn't; at class 0 none qualifies
abbrev pub QualifyingSourcesComeFirst : Type 0
QualifyingSourcesComeFirst = (A : Answer) → 1 ≤ class_of A
    → AllPairs (λ d e. is_qualifying A (class_of A) e ≡ true → is_qualifying A (class_of A) d ≡ true) (all_sources A)

-- a cover is an answer with rows, which its presentation with tails has too
abbrev pub CoversAreRowedAnswers : Type 0
CoversAreRowedAnswers = (A : Answer) (ds : List Source) → IsAnswer A → IsPartOf ds (all_sources A)
    → IsRowedAnswer (cover_on A ds) × (rowed (cover_on A ds) ≡ rowed_presentation (covering A ds))
