-- What is proved of overlaps and their rows. Each statement is the contract of a function of `laws`.
-- From: the consistency relations of M. R. Vaughan-Lee, An aspect of the nilpotent quotient algorithm, 1984, in covers of
-- Newman and O'Brien's method.
use Rattle.std.specs.Prelude.{◌≢◌, ◌↔◌, ◌<◌, ℕ, []}
use Rattle.std.specs.List.{AllPairs, Contains}
use Rattle.pq_base.specs.Presentation.{word_from}
use Rattle.pq_base.specs.Joined.{Joined}
use Rattle.pc_presentation.specs.declared.overlap.Overlap.{Overlap}
use Rattle.pc_presentation.specs.OverlapNumbers.{AreOverlapNumbers}
use Rattle.pc_presentation.specs.Rowed.{RowedPresentation, IsRowed, flat}
use Rattle.pc_presentation.specs.Collection.{State}
use Rattle.pc_presentation.specs.Overlaps.{Overlap as OverlapOfPlaces, IsOverlap}
use Rattle.pc_presentation.specs.Arithmetic.{IsMeaning}
use Rattle.consistency.specs.AllOverlaps.{all_overlaps}
use Rattle.pc_presentation.specs.OverlapRows.{ExponentsAgree, overlap_row}

-- the list has the overlaps of n generators and no other, and none at two places
pub record HasEachOverlapOnce (n : ℕ) : Type 0 where
  pub members : (o : Overlap) → Contains (all_overlaps n) o ↔ AreOverlapNumbers n o
  pub once : AllPairs (λ o e. o ≢ e) (all_overlaps n)

abbrev pub EachOverlapOnce : Type 0
EachOverlapOnce = (n : ℕ) → HasEachOverlapOnce n

-- where both ways reach the same exponents, the row of an overlap is a trivial word of the tails; the presentation need not
-- be consistent
abbrev pub OverlapRowsAreTrivial : Type 0
OverlapRowsAreTrivial = (Y : RowedPresentation) → IsRowed Y → (push : State → ℕ → State) → IsMeaning Y push
    → (o : OverlapOfPlaces) → IsOverlap Y.base.rank o → ExponentsAgree Y push o
    → Joined (flat Y) (word_from Y.base.rank (overlap_row Y push o)) []
