-- Overlaps by the numbers of their generators, which count from 1.
use Rattle.std.specs.Prelude.{◌<◌, ◌≤◌, ◌-◌, ℕ, List, ◌++◌}
use Rattle.pc_presentation.specs.declared.syllable.Syllable.{Syllable}
use Rattle.pc_presentation.specs.declared.relation.Relation.{Relation}
use Rattle.pc_presentation.specs.declared.overlap.Overlap.{Overlap}
use Rattle.pc_presentation.specs.declared.overlap.Overlap.TheVariants.{Triple, Left, Right, Own}
use Rattle.pc_presentation.specs.Pcp.{TailedPresentation}
use Rattle.pc_presentation.specs.Collection.{Configuration}
use Rattle.pc_presentation.specs.Tailed.{places_of, side_with_tail}
use Rattle.pc_presentation.specs.Overlaps.{Overlap as OverlapOfPlaces, triple, left, right, own}

-- the numbers are those of n generators, and fall strictly
abbrev pub AreOverlapNumbers : ℕ → Overlap → Type 0
AreOverlapNumbers n (Triple k j i) = (1 ≤ i) × (i < j) × (j < k) × (k ≤ n)
AreOverlapNumbers n (Left j i) = (1 ≤ i) × (i < j) × (j ≤ n)
AreOverlapNumbers n (Right j i) = (1 ≤ i) × (i < j) × (j ≤ n)
AreOverlapNumbers n (Own i) = (1 ≤ i) × (i ≤ n)

-- the overlap of the generators at the places of these numbers
abbrev pub overlap_of : Overlap → OverlapOfPlaces
overlap_of (Triple k j i) = triple (k - 1) (j - 1) (i - 1)
overlap_of (Left j i) = left (j - 1) (i - 1)
overlap_of (Right j i) = right (j - 1) (i - 1)
overlap_of (Own i) = own (i - 1)

-- the letters of a sparse word, and behind them the right side of a relation with its tail
abbrev pub before_side : TailedPresentation → List Syllable → Relation → Configuration
before_side T w r = let side = side_with_tail T r in record { word = places_of w ++ side.word; row = side.row }
