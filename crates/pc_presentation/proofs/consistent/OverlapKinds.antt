-- What tells overlaps apart: the kind, and the numbers.
use Rattle.std.proofs.Common.{ℕ}
use Rattle.pc_presentation.specs.declared.overlap.Overlap.{Overlap}
use Rattle.pc_presentation.specs.declared.overlap.Overlap.TheVariants.{Triple, Left, Right, Own}

-- the kinds in their order
abbrev pub kind_of : Overlap → ℕ
kind_of (Triple k j i) = 0
kind_of (Left j i) = 1
kind_of (Right j i) = 2
kind_of (Own i) = 3

-- the number k of a triple, and 0 for other overlaps
abbrev pub latest_of : Overlap → ℕ
latest_of (Triple k j i) = k
latest_of _ = 0

-- the number j, and 0 where there is none
abbrev pub middle_of : Overlap → ℕ
middle_of (Triple k j i) = j
middle_of (Left j i) = j
middle_of (Right j i) = j
middle_of (Own i) = 0

-- the number i
abbrev pub earliest_of : Overlap → ℕ
earliest_of (Triple k j i) = i
earliest_of (Left j i) = i
earliest_of (Right j i) = i
earliest_of (Own i) = i
