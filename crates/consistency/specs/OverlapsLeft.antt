-- The overlaps that are left where a given one comes next.
use Rattle.std.specs.Prelude.{◌-◌, ℕ, suc, Option, Some, None, List, [], ◌++◌, map}
use Rattle.std.specs.List.{flat_map}
use Rattle.pq_base.specs.Canonical.{numbers_from}
use Rattle.pc_presentation.specs.declared.overlap.Overlap.{Overlap}
use Rattle.pc_presentation.specs.declared.overlap.Overlap.TheVariants.{Triple, Left, Right, Own}
use Rattle.consistency.specs.AllOverlaps.{with_smaller, pairs, triples_with, owns}

-- those of two numbers j > i up to n, from the one of j and i on
abbrev pub pairs_from : (ℕ → ℕ → Overlap) → ℕ → ℕ → ℕ → List Overlap
pairs_from f n j i = map (f j) (numbers_from i (j - i)) ++ flat_map (with_smaller f) (numbers_from (suc j) (n - j))

-- all overlaps of n generators from a given one on
abbrev pub from_overlap : ℕ → Overlap → List Overlap
from_overlap n (Triple k j i) =
    (pairs_from (Triple k) (k - 1) j i ++ flat_map triples_with (numbers_from (suc k) (n - k)))
    ++ (pairs Left n ++ (pairs Right n ++ owns n))
from_overlap n (Left j i) = pairs_from Left n j i ++ (pairs Right n ++ owns n)
from_overlap n (Right j i) = pairs_from Right n j i ++ owns n
from_overlap n (Own i) = map Own (numbers_from i (suc n - i))

-- what is left where an overlap comes next, or none
abbrev pub left_from : ℕ → Option Overlap → List Overlap
left_from n None = []
left_from n (Some o) = from_overlap n o

-- what is left of the pairs up to n where a pair comes next, or none
abbrev pub pairs_left : (ℕ → ℕ → Overlap) → ℕ → Option (ℕ × ℕ) → List Overlap
pairs_left f n None = []
pairs_left f n (Some p) = pairs_from f n p.0 p.1
