-- All overlaps of n generators, in the order in which they are tested: by kinds, and in each kind rising with the latest
-- generator first. Numbers of generators count from 1.
-- From: the consistency relations of M. R. Vaughan-Lee, An aspect of the nilpotent quotient algorithm, 1984.
use Rattle.std.specs.Prelude.{◌-◌, ℕ, List, ◌++◌, map}
use Rattle.std.specs.List.{flat_map}
use Rattle.pq_base.specs.Canonical.{numbers_from}
use Rattle.pc_presentation.specs.declared.overlap.Overlap.{Overlap}
use Rattle.pc_presentation.specs.declared.overlap.Overlap.TheVariants.{Triple, Left, Right, Own}

-- an overlap for each number below j
abbrev pub with_smaller : (ℕ → ℕ → Overlap) → ℕ → List Overlap
with_smaller f j = map (f j) (numbers_from 1 (j - 1))

-- an overlap for each two numbers j > i up to n
abbrev pub pairs : (ℕ → ℕ → Overlap) → ℕ → List Overlap
pairs f n = flat_map (with_smaller f) (numbers_from 1 n)

-- the triples of k and two smaller numbers
abbrev pub triples_with : ℕ → List Overlap
triples_with k = pairs (Triple k) (k - 1)

abbrev pub triples : ℕ → List Overlap
triples n = flat_map triples_with (numbers_from 1 n)

abbrev pub owns : ℕ → List Overlap
owns n = map Own (numbers_from 1 n)

abbrev pub all_overlaps : ℕ → List Overlap
all_overlaps n = triples n ++ (pairs Left n ++ (pairs Right n ++ owns n))
