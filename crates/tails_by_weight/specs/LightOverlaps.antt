-- Overlaps cut by weight: those in which the weights of the generators leave room for the next class. Numbers of generators count
-- from 1.
-- From: the bounds on the weights of consistency tests in M. R. Vaughan-Lee, An aspect of the nilpotent quotient algorithm, 1984.
use Rattle.std.specs.Prelude.{◌≤◌, ◌+◌, ◌-◌, ◌/◌, ℕ, suc, pred, min, List, ◌++◌, map}
use Rattle.std.specs.List.{flat_map}
use Rattle.pq_base.specs.Answer.{Answer, class_of}
use Rattle.pq_base.specs.Canonical.{numbers_from, weight_of, rank_up_to}
use Rattle.pc_presentation.specs.declared.overlap.Overlap.{Overlap}
use Rattle.pc_presentation.specs.declared.overlap.Overlap.TheVariants.{Triple, Left, Right, Own}
use Rattle.pc_presentation.specs.OverlapNumbers.{AreOverlapNumbers}

-- the weights of the generators of an overlap, and one more where a p-th power is among them, add up to at most the class and one
abbrev pub IsInside : Answer → Overlap → Type 0
IsInside A (Triple k j i) = weight_of A k + weight_of A j + weight_of A i ≤ suc (class_of A)
IsInside A (Left j i) = suc (weight_of A j + weight_of A i) ≤ suc (class_of A)
IsInside A (Right j i) = suc (weight_of A j + weight_of A i) ≤ suc (class_of A)
IsInside A (Own i) = suc (weight_of A i + weight_of A i) ≤ suc (class_of A)

-- an overlap within these bounds
pub record IsLightOverlap (A : Answer) (o : Overlap) : Type 0 where
  pub numbers : AreOverlapNumbers A.presentation.rank o
  pub inside : IsInside A o

-- the generators before j whose weight, with the weight w, is at most the class and one; weights never fall
abbrev pub with_room : Answer → ℕ → ℕ → List ℕ
with_room A w j = numbers_from 1 (min (pred j) (rank_up_to A (suc (class_of A) - w)))

abbrev pub light_triples_of : Answer → ℕ → ℕ → List Overlap
light_triples_of A k j = map (Triple k j) (with_room A (weight_of A k + weight_of A j) j)

abbrev pub light_triples_with : Answer → ℕ → List Overlap
light_triples_with A k = flat_map (light_triples_of A k) (with_room A (weight_of A k) k)

abbrev pub light_triples : Answer → List Overlap
light_triples A = flat_map (light_triples_with A) (numbers_from 1 A.presentation.rank)

abbrev pub light_pairs_with : (ℕ → ℕ → Overlap) → Answer → ℕ → List Overlap
light_pairs_with f A j = map (f j) (with_room A (suc (weight_of A j)) j)

abbrev pub light_pairs : (ℕ → ℕ → Overlap) → Answer → List Overlap
light_pairs f A = flat_map (light_pairs_with f A) (numbers_from 1 A.presentation.rank)

abbrev pub light_owns : Answer → List Overlap
light_owns A = map Own (numbers_from 1 (rank_up_to A (class_of A / 2)))

-- all overlaps within the bounds, in the order in which they are tested
abbrev pub light_overlaps : Answer → List Overlap
light_overlaps A = light_triples A ++ (light_pairs Left A ++ (light_pairs Right A ++ light_owns A))
