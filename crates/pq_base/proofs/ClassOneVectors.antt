-- The definitions of class one at small values: an elementary presentation, and three generators of which one is dropped.
use Rattle.std.proofs.Common.{◌≡◌, true, false, [], ◌∷◌, refl}
use Rattle.pq_base.specs.Answer.Definition.{image}
use Rattle.pq_base.specs.Elementary.{elementary}
use Rattle.pq_base.specs.ClassOne.{left_count, class_one_definitions}

elementary_of_rank_three : elementary 2 3 ≡ record {
  prime = 2;
  rank = 3;
  powers = (0 ∷ 0 ∷ []) ∷ (0 ∷ []) ∷ [] ∷ [];
  commutators = [] ∷ ((0 ∷ []) ∷ []) ∷ ([] ∷ [] ∷ []) ∷ [];
}
elementary_of_rank_three = refl

left_of_three : left_count (false ∷ true ∷ false ∷ []) ≡ 2
left_of_three = refl

definitions_of_three : class_one_definitions 1 (false ∷ true ∷ false ∷ []) ≡ image 1 ∷ image 3 ∷ []
definitions_of_three = refl
