-- The values of words in covers. In the cover of the dihedral answer of order eight with all five tails the squares of
-- both generators have rows, and their commutator has none. In a cover that is not consistent the value of a word in
-- which two letters cancel need not be that of the empty word.
use Rattle.std.proofs.Common.{◌≡◌, pos, negsuc, ℤ, List, [], ◌∷◌, refl}
use Rattle.pq_base.specs.Answer.{Answer}
use Rattle.pq_base.specs.Answer.Definition.{image, commutator, power}
use Rattle.pq_base.proofs.vectors.Answers.{answer_of_order_eight}
use Rattle.pc_presentation.specs.Collection.{State, plain_push, plain_push_from}
use Rattle.pc_presentation.specs.Tailed.{rowed_presentation}
use Rattle.p_cover.specs.Covers.{CoverOf, all_sources, cover_presentation}
use Rattle.p_cover.specs.Images.{ImagesOf, lifted_images}
use Rattle.p_cover.specs.ImageValues.{value_under}

abbrev pub plain_value : CoverOf → ImagesOf → List ℤ → State
plain_value C f w = value_under C (plain_push (rowed_presentation (cover_presentation C))) f w

-- tails for [a3,a1], [a3,a2], a3^2, a1^2 and a2^2
abbrev pub cover_of_order_eight : CoverOf
cover_of_order_eight = record { answer = answer_of_order_eight; sources = all_sources answer_of_order_eight }

-- x and y are a1 and a2, and their inverses a1 and a2 with the tails of their squares
abbrev pub images_of_order_eight : ImagesOf
images_of_order_eight = record {
  elements = lifted_images cover_of_order_eight;
  inverses =
      record { prime = 2; state = record { exponents = 1 ∷ 0 ∷ 0 ∷ []; row = 0 ∷ 0 ∷ 0 ∷ 1 ∷ 0 ∷ [] } }
      ∷ record { prime = 2; state = record { exponents = 0 ∷ 1 ∷ 0 ∷ []; row = 0 ∷ 0 ∷ 0 ∷ 0 ∷ 1 ∷ [] } }
      ∷ [];
}

-- x x
square_of_x : plain_value cover_of_order_eight images_of_order_eight (pos 1 ∷ pos 1 ∷ [])
    ≡ record { exponents = 0 ∷ 0 ∷ 0 ∷ []; row = 0 ∷ 0 ∷ 0 ∷ 1 ∷ 0 ∷ [] }
unfolding plain_push_from
square_of_x = refl

-- y y
square_of_y : plain_value cover_of_order_eight images_of_order_eight (pos 2 ∷ pos 2 ∷ [])
    ≡ record { exponents = 0 ∷ 0 ∷ 0 ∷ []; row = 0 ∷ 0 ∷ 0 ∷ 0 ∷ 1 ∷ [] }
unfolding plain_push_from
square_of_y = refl

-- y⁻¹ y
inverse_of_y_before_y : plain_value cover_of_order_eight images_of_order_eight (negsuc 1 ∷ pos 2 ∷ [])
    ≡ record { exponents = 0 ∷ 0 ∷ 0 ∷ []; row = 0 ∷ 0 ∷ 0 ∷ 0 ∷ 0 ∷ [] }
unfolding plain_push_from
inverse_of_y_before_y = refl

-- the commutator of y and x is a3, so it has no row
commutator_of_y_and_x : (plain_value cover_of_order_eight images_of_order_eight (negsuc 1 ∷ negsuc 0 ∷ pos 2 ∷ pos 1 ∷ [])).exponents
    ≡ 0 ∷ 0 ∷ 1 ∷ []
unfolding plain_push_from
commutator_of_y_and_x = refl

-- a2 from a1^2, a3 from [a2,a1]; this answer is not consistent, for a2 is a power of a1
abbrev inconsistent_answer : Answer
inconsistent_answer = record {
  presentation =
      record { prime = 2; rank = 3; powers = (1 ∷ 0 ∷ []) ∷ (0 ∷ []) ∷ [] ∷ []; commutators = [] ∷ ((1 ∷ []) ∷ []) ∷ ([] ∷ [] ∷ []) ∷ [] };
  weights = 1 ∷ 2 ∷ 3 ∷ [];
  names = (120 ∷ []) ∷ [];
  definitions = image 1 ∷ power 1 ∷ commutator 2 1 ∷ [];
  images = (1 ∷ 0 ∷ 0 ∷ []) ∷ [];
}

abbrev inconsistent_cover : CoverOf
inconsistent_cover = record { answer = inconsistent_answer; sources = [] }

-- x is a1, and its inverse a1 a2
abbrev inconsistent_images : ImagesOf
inconsistent_images = record {
  elements = lifted_images inconsistent_cover;
  inverses = record { prime = 2; state = record { exponents = 1 ∷ 1 ∷ 0 ∷ []; row = [] } } ∷ [];
}

-- x x⁻¹ has the value one
cancelling_behind : (plain_value inconsistent_cover inconsistent_images (pos 1 ∷ negsuc 0 ∷ [])).exponents ≡ 0 ∷ 0 ∷ 0 ∷ []
unfolding plain_push_from
cancelling_behind = refl

-- x⁻¹ x has the value a3
cancelling_before : (plain_value inconsistent_cover inconsistent_images (negsuc 0 ∷ pos 1 ∷ [])).exponents ≡ 0 ∷ 0 ∷ 1 ∷ []
unfolding plain_push_from
cancelling_before = refl
