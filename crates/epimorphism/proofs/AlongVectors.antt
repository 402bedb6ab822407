-- Images carried along an endomorphism. In the cover of the dihedral answer of order eight with all five tails the endomorphism
-- that exchanges the generators carries the images to each other, so that the square of x has along it the row of the square
-- of y.
use Rattle.std.proofs.Common.{◌≡◌, pos, ℤ, List, [], ◌∷◌, refl}
use Rattle.pc_presentation.specs.Collection.{plain_push, plain_push_from}
use Rattle.pc_presentation.specs.Tailed.{rowed_presentation}
use Rattle.p_cover.specs.Covers.{cover_presentation}
use Rattle.p_cover.specs.Images.{ImagesOf}
use Rattle.p_cover.specs.ImagesAlong.{composed_elements}
use Rattle.epimorphism.proofs.RelatorVectors.{plain_value, cover_of_order_eight, images_of_order_eight}

-- x -> y, y -> x
abbrev exchange : List (List ℤ)
exchange = (pos 2 ∷ []) ∷ (pos 1 ∷ []) ∷ []

-- a2 and a1, and their inverses
abbrev exchanged_images : ImagesOf
exchanged_images = record {
  elements =
      record { prime = 2; state = record { exponents = 0 ∷ 1 ∷ 0 ∷ []; row = 0 ∷ 0 ∷ 0 ∷ 0 ∷ 0 ∷ [] } }
      ∷ record { prime = 2; state = record { exponents = 1 ∷ 0 ∷ 0 ∷ []; row = 0 ∷ 0 ∷ 0 ∷ 0 ∷ 0 ∷ [] } }
      ∷ [];
  inverses =
      record { prime = 2; state = record { exponents = 0 ∷ 1 ∷ 0 ∷ []; row = 0 ∷ 0 ∷ 0 ∷ 0 ∷ 1 ∷ [] } }
      ∷ record { prime = 2; state = record { exponents = 1 ∷ 0 ∷ 0 ∷ []; row = 0 ∷ 0 ∷ 0 ∷ 1 ∷ 0 ∷ [] } }
      ∷ [];
}

images_exchanged : composed_elements cover_of_order_eight (plain_push (rowed_presentation (cover_presentation cover_of_order_eight)))
    images_of_order_eight exchange
    ≡ exchanged_images.elements
unfolding plain_push_from
images_exchanged = refl

-- x x
square_of_x_along : plain_value cover_of_order_eight exchanged_images (pos 1 ∷ pos 1 ∷ [])
    ≡ record { exponents = 0 ∷ 0 ∷ 0 ∷ []; row = 0 ∷ 0 ∷ 0 ∷ 0 ∷ 1 ∷ [] }
unfolding plain_push_from
square_of_x_along = refl
