-- The images of the given generators as elements of a cover.
use Rattle.std.specs.Prelude.{◌≡◌, ℕ, List, map}
use Rattle.pc_presentation.specs.Collection.{State}
use Rattle.pc_presentation.specs.Tailed.{Element}
use Rattle.pc_presentation.specs.ImageElements.{AreImageElements}
use Rattle.p_cover.specs.RowedAnswer.{image_states}
use Rattle.p_cover.specs.Covers.{CoverOf, cover_presentation, rowed_cover}

-- what contracts see of images
pub record ImagesOf : Type 0 where
  pub elements : List Element
  pub inverses : List Element

-- the images with their tails
abbrev pub lifted_images : CoverOf → List Element
lifted_images C = map (λ (s : State). record { prime = C.answer.presentation.prime; state = s }) (image_states (rowed_cover C))

-- the images of a cover, and their inverses under a collector's pushes
pub record AreLifted (C : CoverOf) (push : State → ℕ → State) (f : ImagesOf) : Type 0 where
  pub elements : f.elements ≡ lifted_images C
  pub images : AreImageElements (cover_presentation C) push f.elements f.inverses
