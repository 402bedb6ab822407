-- The images of given generators one by one, with their tails.
use Rattle.std.specs.Prelude.{◌≡◌, ◌-◌, ℕ, [], get_or, length}
use Rattle.pq_base.specs.Answer.Definition.{image}
use Rattle.pc_presentation.specs.Pcp.{TailedPresentation, row_of}
use Rattle.pc_presentation.specs.Collection.{State, identity}
use Rattle.pc_presentation.specs.Arithmetic.{product_by}
use Rattle.pc_presentation.specs.Tailed.{Element, rowed_presentation, IsElement}
use Rattle.p_cover.specs.Sources.{place_in}
use Rattle.p_cover.specs.Covers.{CoverOf}

-- the image of given generator i, counted from 1, with the row of its tail
abbrev pub lifted_image : CoverOf → ℕ → Element
lifted_image C i = record {
  prime = C.answer.presentation.prime;
  state = record { exponents = get_or C.answer.images (i - 1) []; row = row_of (length C.sources) (place_in C.sources (image i)) };
}

-- an element whose product behind u is the identity
pub record IsInverse (T : TailedPresentation) (push : State → ℕ → State) (u v : Element) : Type 0 where
  pub element : IsElement T v
  pub product : product_by (rowed_presentation T) push u.state v.state ≡ identity (rowed_presentation T) T.presentation.rank
