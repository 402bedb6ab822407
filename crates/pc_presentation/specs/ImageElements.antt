-- Elements as the images of generators, beside their inverses.
use Rattle.std.specs.Prelude.{◌≡◌, ℕ, zero, suc, ℤ, pos, negsuc, List, get_or, length, map, All}
use Rattle.pc_presentation.specs.Pcp.{TailedPresentation}
use Rattle.pc_presentation.specs.Collection.{State}
use Rattle.pc_presentation.specs.Arithmetic.{AreImages}
use Rattle.pc_presentation.specs.Tailed.{Element, rowed_presentation, IsElement}

abbrev pub states_of : List Element → List State
states_of es = map (λ (e : Element). e.state) es

-- the entry of f for a generator, and that of g for its inverse
abbrev pub letter_value : {X : Type 0} → List X → List X → X → ℤ → X
letter_value f g d (pos zero) = d
letter_value f g d (pos (suc i)) = get_or f i d
letter_value f g d (negsuc i) = get_or g i d

-- elements f of a presentation, and as many elements g, their inverses
pub record AreImageElements (T : TailedPresentation) (push : State → ℕ → State) (f g : List Element) : Type 0 where
  pub count : length g ≡ length f
  pub images : All (IsElement T) f
  pub inverses : All (IsElement T) g
  pub states : AreImages (rowed_presentation T) push (states_of f) (states_of g)
