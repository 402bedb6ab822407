-- Lists of image elements beside their inverses, made one by one: the empty lists are such, and an element in front of the
-- images, with its inverse in front of theirs, leaves them such.
use Rattle.std.proofs.Common.{◌≡◌, ◌<◌, ℕ, zero, suc, List, [], ◌∷◌, get_or, length, refl, ap, arith}
use Rattle.std.proofs.lemmas.List.Elements.{All-nil, All-cons}
use Rattle.pc_presentation.specs.Pcp.{TailedPresentation}
use Rattle.pc_presentation.specs.Rowed.{RowedPresentation}
use Rattle.pc_presentation.specs.Collection.{State, IsState, identity}
use Rattle.pc_presentation.specs.Arithmetic.{product_by, AreImages}
use Rattle.pc_presentation.specs.Tailed.{Element, rowed_presentation, IsElement}
use Rattle.pc_presentation.specs.ImageElements.{states_of, AreImageElements}

-- states, as images beside their inverses
module _ (Y : RowedPresentation) (push : State → ℕ → State) where
  pub no_images : AreImages Y push [] []
  no_images = record {
    states = λ i h. absurd (omega arith);
    inverse_states = λ i h. absurd (omega arith);
    inverses = λ i h. absurd (omega arith);
  }

  pub more_images : (u v : State) (f g : List State) → IsState Y Y.base.rank u → IsState Y Y.base.rank v
      → product_by Y push u v ≡ identity Y Y.base.rank → AreImages Y push f g → AreImages Y push (u ∷ f) (v ∷ g)
  more_images u v f g hu hv q a = record { states = states; inverse_states = inverse_states; inverses = inverses } where
    states : (i : ℕ) → i < suc (length f) → IsState Y Y.base.rank (get_or (u ∷ f) i (identity Y Y.base.rank))
    states zero h = hu
    states (suc i) h = a.states i (omega arith)

    inverse_states : (i : ℕ) → i < suc (length f) → IsState Y Y.base.rank (get_or (v ∷ g) i (identity Y Y.base.rank))
    inverse_states zero h = hv
    inverse_states (suc i) h = a.inverse_states i (omega arith)

    inverses : (i : ℕ) → i < suc (length f)
        → product_by Y push (get_or (u ∷ f) i (identity Y Y.base.rank)) (get_or (v ∷ g) i (identity Y Y.base.rank)) ≡ identity Y Y.base.rank
    inverses zero h = q
    inverses (suc i) h = a.inverses i (omega arith)

-- elements, as images beside their inverses
module _ (T : TailedPresentation) (push : State → ℕ → State) where
  pub no_image_elements : AreImageElements T push [] []
  no_image_elements = record {
    count = refl;
    images = All-nil (IsElement T);
    inverses = All-nil (IsElement T);
    states = no_images (rowed_presentation T) push;
  }

  pub more_image_elements : (u v : Element) (f g : List Element) → IsElement T u → IsElement T v
      → product_by (rowed_presentation T) push u.state v.state ≡ identity (rowed_presentation T) T.presentation.rank
      → AreImageElements T push f g → AreImageElements T push (u ∷ f) (v ∷ g)
  more_image_elements u v f g hu hv q a = record {
    count = ap suc a.count;
    images = All-cons (IsElement T) u f hu a.images;
    inverses = All-cons (IsElement T) v g hv a.inverses;
    states = more_images (rowed_presentation T) push u.state v.state (states_of f) (states_of g) hu.state hv.state q a.states;
  }
