-- Room for images that are carried along endomorphisms: lists of elements that are written over.
use Rattle.std.specs.Prelude.{◌≡◌, ℕ, ℤ, List, All, length, map}
use Rattle.pc_presentation.specs.Pcp.{TailedPresentation}
use Rattle.pc_presentation.specs.Collection.{State, identity}
use Rattle.pc_presentation.specs.Arithmetic.{evaluate_from}
use Rattle.pc_presentation.specs.Tailed.{Element, rowed_presentation, IsElement}
use Rattle.pc_presentation.specs.ImageElements.{states_of}
use Rattle.p_cover.specs.Covers.{CoverOf, cover_presentation}
use Rattle.p_cover.specs.Images.{ImagesOf}

-- room for the images of n generators, with their inverses
pub record IsRoom (T : TailedPresentation) (n : ℕ) (f : ImagesOf) : Type 0 where
  pub elements : All (IsElement T) f.elements
  pub inverses : All (IsElement T) f.inverses
  pub count : length f.elements ≡ n
  pub inverse_count : length f.inverses ≡ n

-- what contracts see of work
pub record Rooms : Type 0 where
  pub first : ImagesOf
  pub second : ImagesOf

-- work that was made for a cover
pub record IsWork (C : CoverOf) (w : Rooms) : Type 0 where
  pub first : IsRoom (cover_presentation C) (length C.answer.names) w.first
  pub second : IsRoom (cover_presentation C) (length C.answer.names) w.second

-- as many elements of one presentation
pub record AreAlike (f g : List Element) : Type 0 where
  pub presentation : TailedPresentation
  pub left : All (IsElement presentation) f
  pub right : All (IsElement presentation) g
  pub count : length f ≡ length g

-- the values of words under images f with inverses g
abbrev pub value_elements : TailedPresentation → (State → ℕ → State) → List Element → List Element → List (List ℤ) → List Element
value_elements T push f g words = let Y = rowed_presentation T in
    map (λ (u : List ℤ). record {
      prime = T.presentation.prime;
      state = evaluate_from Y push (states_of f) (states_of g) (identity Y Y.base.rank) u;
    }) words
