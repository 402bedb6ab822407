-- The values of words over the given generators in a cover. Where such a value has no exponent, the word has a row: the tails
-- of its value.
-- From: the p-covering groups of Newman and O'Brien's method, in which the relators are enforced by linear algebra.
use Rattle.std.specs.Prelude.{◌≡◌, ℕ, ℤ, List}
use Rattle.pq_base.specs.Elementary.{zeros}
use Rattle.pc_presentation.specs.Collection.{State, identity}
use Rattle.pc_presentation.specs.Arithmetic.{evaluate_from}
use Rattle.pc_presentation.specs.Tailed.{rowed_presentation}
use Rattle.pc_presentation.specs.ImageElements.{states_of}
use Rattle.p_cover.specs.Covers.{CoverOf, cover_presentation}
use Rattle.p_cover.specs.Images.{ImagesOf, AreLifted}

-- the value of a word in a cover, by a collector's pushes, under images with their inverses
abbrev pub value_under : CoverOf → (State → ℕ → State) → ImagesOf → List ℤ → State
value_under C push f w = let Y = rowed_presentation (cover_presentation C) in
    evaluate_from Y push (states_of f.elements) (states_of f.inverses) (identity Y Y.base.rank) w

-- the row of a word under the images of the cover: the tails of its value, which has no exponent
pub record IsRowOfWord (C : CoverOf) (push : State → ℕ → State) (w : List ℤ) (x : List ℕ) : Type 0 where
  pub images : ImagesOf
  pub lifted : AreLifted C push images
  pub zero : (value_under C push images w).exponents ≡ zeros C.answer.presentation.rank
  pub row : x ≡ (value_under C push images w).row
