-- Images of the given generators carried along a list of endomorphisms, and the values and rows of words under them. No word
-- grows: lists of images are composed, the first endomorphism of the list first.
-- From: L. Bartholdi, Endomorphic presentations of branch groups, 2003, and the p-covering groups of Newman and O'Brien's method.
use Rattle.std.specs.Prelude.{◌≡◌, ◌↔◌, ℕ, ℤ, Bool, IsTrue, List, [], ◌∷◌, map}
use Rattle.pq_base.specs.LPresentation.{endo_at}
use Rattle.pq_base.specs.Elementary.{zeros}
use Rattle.pc_presentation.specs.Collection.{State}
use Rattle.pc_presentation.specs.Tailed.{Element}
use Rattle.pc_presentation.specs.ImageElements.{AreImageElements}
use Rattle.p_cover.specs.Covers.{CoverOf, cover_presentation}
use Rattle.p_cover.specs.Images.{ImagesOf, AreLifted}
use Rattle.p_cover.specs.ImageValues.{value_under}

-- the values of the images under an endomorphism
abbrev pub composed_elements : CoverOf → (State → ℕ → State) → ImagesOf → List (List ℤ) → List Element
composed_elements C push f endo = map (λ (u : List ℤ). record { prime = C.answer.presentation.prime; state = value_under C push f u }) endo

-- images g are f composed with an endomorphism: the values of its images under f, and their inverses
pub record AreComposed (C : CoverOf) (push : State → ℕ → State) (f : ImagesOf) (endo : List (List ℤ)) (g : ImagesOf) : Type 0 where
  pub elements : g.elements ≡ composed_elements C push f endo
  pub images : AreImageElements (cover_presentation C) push g.elements g.inverses

-- images g are f composed with endomorphisms one after the other
pub data AreCarried (C : CoverOf) (push : State → ℕ → State) (endos : List (List (List ℤ))) : ImagesOf → List ℕ → ImagesOf → Type 0 where
  nowhere : {f : ImagesOf} → AreCarried C push endos f [] f
  onward : {f g h : ImagesOf} {s : List ℕ} (e : ℕ) → AreComposed C push f (endo_at endos e) g → AreCarried C push endos g s h
      → AreCarried C push endos f (e ∷ s) h

-- what is found of a word along a list of endomorphisms, from images f on: whether its value under the carried images has
-- no exponent, and if so the tails of that value
pub record IsFoundAlong (C : CoverOf) (push : State → ℕ → State) (endos : List (List (List ℤ))) (f : ImagesOf) (s : List ℕ)
    (w : List ℤ) (found : Bool) (x : List ℕ) : Type 0 where
  pub images : ImagesOf
  pub carried : AreCarried C push endos f s images
  pub decided : IsTrue found ↔ (value_under C push images w).exponents ≡ zeros C.answer.presentation.rank
  pub row : IsTrue found → x ≡ (value_under C push images w).row

-- the row of a word along a list of endomorphisms, from the images of the cover on
pub record IsRowAlongEndos (C : CoverOf) (push : State → ℕ → State) (endos : List (List (List ℤ))) (s : List ℕ) (w : List ℤ)
    (x : List ℕ) : Type 0 where
  pub start : ImagesOf
  pub lifted : AreLifted C push start
  pub images : ImagesOf
  pub carried : AreCarried C push endos start s images
  pub zero : (value_under C push images w).exponents ≡ zeros C.answer.presentation.rank
  pub row : x ≡ (value_under C push images w).row
