-- A source has one row in a cover at most: inverses are unique, so the images of the cover have one list of inverses, and so have those
-- that are carried along endomorphisms.
use Rattle.std.proofs.Common.{◌≡◌, ◌<◌, ◌-◌, ℕ, ℤ, List, [], ◌∷◌, get_or, length, refl, ap, ap₂, sym, ◌∙◌, subst, arith}
use Rattle.std.proofs.lemmas.List.{ext_get_or, get_or-map, length-map}
use Rattle.pq_base.specs.LPresentation.{LPresentation, endo_at}
use Rattle.pc_presentation.specs.Collection.{State, IsState, identity}
use Rattle.pc_presentation.specs.Arithmetic.{HasArithmetic}
use Rattle.pc_presentation.specs.Pcp.{TailedPresentation}
use Rattle.pc_presentation.specs.Tailed.{Element, rowed_presentation, IsElement, one_of}
use Rattle.pc_presentation.specs.ImageElements.{states_of, AreImageElements}
use Rattle.p_cover.specs.Covers.{CoverOf, cover_presentation}
use Rattle.p_cover.specs.Images.{ImagesOf, AreLifted}
use Rattle.p_cover.specs.ImageValues.{value_under, IsRowOfWord}
use Rattle.p_cover.specs.ImagesAlong.{AreComposed, AreCarried, IsRowAlongEndos}
use Rattle.p_cover.specs.ImagesAlong.AreCarried.{nowhere, onward}
use Rattle.derivation_log.specs.declared.source.RowSource.{RowSource}
use Rattle.derivation_log.specs.declared.source.RowSource.TheVariants.{Test, Fixed, Iterated}
use Rattle.derivation_log.specs.RowSources.{IsRowOf, AreRowsOf}

module _ (T : TailedPresentation) (push : State → ℕ → State) (arithmetic : HasArithmetic (rowed_presentation T) push) where
  same_element : (e f : Element) → IsElement T e → IsElement T f → e.state ≡ f.state → e ≡ f
  same_element e f is also same =
      ap₂ (λ (p : ℕ) (s : State). record { prime = p; state = s }) (is.prime ∙ sym also.prime) same

  -- elements have one list of inverses
  pub one_list_of_inverses : (f g h : List Element) → AreImageElements T push f g → AreImageElements T push f h → g ≡ h
  one_list_of_inverses f g h first second =
      let some : Element = one_of T in
      let none : State = identity (rowed_presentation T) T.presentation.rank in
      let count = first.count in
      let count_too = second.count in
      let long = length-map f (λ (e : Element). e.state) in
      ext_get_or some g h (count ∙ sym count_too) (λ i l.
      let inside : i < length (states_of f) = omega (arith, l, long, count) in
      let state_g : get_or (states_of g) i none ≡ (get_or g i some).state = get_or-map (λ (e : Element). e.state) g i some none l in
      let inside_h : i < length h = omega (arith, l, count, count_too) in
      let state_h : get_or (states_of h) i none ≡ (get_or h i some).state = get_or-map (λ (e : Element). e.state) h i some none inside_h in
      let start : IsState (rowed_presentation T) T.presentation.rank none =
      subst (IsState (rowed_presentation T) T.presentation.rank)
      (first.states.inverses i inside)
      (arithmetic.product_states (get_or (states_of f) i none) (get_or (states_of g) i none)
      (first.states.states i inside) (first.states.inverse_states i inside)) in
      let quotient = arithmetic.quotients (get_or (states_of f) i none) none (first.states.states i inside) start in
      let one : get_or (states_of g) i none ≡ quotient.0 =
      quotient.1.only (get_or (states_of g) i none) (first.states.inverse_states i inside) (first.states.inverses i inside) in
      let other : get_or (states_of h) i none ≡ quotient.0 =
      quotient.1.only (get_or (states_of h) i none) (second.states.inverse_states i inside) (second.states.inverses i inside) in
      same_element (get_or g i some) (get_or h i some) (first.inverses i some l) (second.inverses i some inside_h)
      (sym state_g ∙ one ∙ sym other ∙ state_h))

module _ (C : CoverOf) (push : State → ℕ → State) (arithmetic : HasArithmetic (rowed_presentation (cover_presentation C)) push) where
  same_images : (f g : ImagesOf) → f.elements ≡ g.elements → AreImageElements (cover_presentation C) push f.elements f.inverses
      → AreImageElements (cover_presentation C) push g.elements g.inverses → f ≡ g
  same_images f g same first second =
      ap₂ (λ (es is : List Element). record { elements = es; inverses = is }) same
      (one_list_of_inverses (cover_presentation C) push arithmetic g.elements f.inverses g.inverses
      (subst (λ (es : List Element). AreImageElements (cover_presentation C) push es f.inverses) same first) second)

  -- a cover has one list of images with their inverses
  pub one_lift : (f g : ImagesOf) → AreLifted C push f → AreLifted C push g → f ≡ g
  one_lift f g first second = same_images f g (first.elements ∙ sym second.elements) first.images second.images

  one_composed : (f g h : ImagesOf) (endo : List (List ℤ)) → AreComposed C push f endo g → AreComposed C push f endo h → g ≡ h
  one_composed f g h endo first second =
      same_images g h (first.elements ∙ sym second.elements) first.images second.images

  -- and carries them to one
  pub one_carried : (endos : List (List (List ℤ))) {f g h : ImagesOf} {s : List ℕ} → AreCarried C push endos f s g
      → AreCarried C push endos f s h → g ≡ h
  one_carried endos nowhere nowhere = refl
  one_carried endos {f} {g} {h} (onward {g = m} {s = s} e composed rest) (onward {g = n} i composed_too rest_too) =
      one_carried endos rest
      (subst (λ (k : ImagesOf). AreCarried C push endos k s h) (sym (one_composed f m n (endo_at endos e) composed composed_too)) rest_too)

  -- so a word has one row
  pub one_row_of_word : (w : List ℤ) (x y : List ℕ) → IsRowOfWord C push w x → IsRowOfWord C push w y → x ≡ y
  one_row_of_word w x y first second =
      first.row
      ∙ ap (λ (f : ImagesOf). (value_under C push f w).row) (one_lift first.images second.images first.lifted second.lifted)
      ∙ sym second.row

  one_row_along : (endos : List (List (List ℤ))) (s : List ℕ) (w : List ℤ) (x y : List ℕ) → IsRowAlongEndos C push endos s w x
      → IsRowAlongEndos C push endos s w y → x ≡ y
  one_row_along endos s w x y first second =
      first.row
      ∙ ap (λ (f : ImagesOf). (value_under C push f w).row)
      (one_carried endos first.carried
      (subst (λ (f : ImagesOf). AreCarried C push endos f s second.images)
      (one_lift second.start first.start second.lifted first.lifted) second.carried))
      ∙ sym second.row

  -- and a source has
  pub one_row : (L : LPresentation) (s : RowSource) (x y : List ℕ) → IsRowOf L C push s x → IsRowOf L C push s y → x ≡ y
  one_row L (Test o) x y first second =
      let a = first.row in let b = second.row in a.row ∙ sym b.row
  one_row L (Fixed i) x y first second = one_row_of_word (get_or L.fixed (i - 1) []) x y first.row second.row
  one_row L (Iterated i []) x y first second = one_row_of_word (get_or L.iterated (i - 1) []) x y first.row second.row
  one_row L (Iterated i (e ∷ s)) x y first second =
      one_row_along L.endos (e ∷ s) (get_or L.iterated (i - 1) []) x y first.row second.row

  -- and a list of sources
  pub one_list_of_rows : (L : LPresentation) (ss : List RowSource) (xs ys : List (List ℕ)) → AreRowsOf L C push ss xs
      → AreRowsOf L C push ss ys → xs ≡ ys
  one_list_of_rows L [] [] [] first second = refl
  one_list_of_rows L [] [] (y ∷ ys) first second = absurd second
  one_list_of_rows L [] (x ∷ xs) ys first second = absurd first
  one_list_of_rows L (s ∷ ss) [] ys first second = absurd first
  one_list_of_rows L (s ∷ ss) (x ∷ xs) [] first second = absurd second
  one_list_of_rows L (s ∷ ss) (x ∷ xs) (y ∷ ys) first second =
      ap₂ (λ (r : List ℕ) (rs : List (List ℕ)). r ∷ rs) (one_row L s x y first.0 second.0) (one_list_of_rows L ss xs ys first.1 second.1)
