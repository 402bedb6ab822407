-- The images of given generators with their tails, one by one: each is the image's word and the row of its tail over zeros.
use Rattle.std.proofs.Common.{◌≡◌, ◌<◌, ◌≤◌, ◌+◌, ◌-◌, ℕ, zero, suc, Option, List, [], ◌∷◌, ◌++◌, get_or, length, replicate, take, refl, ap}
use Rattle.std.proofs.Common.{ap₂, sym, ◌∙◌, subst, arith}
use Rattle.std.specs.Prelude.{All}
use Rattle.std.proofs.lemmas.List.{length-map, length-replicate, get_or-map, take_more, take_all}
use Rattle.std.proofs.lemmas.List.Elements.{All-from_get_or}
use Rattle.pq_base.specs.Table.{AllBelow}
use Rattle.pq_base.specs.Presentation.{IsNormal}
use Rattle.pq_base.specs.Answer.{IsAnswer, AreNormal}
use Rattle.pq_base.specs.Answer.Definition.{image}
use Rattle.pq_base.specs.Canonical.{numbers_from}
use Rattle.pc_presentation.specs.declared.syllable.Syllable.{Syllable}
use Rattle.pc_presentation.specs.Relation.{IsTail}
use Rattle.pc_presentation.specs.Syllable.{spread, syllables_of, AreSyllables}
use Rattle.pc_presentation.specs.Pcp.{IsTailedPresentation, row_of}
use Rattle.pc_presentation.specs.Collection.{State}
use Rattle.pc_presentation.specs.Tailed.{Element, IsElement, one_of, with_state}
use Rattle.pc_presentation.proofs.presentations.SyllableLaws.{spread-syllables_of, AreSyllables-syllables_of}
use Rattle.pc_presentation.proofs.rows.TailRowLaws.{row_of-normal}
use Rattle.p_cover.specs.RowedAnswer.{states_with, image_states}
use Rattle.p_cover.specs.Sources.{place_in}
use Rattle.p_cover.specs.Covers.{CoverOf, cover_presentation, rowed_cover}
use Rattle.p_cover.specs.Images.{lifted_images}
use Rattle.p_cover.specs.Lifted.{lifted_image}
use Rattle.pq_base.proofs.NumberLists.{length-numbers_from, get_or-map_numbers}
use Rattle.pq_base.proofs.NormalLists.{normal-entry}
use Rattle.p_cover.proofs.PlaceLaws.{IsTail-place_in}

-- the entries of the images with rows
pub length-states_with : (es xs : List (List ℕ)) → length es ≡ length xs → length (states_with es xs) ≡ length es
length-states_with [] xs h = refl
length-states_with (e ∷ es) [] h = absurd (omega arith)
length-states_with (e ∷ es) (x ∷ xs) h = ap suc (length-states_with es xs (omega arith))

get_or-states_with : (es xs : List (List ℕ)) (i : ℕ) (d : State) → length es ≡ length xs → i < length es
    → get_or (states_with es xs) i d ≡ record { exponents = get_or es i []; row = get_or xs i [] }
get_or-states_with [] xs i d h l = absurd (omega arith)
get_or-states_with (e ∷ es) [] i d h l = absurd (omega arith)
get_or-states_with (e ∷ es) (x ∷ xs) zero d h l = refl
get_or-states_with (e ∷ es) (x ∷ xs) (suc i) d h l = get_or-states_with es xs i d (omega arith) (omega arith)

module _ (C : CoverOf) (is : IsAnswer C.answer) where
  rows_count : length C.answer.images ≡ length (rowed_cover C).image_rows
  rows_count =
      is.image_count
      ∙ sym (length-map (numbers_from 1 (length C.answer.names)) (λ i. row_of (length C.sources) (place_in C.sources (image i)))
      ∙ length-numbers_from 1 (length C.answer.names))

  pub length-lifted_images : length (lifted_images C) ≡ length C.answer.names
  length-lifted_images =
      length-map (image_states (rowed_cover C))
      (λ (s : State). let e : Element = record { prime = C.answer.presentation.prime; state = s } in e)
      ∙ length-states_with C.answer.images (rowed_cover C).image_rows rows_count ∙ is.image_count

  pub get_or-lifted_images : (k : ℕ) (d : Element) → k < length C.answer.names → get_or (lifted_images C) k d ≡ lifted_image C (k + 1)
  get_or-lifted_images k d h =
      let count : length C.answer.images ≡ length C.answer.names = is.image_count in
      let long : length (image_states (rowed_cover C)) ≡ length C.answer.images =
      length-states_with C.answer.images (rowed_cover C).image_rows rows_count in
      let make : State → Element = λ (s : State). let e : Element = record { prime = C.answer.presentation.prime; state = s } in e in
      let back : k ≡ k + 1 - 1 = omega arith in
      let next : 1 + k ≡ k + 1 = omega arith in
      get_or-map make (image_states (rowed_cover C)) k d.state d (omega arith)
      ∙ ap make (get_or-states_with C.answer.images (rowed_cover C).image_rows k d.state rows_count (omega arith)
      ∙ ap₂ (λ (e x : List ℕ). let s : State = record { exponents = e; row = x } in s)
      (ap (λ (i : ℕ). get_or C.answer.images i []) back)
      (get_or-map_numbers (λ i. row_of (length C.sources) (place_in C.sources (image i))) 1 (length C.answer.names) k [] h
      ∙ ap (λ (i : ℕ). row_of (length C.sources) (place_in C.sources (image i))) next))

  -- one more
  pub lifted-more : (front new : List Element) (e : Element) (k : ℕ) → k < length C.answer.names → front ≡ take k (lifted_images C)
      → e ≡ lifted_image C (k + 1) → new ≡ front ++ e ∷ [] → new ≡ take (k + 1) (lifted_images C)
  lifted-more front new e k h so_far next more =
      more ∙ ap₂ (λ (l : List Element) (x : Element). l ++ x ∷ []) so_far (next ∙ sym (get_or-lifted_images k e h))
      ∙ sym (take_more (lifted_images C) k e (omega (arith, length-lifted_images)))

  -- all of them are there in the end
  pub all_lifted : (items : List Element) (k : ℕ) → length C.answer.names ≤ k → items ≡ take k (lifted_images C) → items ≡ lifted_images C
  all_lifted items k h e = e ∙ take_all k (lifted_images C) (omega (arith, length-lifted_images))

  pub lifted_images-elements : IsTailedPresentation (cover_presentation C) → All (IsElement (cover_presentation C)) (lifted_images C)
  lifted_images-elements T =
      let count : length C.answer.images ≡ length C.answer.names = is.image_count in
      let long : length (lifted_images C) ≡ length C.answer.names = length-lifted_images in
      let none : Element = record { prime = 0; state = record { exponents = []; row = [] } } in
      All-from_get_or (IsElement (cover_presentation C)) (lifted_images C) none (λ k l.
      let back : k + 1 - 1 ≡ k = omega arith in
      subst (IsElement (cover_presentation C)) (sym (get_or-lifted_images k none (omega arith))) (record {
        presentation = T;
        prime = refl;
        state = record {
          exponents =
              subst (λ (i : ℕ). IsNormal C.answer.presentation.prime C.answer.presentation.rank (get_or C.answer.images i [])) (sym back)
              (normal-entry C.answer.presentation.prime C.answer.presentation.rank C.answer.images k is.images (omega arith));
          row = row_of-normal C.answer.presentation.prime (length C.sources) (place_in C.sources (image (k + 1)))
              T.presentation.prime;
        };
      }))

-- the element of zeros of a cover
abbrev zeros_of : CoverOf → Element
zeros_of C = one_of (cover_presentation C)

abbrev image_exponents : CoverOf → ℕ → List ℕ
image_exponents C i = get_or C.answer.images (i - 1) []

module _ (C : CoverOf) (i : ℕ) (e : Element) (w : List Syllable) (zeros : e ≡ zeros_of C) where
  -- the exponents of a word in place of zeros, and then the row of a tail
  abbrev with_word : Element → Element
  with_word x = with_state x (record { exponents = spread (length x.state.exponents) 0 w; row = x.state.row })

  abbrev with_row : Option ℕ → Element → Element
  with_row t x = with_state x (record { exponents = x.state.exponents; row = row_of (length x.state.row) t })

  width : (f : Element) → f ≡ with_word e → length f.state.row ≡ length C.sources
  width f h = ap (λ (x : Element). length x.state.row) (h ∙ ap with_word zeros) ∙ length-replicate (length C.sources) 0

  pub image-tail : (f : Element) (t : Option ℕ) → f ≡ with_word e → t ≡ place_in C.sources (image i) → IsTail (length f.state.row) t
  image-tail f t h q =
      subst (λ (n : ℕ). IsTail n t) (sym (width f h)) (subst (IsTail (length C.sources)) (sym q) (IsTail-place_in C.sources (image i)))

  module _ (is : IsAnswer C.answer) (first : 1 ≤ i) (last : i ≤ length C.answer.names)
      (word : w ≡ syllables_of 0 (image_exponents C i)) where
    image-normal : IsNormal C.answer.presentation.prime C.answer.presentation.rank (image_exponents C i)
    image-normal =
        let count : length C.answer.images ≡ length C.answer.names = is.image_count in
        normal-entry C.answer.presentation.prime C.answer.presentation.rank C.answer.images (i - 1) is.images (omega arith)

    zeros_count : length e.state.exponents ≡ C.answer.presentation.rank
    zeros_count = ap (λ (x : Element). length x.state.exponents) zeros ∙ length-replicate C.answer.presentation.rank 0

    pub image-syllables : AreSyllables e.prime (length e.state.exponents) 0 w
    image-syllables =
        let count : length (image_exponents C i) ≡ C.answer.presentation.rank = image-normal.count in
        let same : length e.state.exponents ≡ C.answer.presentation.rank = zeros_count in
        subst (λ (v : List Syllable). AreSyllables e.prime (length e.state.exponents) 0 v) (sym word)
        (AreSyllables-syllables_of e.prime (length e.state.exponents) 0 (image_exponents C i) (omega arith)
        (subst (λ (p : ℕ). AllBelow p (image_exponents C i)) (sym (ap (λ (x : Element). x.prime) zeros)) image-normal.below))

    image-spread : spread (length e.state.exponents) 0 w ≡ image_exponents C i
    image-spread =
        ap (λ (n : ℕ). spread n 0 w) (zeros_count ∙ sym image-normal.count) ∙ ap (spread (length (image_exponents C i)) 0) word
        ∙ spread-syllables_of 0 (image_exponents C i)

    pub lifted-steps : (f g : Element) (t : Option ℕ) → f ≡ with_word e → t ≡ place_in C.sources (image i) → g ≡ with_row t f
        → g ≡ lifted_image C i
    lifted-steps f g t h q r =
        let made : Element = record {
          prime = C.answer.presentation.prime;
          state = record { exponents = image_exponents C i; row = replicate (length C.sources) 0 };
        } in
        let image_made : f ≡ made =
        h ∙ ap₂ (λ (x : Element) (y : List ℕ). with_state x (record { exponents = y; row = x.state.row })) zeros image-spread in
        r ∙ ap (with_row t) image_made
        ∙ ap₂ (λ (n : ℕ) (u : Option ℕ). with_state made (record { exponents = image_exponents C i; row = row_of n u }))
        (length-replicate (length C.sources) 0) q
