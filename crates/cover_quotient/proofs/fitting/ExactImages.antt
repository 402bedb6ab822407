-- What defines a generator fails by nothing, so a full cover leaves nothing out that fails; and where nothing left out fails,
-- the images of a cover are exactly the elements given.
use Rattle.std.proofs.Common.{◌≡◌, ◌≢◌, ℕ, suc, ◌<◌, ◌≤◌, ◌-◌, None, Some, ℤ, List, [], ◌∷◌, ◌++◌, get_or, length, map, refl, ap, ap₂, sym}
use Rattle.std.proofs.Common.{◌∙◌, arith, inl, inr}
use Rattle.std.specs.List.{Contains}
use Rattle.std.proofs.lemmas.Bool.{cases_eq}
use Rattle.std.proofs.lemmas.List.{get_or_default}
use Rattle.std.proofs.lemmas.Option.{none-some}
use Rattle.pq_base.specs.SignedWord.{inv}
use Rattle.pq_base.specs.Table.{Table, IsGroup, AllBelow, times, value}
use Rattle.pq_base.specs.Answer.{Answer, Definition, IsAnswer, definition_at, spelled}
use Rattle.pq_base.specs.Answer.Definition.{image}
use Rattle.pq_base.proofs.groups.Groups.{value_in}
use Rattle.pq_base.proofs.groups.GroupQuotients.{value_in-quotient}
use Rattle.pq_base.proofs.tables.TableLaws.{inverse-times, value-below}
use Rattle.pq_base.proofs.tables.TableGroup.{Element, table_group, elements, get_or-elements, value-append, value-inv}
use Rattle.pq_base.proofs.tables.TableQuotients.{in_level, in_level-normal}
use Rattle.p_cover.specs.RowedAnswer.{IsRowedAnswer, rowed_images}
use Rattle.pq_base.specs.EntryWords.{IsSourceOf, spelling_words, entry_word}
use Rattle.p_cover.specs.Sources.{place_in, IsPartOf}
use Rattle.p_cover.specs.Covers.{cover_on, all_sources}
use Rattle.p_cover.proofs.PartLaws.{part_of_itself}
use Rattle.p_cover.proofs.CoverRows.{definition-source, covers_are_rowed_answers}
use Rattle.p_cover.proofs.RowedSpellings.{rowed_image}
use Rattle.p_cover.proofs.SourcesOnce.{each_source_once, tails_and_sources_are_inverse}
use Rattle.p_cover.proofs.SourceNumbers.{source-by_name, source-by_place}
use Rattle.cover_quotient.specs.Fits.{spelled_elements, tail_element}
use Rattle.pq_base.proofs.words.SpelledLists.{definition-entry}
use Rattle.pq_base.proofs.groups.LevelGroups.{numbers, numbers-elements, value_in-number}
use Rattle.cover_quotient.proofs.fitting.TailValues.{spelled_in, with_tails, images-value}
use Rattle.cover_quotient.proofs.fitting.CoverValues.{entry_elements, cover-entries}
use Rattle.cover_quotient.proofs.fitting.CoverFits.{numbers-append}

module _ (T : Table) (g : IsGroup T) (f : List ℕ) (h : AllBelow T.size f) (A : Answer) (is : IsAnswer A) where
  pub definition-holds : (k : ℕ) → k < A.presentation.rank → tail_element T f A (definition_at A k) ≡ 0
  definition-holds k l =
      let d : Definition = definition_at A k in
      let u : List ℤ = spelled A.presentation.prime (spelling_words A) (definition_at A k) in
      ap (value T f) (definition-entry A is k l (source-by_place A is d (definition-source A k d is l (is.definitions k l))))
      ∙ value-append T g f h (inv u) u
      ∙ ap (λ (x : ℕ). times T x (value T f u)) (value-inv T g f h u)
      ∙ inverse-times T g (value T f u) (value-below T g f h u)

  -- what is none of the sources
  not_left_out : (d : Definition) → IsSourceOf A d → ((k : ℕ) → k < A.presentation.rank → definition_at A k ≢ d)
      → place_in (all_sources A) d ≡ None → ⊥
  not_left_out d s none e =
      let among : Contains (all_sources A) d = ((each_source_once A is).members d).1 (source-by_name A is d s, none) in
      let inside : among.0 < length (all_sources A) = among.1 in
      let back : suc among.0 - 1 ≡ among.0 = omega arith in
      let place : place_in (all_sources A) d ≡ Some (suc among.0) =
      (tails_and_sources_are_inverse A (all_sources A) (part_of_itself (all_sources A)) d (suc among.0)).1
      (omega arith, omega arith, ap (λ (i : ℕ). get_or (all_sources A) i (image 0)) back ∙ entry_here (all_sources A) among) in
      none-some (suc among.0) (sym e ∙ place)
    where
      entry_here : (ds : List Definition) (c : Contains ds d) → get_or ds c.0 (image 0) ≡ d
      entry_here ds c = get_or_default ds c.0 (image 0) d c.1 ∙ c.2

  pub left_out-holds : (d : Definition) → IsSourceOf A d → place_in (all_sources A) d ≡ None → tail_element T f A d ≡ 0
  left_out-holds d s e = elim (cases_eq (tail_element T f A d) 0) [
    | inl holds ↦ holds
    | inr fails ↦
        absurd (not_left_out d s (λ k l same. fails (ap (tail_element T f A) (sym same) ∙ definition-holds k l)) e)
  ]

-- values in the table
module _ (T : Table) (g : IsGroup T) where
  number-value : (fs : List (Element T)) (w : List ℤ) → (value_in (table_group T g) fs w).number ≡ value T (numbers T g 2 0 fs) w
  number-value fs w =
      ap (λ (x : Element T). x.number) (sym (value_in-quotient (table_group T g) (in_level T g 2 0) (in_level-normal T g 2 0) fs w))
      ∙ value_in-number T g 2 0 fs w

  module _ (f : List ℕ) (h : AllBelow T.size f) where
    given-value : (w : List ℤ) → (value_in (table_group T g) (elements T f h) w).number ≡ value T f w
    given-value w = number-value (elements T f h) w ∙ ap (λ (l : List ℕ). value T l w) (numbers-elements T g 2 0 f h)

    spelled-numbers : (words : List (List ℤ))
        → numbers T g 2 0 (map (λ (w : List ℤ). value_in (table_group T g) (elements T f h) w) words) ≡ map (value T f) words
    spelled-numbers [] = refl
    spelled-numbers (w ∷ words) = ap₂ (λ (x : ℕ) (xs : List ℕ). x ∷ xs) (given-value w) (spelled-numbers words)

    entry-numbers : (A : Answer) (ds : List Definition)
        → numbers T g 2 0 (entry_elements (table_group T g) (elements T f h) A ds) ≡ map (tail_element T f A) ds
    entry-numbers A [] = refl
    entry-numbers A (d ∷ ds) = ap₂ (λ (x : ℕ) (xs : List ℕ). x ∷ xs) (given-value (entry_word A d)) (entry-numbers A ds)

    module _ (A : Answer) (is : IsAnswer A) (some : 2 ≤ A.presentation.prime) (ds : List Definition) (part : IsPartOf ds (all_sources A))
        (left_out : (d : Definition) → IsSourceOf A d → place_in ds d ≡ None → tail_element T f A d ≡ 0) where
      abbrev F : List (Element T)
      F = elements T f h

      abbrev H : List (Element T)
      H = with_tails (table_group T g) F A is (entry_elements (table_group T g) F A ds)

      cover : IsRowedAnswer (cover_on A ds)
      cover = (covers_are_rowed_answers A ds is part).0

      exact-number : (w : List ℤ)
          → (value_in (table_group T g) H w).number ≡ value T (spelled_elements T f A ++ map (tail_element T f A) ds) w
      exact-number w =
          number-value H w
          ∙ ap (λ (l : List ℕ). value T l w)
          (numbers-append T g 2 0 (spelled_in (table_group T g) F A) (entry_elements (table_group T g) F A ds)
          ∙ ap₂ (λ (xs ys : List ℕ). xs ++ ys) (spelled-numbers (spelling_words A)) (entry-numbers A ds))

      pub exact-image : (i : ℕ) → i < length A.images
          → value T (spelled_elements T f A ++ map (tail_element T f A) ds) (get_or (rowed_images (cover_on A ds)) i []) ≡ get_or f i 0
      exact-image i l =
          let w : List ℤ = get_or (rowed_images (cover_on A ds)) i [] in
          sym (exact-number w)
          ∙ ap (λ (v : List ℤ). (value_in (table_group T g) H v).number) (rowed_image (cover_on A ds) cover i)
          ∙ images-value (table_group T g) F (cover_on A ds) is cover.presentation (entry_elements (table_group T g) F A ds)
          (cover-entries (table_group T g) F A is ds (λ d s e. given-value (entry_word A d) ∙ left_out d s e)) i l
          ∙ get_or-elements T g f h i
