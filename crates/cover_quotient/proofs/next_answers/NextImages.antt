-- The images of the next answer, as sparse words: each is the answer's image followed by what becomes of its tail. And the
-- parts of the next answer are parts of an answer.
use Rattle.std.proofs.Common.{◌≡◌, ℕ, zero, suc, ◌+◌, ◌-◌, ◌<◌, ◌≤◌, List, [], ◌∷◌, ◌++◌, length, map, get_or, refl, ap, ap₂, sym, ◌∙◌}
use Rattle.std.proofs.Common.{subst, arith}
use Rattle.std.proofs.lemmas.List.{length-map, get_or-map}
use Rattle.std.proofs.lemmas.List.Elements.{All-nil, All-cons}
use Rattle.pq_base.specs.Presentation.{Presentation, IsNormal}
use Rattle.pq_base.specs.Answer.{Answer, IsAnswer, AreNormal, Definition as Source}
use Rattle.pq_base.specs.Answer.Definition.{image}
use Rattle.pq_base.specs.Canonical.{numbers_from}
use Rattle.pc_presentation.specs.declared.syllable.Syllable.{Syllable}
use Rattle.pc_presentation.specs.declared.definition.Definition.{Definition}
use Rattle.pc_presentation.specs.Syllable.{spread, syllables_of, AreSyllables}
use Rattle.pc_presentation.specs.Definition.{definition_of}
use Rattle.pc_presentation.specs.Parts.{answer_of, AreImages, AreParts}
use Rattle.pc_presentation.specs.Pcp.{TailedPresentation, row_of}
use Rattle.pc_presentation.specs.Rowed.{followed_by}
use Rattle.pc_presentation.proofs.presentations.SyllableLaws.{spread-syllables_of, AreSyllables-syllables_of}
use Rattle.p_cover.specs.Sources.{place_in}
use Rattle.p_cover.specs.Covers.{CoverOf, rowed_cover}
use Rattle.pq_base.proofs.NumberLists.{length-numbers_from, get_or-map_numbers}
use Rattle.pq_base.proofs.NormalLists.{normal-entry}
use Rattle.cover_quotient.specs.Carried.{carried}
use Rattle.cover_quotient.specs.Combinations.{TailCombinations}
use Rattle.cover_quotient.specs.NextAnswer.{combined_answer}
use Rattle.cover_quotient.specs.NextParts.{IsPresentationOf}
use Rattle.pc_presentation.proofs.presentations.SyllableParts.{syllables_of-append}
use Rattle.pc_presentation.proofs.rows.FlatLaws.{length-followed_by, get_or-followed_by}

module _ (C : CoverOf) (K : TailCombinations) (is : IsAnswer C.answer) where
  abbrev carry : List ℕ → List ℕ
  carry = carried C.answer.presentation.prime (length K.kept) K.rows

  abbrev image_row : ℕ → List ℕ
  image_row i = row_of (length C.sources) (place_in C.sources (image i))

  rows_count : length C.answer.images ≡ length (map carry (rowed_cover C).image_rows)
  rows_count =
      is.image_count
      ∙ sym (length-map (map image_row (numbers_from 1 (length C.answer.names))) carry
      ∙ length-map (numbers_from 1 (length C.answer.names)) image_row ∙ length-numbers_from 1 (length C.answer.names))

  pub next_images-count : length (combined_answer C K).images ≡ length C.answer.names
  next_images-count = length-followed_by C.answer.images (map carry (rowed_cover C).image_rows) rows_count ∙ is.image_count

  next_image-exponents : (i : ℕ) → 1 ≤ i → i ≤ length C.answer.names
      → get_or (combined_answer C K).images (i - 1) [] ≡ get_or C.answer.images (i - 1) [] ++ carry (image_row i)
  next_image-exponents i first last =
      let inner : length (map image_row (numbers_from 1 (length C.answer.names))) ≡ length C.answer.names =
      length-map (numbers_from 1 (length C.answer.names)) image_row ∙ length-numbers_from 1 (length C.answer.names) in
      let place : 1 + (i - 1) ≡ i = omega arith in
      get_or-followed_by C.answer.images (map carry (rowed_cover C).image_rows) (i - 1) rows_count
      ∙ ap (λ (x : List ℕ). get_or C.answer.images (i - 1) [] ++ x)
      (get_or-map carry (map image_row (numbers_from 1 (length C.answer.names))) (i - 1) [] [] (omega arith)
      ∙ ap carry (get_or-map_numbers image_row 1 (length C.answer.names) (i - 1) [] (omega arith) ∙ ap image_row place))

  -- the image of a given generator
  pub next_image-is : (i : ℕ) → 1 ≤ i → i ≤ length C.answer.names
      → syllables_of 0 (get_or (combined_answer C K).images (i - 1) [])
      ≡ syllables_of 0 (get_or C.answer.images (i - 1) []) ++ syllables_of C.answer.presentation.rank
      (carried C.answer.presentation.prime (length K.kept) K.rows
      (row_of (length C.sources) (place_in C.sources (image i))))
  next_image-is i first last =
      let count = is.image_count in
      let normal = normal-entry C.answer.presentation.prime C.answer.presentation.rank C.answer.images (i - 1) is.images (omega arith) in
      let long : 0 + length (get_or C.answer.images (i - 1) []) ≡ C.answer.presentation.rank = let c = normal.count in omega arith in
      ap (syllables_of 0) (next_image-exponents i first last)
      ∙ syllables_of-append 0 (get_or C.answer.images (i - 1) []) (carry (image_row i))
      ∙ ap (λ (m : ℕ). syllables_of 0 (get_or C.answer.images (i - 1) []) ++ syllables_of m (carry (image_row i))) long

-- normal words as sparse words and back
words-restored : (p n : ℕ) (es : List (List ℕ)) → AreNormal p n es → map (spread n 0) (map (syllables_of 0) es) ≡ es
words-restored p n [] h = refl
words-restored p n (e ∷ es) h =
    ap₂ (λ (x : List ℕ) (xs : List (List ℕ)). x ∷ xs)
    (ap (λ (m : ℕ). spread m 0 (syllables_of 0 e)) (sym h.0.count) ∙ spread-syllables_of 0 e)
    (words-restored p n es h.1)

words-normal : (p n : ℕ) (es : List (List ℕ)) → AreNormal p n es → AreImages p n (map (syllables_of 0) es)
words-normal p n [] h = All-nil (λ w. AreSyllables p n 0 w)
words-normal p n (e ∷ es) h =
    let c = h.0.count in
    All-cons (λ w. AreSyllables p n 0 w) (syllables_of 0 e) (map (syllables_of 0) es)
    (AreSyllables-syllables_of p n 0 e (omega arith) h.0.below) (words-normal p n es h.1)

-- the parts of an answer
module _ (A : Answer) (is : IsAnswer A) (T : TailedPresentation) (names : List (List ℕ)) (definitions : List Definition)
    (words : List (List Syllable))
    (presentation : IsPresentationOf A T) (same_names : names ≡ A.names) (same_definitions : map definition_of definitions ≡ A.definitions)
    (same_words : words ≡ map (syllables_of 0) A.images) where
  same_images : map (spread T.presentation.rank 0) words ≡ A.images
  same_images =
      ap (λ (P : Presentation). map (spread P.rank 0) words) presentation.presentation
      ∙ ap (map (spread A.presentation.rank 0)) same_words ∙ words-restored A.presentation.prime A.presentation.rank A.images is.images

  pub parts-answer : answer_of T names definitions words ≡ A
  parts-answer =
      ap (λ (P : Presentation). let B : Answer = record {
        presentation = P;
        weights = T.weights;
        names = names;
        definitions = map definition_of definitions;
        images = map (spread T.presentation.rank 0) words;
      } in B) presentation.presentation
      ∙ ap (λ (ws : List ℕ). let B : Answer = record {
        presentation = A.presentation;
        weights = ws;
        names = names;
        definitions = map definition_of definitions;
        images = map (spread T.presentation.rank 0) words;
      } in B) presentation.weights
      ∙ ap (λ (ns : List (List ℕ)). let B : Answer = record {
        presentation = A.presentation;
        weights = A.weights;
        names = ns;
        definitions = map definition_of definitions;
        images = map (spread T.presentation.rank 0) words;
      } in B) same_names
      ∙ ap₂ (λ (ds : List Source) (es : List (List ℕ)). let B : Answer = record {
        presentation = A.presentation;
        weights = A.weights;
        names = A.names;
        definitions = ds;
        images = es;
      } in B) same_definitions same_images

  pub parts-fit : AreParts T names definitions words
  parts-fit = record {
    no_tails = presentation.tails;
    normal =
        subst (AreImages T.presentation.prime T.presentation.rank) (sym same_words)
        (subst (λ (P : Presentation). AreImages P.prime P.rank (map (syllables_of 0) A.images)) (sym presentation.presentation)
        (words-normal A.presentation.prime A.presentation.rank A.images is.images));
    answer = subst IsAnswer (sym parts-answer) is;
  }
