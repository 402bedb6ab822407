-- Where each row of a matrix is the value of the image of the word that its tail stands for, and the images of the words of what a
-- cover leaves out die in the cover, rows times the matrix are the rows of the words' images. For joined words stay joined where the
-- generators become the images of what they spell, and the tails the words of the matrix's rows.
use Rattle.std.proofs.Common.{◌≡◌, ℕ, zero, suc, ◌+◌, ◌-◌, ◌<◌, Option, None, Some, ℤ, List, [], ◌∷◌, get_or, length, map, inl, inr, refl}
use Rattle.std.proofs.Common.{ap, sym, ◌∙◌, subst, arith}
use Rattle.std.proofs.lemmas.Bool.{cases_lt}
use Rattle.std.proofs.lemmas.List.{length-map, get_or_append_left}
use Rattle.std.proofs.Math.ListN.{get_or-map}
use Rattle.pq_base.specs.SignedWord.{sub}
use Rattle.pq_base.specs.LPresentation.{AreWords}
use Rattle.pq_base.specs.Presentation.{Presentation, word_from}
use Rattle.pq_base.specs.Joined.{Joined}
use Rattle.pq_base.specs.Answer.{Answer, Definition as Source}
use Rattle.pq_base.specs.Answer.Definition.{image}
use Rattle.pq_base.specs.EntryWords.{IsSourceOf, entry_word}
use Rattle.pq_base.proofs.words.WordLaws.{sub-sub}
use Rattle.pq_base.proofs.words.LetterLaws.{HasLetters-sub, HasLetters-word_from}
use Rattle.pq_base.proofs.words.JoinedLaws.{joined-from_equal, joined-sym, joined-trans, joined-copies}
use Rattle.pq_base.proofs.words.CentralWords.{central-joined}
use Rattle.pq_base.proofs.words.WordGroup.{joined-sub_same}
use Rattle.fp_rows.specs.Rows.{IsRow}
use Rattle.fp_echelon.specs.Span.{AreRows}
use Rattle.fp_echelon.specs.Matrix.{times_matrix}
use Rattle.fp_echelon.proofs.SpanLaws.{AreRows-entry}
use Rattle.pc_presentation.specs.Rowed.{RowedPresentation, IsRowed, flat}
use Rattle.pc_presentation.specs.RowedLaws.{IsUpToRow}
use Rattle.pc_presentation.proofs.rows.RowsCentral.{row_word-central, row_word-power}
use Rattle.pc_presentation.proofs.rows.Lifting.{up_to_row-joined}
use Rattle.p_cover.specs.RowedAnswer.{IsRowedAnswer, rowed, rowed_images, tails_word}
use Rattle.p_cover.specs.Sources.{place_in}
use Rattle.p_cover.specs.Covers.{CoverOf, IsCover, rowed_cover}
use Rattle.p_cover.proofs.CoverRows.{covers_are_rowed_answers}
use Rattle.p_cover.proofs.PlaceLaws.{place_from-has}
use Rattle.cover_quotient.proofs.carried_rows.CarriedRows.{normal_from_row}
use Rattle.cover_quotient.proofs.carried_rows.RowWords.{row_words-combine}
use Rattle.cover_quotient.proofs.fitting.CoverValues.{entry_elements}
use Rattle.cover_quotient.proofs.fitting.TailValues.{spelled_in, length-spelled_in, with_tails, get_or-tail}
use Rattle.endo_lift.specs.Lifts.{AreJoinedIn, AreImageRows, CarriesRows}
use Rattle.endo_lift.proofs.RangedWords.{ranged_group}
use Rattle.endo_lift.proofs.RowedImages.{AreWords-rowed_images}
use Rattle.endo_lift.proofs.CoverWords.{IsCentralOfOrder, carried_words, carried_words-tail, row-carried}

-- the image of the word of what the cover leaves out dies in the cover
abbrev pub LeftOutImagesDie : CoverOf → List (List ℤ) → Type 0
LeftOutImagesDie C endo = (d : Source) → IsSourceOf C.answer d → place_in C.sources d ≡ None
    → AreJoinedIn C (sub (sub (entry_word C.answer d) endo) (rowed_images (rowed_cover C))) []

-- words of rows are central, of order p
pub up_to_row-central : (Z : RowedPresentation) → IsRowed Z → 1 < Z.base.prime → (u : List ℤ) → IsUpToRow Z u []
    → IsCentralOfOrder (flat Z) Z.base.prime u
up_to_row-central Z is big u r = record {
  central = central-joined (flat Z) (joined-sym r.joined) (row_word-central Z is r.row r.normal.count);
  order = joined-trans (joined-copies Z.base.prime r.joined) (row_word-power Z is (omega arith) r.row r.normal);
}

pub AreWords-map_sub : (n : ℕ) (f : List (List ℤ)) → AreWords n f → (words : List (List ℤ))
    → AreWords n (map (λ (u : List ℤ). sub u f) words)
AreWords-map_sub n f h [] = tt
AreWords-map_sub n f h (w ∷ words) = (HasLetters-sub n w f h, AreWords-map_sub n f h words)

pub cover-rowed : (C : CoverOf) → IsCover C → IsRowedAnswer (rowed_cover C)
cover-rowed C is = (covers_are_rowed_answers C.answer C.sources is.answer is.sources).0

module _ (C : CoverOf) (is : IsCover C) (endo : List (List ℤ)) (count : length endo ≡ length C.answer.names) (rows : List (List ℕ))
    (are : AreRows C.answer.presentation.prime (length C.sources) rows) (long : length rows ≡ length C.sources)
    (image_rows : AreImageRows C endo rows) (left_out : LeftOutImagesDie C endo) where
  abbrev A : Answer
  A = C.answer

  abbrev n : ℕ
  n = C.answer.presentation.rank

  abbrev p : ℕ
  p = C.answer.presentation.prime

  abbrev q : ℕ
  q = length C.sources

  abbrev Z : RowedPresentation
  Z = rowed (rowed_cover C)

  abbrev F : Presentation
  F = flat (rowed (rowed_cover C))

  abbrev images : List (List ℤ)
  images = rowed_images (rowed_cover C)

  -- what the given generators become
  abbrev f : List (List ℤ)
  f = map (λ (u : List ℤ). sub u images) endo

  is_rowed : IsRowed Z
  is_rowed = (cover-rowed C is).presentation

  big : 1 < p
  big = is.answer.presentation.prime

  inside : AreWords (n + q) f
  inside = AreWords-map_sub (n + q) images (AreWords-rowed_images (rowed_cover C) (cover-rowed C is)) endo

  image_row : (t : ℕ) → t < q → IsRow p q (get_or rows t [])
  image_row t l = AreRows-entry p q rows t [] (omega arith) are

  -- the image of each entry word has a row
  by_place : (d : Source) → IsSourceOf A d → (o : Option ℕ) → place_in C.sources d ≡ o
      → IsUpToRow Z (sub (sub (entry_word A d) endo) images) []
  by_place d s None e = up_to_row-joined Z (omega arith) (left_out d s e)
  by_place d s (Some zero) e = let at = place_from-has 1 C.sources d 0 e in let first = at.first in absurd (omega arith)
  by_place d s (Some (suc t)) e =
      let at = place_from-has 1 C.sources d (suc t) e in
      let last = at.last in
      let inside : t < q = omega arith in
      let one : suc t - 1 ≡ t = omega arith in
      let same : get_or C.sources t (image 0) ≡ d = ap (λ (i : ℕ). get_or C.sources i (image 0)) (sym one) ∙ at.entry in
      record {
        row = get_or rows t [];
        normal = normal_from_row p q (get_or rows t []) (image_row t inside);
        joined =
            subst (λ (x : Source). Joined F (sub (sub (entry_word A x) endo) images) (tails_word (rowed_cover C) (get_or rows t []))) same
            (image_rows t inside);
      }

  each : (d : Source) → IsSourceOf A d → IsCentralOfOrder F p (sub (entry_word A d) f)
  each d s =
      subst (λ (u : List ℤ). IsCentralOfOrder F p u) (sub-sub (entry_word A d) endo images)
      (up_to_row-central Z is_rowed big (sub (sub (entry_word A d) endo) images) (by_place d s (place_in C.sources d) refl))

  dead : (d : Source) → IsSourceOf A d → place_in C.sources d ≡ None → Joined F (sub (entry_word A d) f) []
  dead d s e = joined-trans (joined-from_equal F (sym (sub-sub (entry_word A d) endo images))) (left_out d s e)

  count_f : length f ≡ length A.names
  count_f = length-map endo (λ (u : List ℤ). sub u images) ∙ count

  -- what the generators and tails become, and the same with the words of the matrix's rows
  abbrev became : List (List ℤ)
  became = carried_words F f inside A is.answer C.sources is.sources each dead count_f

  abbrev tails : List (List ℤ)
  tails = map (word_from n) rows

  abbrev with_rows : List (List ℤ)
  with_rows = with_tails (ranged_group F) f A is.answer tails

  row-letter : (t : ℕ) → get_or with_rows (n + t) [] ≡ word_from n (get_or rows t [])
  row-letter t = get_or-tail (ranged_group F) f A is.answer tails t ∙ get_or-map (word_from n) rows t []

  same_letter : (i : ℕ) → i < n + q → Joined F (get_or became i []) (get_or with_rows i [])
  same_letter i l = elim (cases_lt i n) [
    | inl before ↦
        let c = length-spelled_in (ranged_group F) f A is.answer in
        joined-from_equal F
        (get_or_append_left (spelled_in (ranged_group F) f A) (entry_elements (ranged_group F) f A C.sources) [] i (omega arith)
        ∙ sym (get_or_append_left (spelled_in (ranged_group F) f A) tails [] i (omega arith)))
    | inr after ↦
        let t : ℕ = i - n in
        let place : n + t ≡ i = omega arith in
        let inner : t < q = omega arith in
        subst (λ (j : ℕ). Joined F (get_or became j []) (get_or with_rows j [])) place
        (joined-trans (joined-from_equal F (carried_words-tail F f inside A is.answer C.sources is.sources each dead count_f t inner
        ∙ sym (sub-sub (entry_word A (get_or C.sources t (image 0))) endo images)))
        (joined-trans (image_rows t inner) (joined-from_equal F (sym (row-letter t)))))
  ]

  -- the word of a row becomes the word of the row times the matrix
  row-times : (x : List ℕ) → IsRow p q x → Joined F (sub (word_from n x) became) (word_from n (times_matrix p q rows x))
  row-times x row =
      let wide = row.count in
      joined-trans
      (joined-sub_same F (n + q) became with_rows same_letter (word_from n x) (HasLetters-word_from (n + q) n x (omega arith)))
      (row_words-combine Z is_rowed (omega arith) with_rows n x rows (row.count ∙ sym long) are (λ i l. row-letter i))

  pub image_rows-carry : CarriesRows C endo rows
  image_rows-carry w x row c =
      joined-trans (joined-from_equal F (sub-sub w endo images))
      (joined-trans (row-carried F f inside A is.answer C.sources is.sources each dead count_f w x c) (row-times x row))
