-- The images of the given generators with their rows: they are words over the generators and the tails, and without the tails they
-- are the images in the answer.
use Rattle.std.proofs.Common.{◌≡◌, ℕ, zero, suc, ◌+◌, ◌<◌, ◌≤◌, ℤ, pos, negsuc, List, [], ◌∷◌, ◌++◌, get_or, length, map, inl, inr, refl}
use Rattle.std.proofs.Common.{ap, ap₂, sym, ◌∙◌, subst, arith}
use Rattle.std.proofs.lemmas.Bool.{cases_lt}
use Rattle.std.proofs.lemmas.List.{length-map, get_or_past}
use Rattle.std.proofs.Math.ListN.{get_or-map}
use Rattle.pq_base.specs.SignedWord.{inv, image_of, sub, HasLetters}
use Rattle.pq_base.specs.LPresentation.{AreWords}
use Rattle.pq_base.specs.Presentation.{normal_word, word_from}
use Rattle.pq_base.specs.Answer.{image_words}
use Rattle.pq_base.proofs.words.WordLaws.{sub-sub}
use Rattle.pq_base.proofs.words.LetterLaws.{HasLetters-weaken, HasLetters-append, HasLetters-word_from}
use Rattle.pq_base.proofs.NormalLists.{normal-entry}
use Rattle.pc_presentation.specs.RowedLaws.{projection, projected}
use Rattle.pc_presentation.proofs.rows.Projections.{sub-with_row}
use Rattle.p_cover.specs.RowedAnswer.{RowedAnswer, IsRowedAnswer, rowed, rowed_images}
use Rattle.p_cover.proofs.RowedSpellings.{rowed_image}
use Rattle.cover_quotient.proofs.fitting.TailValues.{image_word-letters}

-- words by their entries
pub AreWords-from_entries : (n : ℕ) (f : List (List ℤ)) → ((i : ℕ) → i < length f → HasLetters n (get_or f i [])) → AreWords n f
AreWords-from_entries n [] h = tt
AreWords-from_entries n (u ∷ f) h = (h 0 (omega arith), AreWords-from_entries n f (λ i l. h (suc i) (omega arith)))

image_of-everywhere : (f g : List (List ℤ)) → ((i : ℕ) → get_or f i [] ≡ get_or g i []) → (k : ℤ) → image_of f k ≡ image_of g k
image_of-everywhere f g e (pos zero) = refl
image_of-everywhere f g e (pos (suc n)) = e n
image_of-everywhere f g e (negsuc n) = ap inv (e n)

pub sub-everywhere : (f g : List (List ℤ)) → ((i : ℕ) → get_or f i [] ≡ get_or g i []) → (w : List ℤ) → sub w f ≡ sub w g
sub-everywhere f g e [] = refl
sub-everywhere f g e (k ∷ w) = ap₂ (λ (u v : List ℤ). u ++ v) (image_of-everywhere f g e k) (sub-everywhere f g e w)

module _ (Y : RowedAnswer) (is : IsRowedAnswer Y) where
  abbrev n : ℕ
  n = Y.answer.presentation.rank

  -- the image without its tails
  base_image-letters : (i : ℕ) → HasLetters n (get_or (image_words Y.answer) i [])
  base_image-letters i = elim (cases_lt i (length Y.answer.images)) [
    | inl inside ↦ image_word-letters Y.answer is.answer i inside
    | inr past ↦
        let long = length-map Y.answer.images normal_word in
        subst (λ (w : List ℤ). HasLetters Y.answer.presentation.rank w) (sym (get_or_past (image_words Y.answer) i [] (omega arith))) tt
  ]

  row-length : (i : ℕ) → length (get_or Y.image_rows i []) ≤ Y.width
  row-length i = elim (cases_lt i (length Y.image_rows)) [
    | inl inside ↦
        let c = (normal-entry Y.answer.presentation.prime Y.width Y.image_rows i is.image_rows inside).count in omega arith
    | inr past ↦
        let none : length (get_or Y.image_rows i []) ≡ 0 = ap (length {A = ℕ}) (get_or_past Y.image_rows i [] (omega arith)) in omega arith
  ]

  rowed_image-letters : (i : ℕ) → HasLetters (Y.answer.presentation.rank + Y.width) (get_or (rowed_images Y) i [])
  rowed_image-letters i =
      let m : ℕ = Y.answer.presentation.rank + Y.width in
      let short = row-length i in
      subst (λ (w : List ℤ). HasLetters (Y.answer.presentation.rank + Y.width) w) (sym (rowed_image Y is i))
      (HasLetters-append m (get_or (image_words Y.answer) i []) (word_from n (get_or Y.image_rows i []))
      (HasLetters-weaken n m (get_or (image_words Y.answer) i []) (omega arith) (base_image-letters i))
      (HasLetters-word_from m n (get_or Y.image_rows i []) (omega arith)))

  pub AreWords-rowed_images : AreWords (Y.answer.presentation.rank + Y.width) (rowed_images Y)
  AreWords-rowed_images = AreWords-from_entries (Y.answer.presentation.rank + Y.width) (rowed_images Y) (λ i l. rowed_image-letters i)

  rowed_image-projected : (i : ℕ) → projected (rowed Y) (get_or (rowed_images Y) i []) ≡ get_or (image_words Y.answer) i []
  rowed_image-projected i =
      ap (projected (rowed Y)) (rowed_image Y is i)
      ∙ sub-with_row n Y.width (get_or (image_words Y.answer) i []) (get_or Y.image_rows i []) (base_image-letters i)

  -- so a word over the given generators is, without the tails, its value in the answer
  pub value-projected : (w : List ℤ) → projected (rowed Y) (sub w (rowed_images Y)) ≡ sub w (image_words Y.answer)
  value-projected w =
      sub-sub w (rowed_images Y) (projection n Y.width)
      ∙ sub-everywhere (map (λ (u : List ℤ). sub u (projection n Y.width)) (rowed_images Y)) (image_words Y.answer)
      (λ i. get_or-map (λ (u : List ℤ). sub u (projection Y.answer.presentation.rank Y.width)) (rowed_images Y) i []
      ∙ rowed_image-projected i) w
