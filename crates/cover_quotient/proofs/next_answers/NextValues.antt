-- The images of the next answer are the images with their rows, in which the tails are replaced by the words that they are
-- carried to. So values of words are carried to values of words.
use Rattle.std.proofs.Common.{◌≡◌, ℕ, ◌<◌, ℤ, List, [], ◌++◌, get_or, length, map, ap, sym, ◌∙◌, arith}
use Rattle.std.proofs.lemmas.List.{get_or-map as get_or-map_within}
use Rattle.std.proofs.Math.ListN.{get_or-map}
use Rattle.pq_base.specs.SignedWord.{sub, HasLetters}
use Rattle.pq_base.specs.Presentation.{IsNormal, word_from, normal_word}
use Rattle.pq_base.specs.Joined.{Joined}
use Rattle.pq_base.specs.Answer.{Definition as Source, image_words}
use Rattle.pq_base.proofs.words.WordLaws.{sub-append, sub-sub}
use Rattle.pq_base.proofs.words.LetterLaws.{HasLetters-normal_word}
use Rattle.pq_base.proofs.words.WordGroup.{joined-sub_same}
use Rattle.pq_base.proofs.words.JoinedLaws.{joined-from_equal, joined-sym, joined-trans, joined-append_left}
use Rattle.fp_echelon.specs.Span.{AreRows}
use Rattle.pc_presentation.specs.Rowed.{flat}
use Rattle.p_cover.specs.RowedAnswer.{RowedAnswer, IsRowedAnswer, rowed, rowed_images, tails_word}
use Rattle.p_cover.proofs.RowedSpellings.{rowed_image}
use Rattle.cover_quotient.specs.Carried.{carried, carried_answer}
use Rattle.cover_quotient.specs.NextAnswer.{next_answer}
use Rattle.cover_quotient.specs.SpanLaws.{carried_letters}
use Rattle.cover_quotient.proofs.carried_rows.CarriedWords.{generators-stay, words-mapped}
use Rattle.cover_quotient.proofs.carried_rows.CarriedAnswers.{carried-rowed_answer}
use Rattle.pq_base.proofs.NormalLists.{normal-entry}
use Rattle.cover_quotient.proofs.next_answers.NextWords.{image-followed}

module _ (Y : RowedAnswer) (is : IsRowedAnswer Y) (positive : 0 < Y.answer.presentation.prime) (width : ℕ) (rows : List (List ℕ))
    (are : AreRows Y.answer.presentation.prime width rows) (count : length rows ≡ Y.width) (sources : List Source) where
  abbrev n : ℕ
  n = Y.answer.presentation.rank

  abbrev letters : List (List ℤ)
  letters = carried_letters Y.answer.presentation.rank rows

  abbrev Q : RowedAnswer
  Q = carried_answer width rows Y

  -- an image of the next answer
  image-next : (i : ℕ) → i < length Y.answer.names
      → get_or (image_words (next_answer Q sources)) i []
      ≡ get_or (image_words Y.answer) i [] ++ word_from n (carried Y.answer.presentation.prime width rows (get_or Y.image_rows i []))
  image-next i l =
      let c = is.answer.image_count in
      let d = is.image_count in
      image-followed Q (carried-rowed_answer Y is positive width rows are) i (omega arith)
      ∙ ap (λ (x : List ℕ). get_or (image_words Y.answer) i [] ++ word_from Y.answer.presentation.rank x)
      (get_or-map_within (carried Y.answer.presentation.prime width rows) Y.image_rows i [] [] (omega arith))

  -- an image with its row, and the tails replaced
  image-replaced : (i : ℕ) → i < length Y.answer.names
      → get_or (map (λ (u : List ℤ). sub u letters) (rowed_images Y)) i []
      ≡ get_or (image_words Y.answer) i [] ++ sub (word_from n (get_or Y.image_rows i [])) letters
  image-replaced i l =
      let c = is.answer.image_count in
      let e : List ℕ = get_or Y.answer.images i [] in
      let x : List ℕ = get_or Y.image_rows i [] in
      let long = (normal-entry Y.answer.presentation.prime n Y.answer.images i is.answer.images (omega arith)).count in
      let word : get_or (image_words Y.answer) i [] ≡ normal_word (get_or Y.answer.images i []) =
      get_or-map normal_word Y.answer.images i [] in
      let stays : sub (normal_word (get_or Y.answer.images i [])) letters ≡ normal_word (get_or Y.answer.images i []) =
      generators-stay n rows (normal_word e) (HasLetters-normal_word n e (omega arith)) in
      get_or-map (λ (u : List ℤ). sub u letters) (rowed_images Y) i []
      ∙ ap (λ (u : List ℤ). sub u letters)
      (rowed_image Y is i ∙ ap (λ (u : List ℤ). u ++ word_from Y.answer.presentation.rank (get_or Y.image_rows i [])) word)
      ∙ sub-append (normal_word e) (word_from n x) letters
      ∙ ap (λ (u : List ℤ). u ++ sub (word_from Y.answer.presentation.rank (get_or Y.image_rows i [])) letters) (stays ∙ sym word)

  image-carried : (i : ℕ) → i < length Y.answer.names
      → Joined (flat (rowed Q)) (get_or (image_words (next_answer Q sources)) i [])
      (get_or (map (λ (u : List ℤ). sub u letters) (rowed_images Y)) i [])
  image-carried i l =
      let d = is.image_count in
      let x : List ℕ = get_or Y.image_rows i [] in
      let row = normal-entry Y.answer.presentation.prime Y.width Y.image_rows i is.image_rows (omega arith) in
      let mapped = (words-mapped (rowed Y) is.presentation positive width rows are count).row_words x row in
      joined-trans (joined-from_equal (flat (rowed Q)) (image-next i l))
      (joined-trans (joined-append_left (get_or (image_words Y.answer) i []) (joined-sym mapped))
      (joined-from_equal (flat (rowed Q)) (sym (image-replaced i l))))

  -- the value of a word over the given generators
  pub value-carried : (w : List ℤ) → HasLetters (length Y.answer.names) w
      → Joined (flat (rowed (carried_answer width rows Y))) (sub w (image_words (next_answer (carried_answer width rows Y) sources)))
      (sub (sub w (rowed_images Y)) (carried_letters Y.answer.presentation.rank rows))
  value-carried w h =
      joined-trans
      (joined-sub_same (flat (rowed Q)) (length Y.answer.names) (image_words (next_answer Q sources))
      (map (λ (u : List ℤ). sub u letters) (rowed_images Y)) image-carried w h)
      (joined-from_equal (flat (rowed Q)) (sym (sub-sub w (rowed_images Y) letters)))

  -- a value that is the word of a row becomes the word of the row that it is carried to
  pub row_value-carried : (w : List ℤ) (x : List ℕ) → HasLetters (length Y.answer.names) w → IsNormal Y.answer.presentation.prime Y.width x
      → Joined (flat (rowed Y)) (sub w (rowed_images Y)) (tails_word Y x)
      → Joined (flat (rowed (carried_answer width rows Y))) (sub w (image_words (next_answer (carried_answer width rows Y) sources)))
      (word_from Y.answer.presentation.rank (carried Y.answer.presentation.prime width rows x))
  row_value-carried w x h row c =
      let mapped = words-mapped (rowed Y) is.presentation positive width rows are count in
      joined-trans (value-carried w h) (joined-trans (mapped.joined (sub w (rowed_images Y)) (tails_word Y x) c) (mapped.row_words x row))
