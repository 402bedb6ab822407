-- The value of an entry word under the images with their rows is the word of the row: spelled generators are generators, so
-- the left side and the right side of the relation are left, and these differ by the row.
use Rattle.std.proofs.Common.{◌≡◌, ℕ, zero, suc, ◌<◌, ℤ, pos, List, [], ◌∷◌, ◌++◌, get_or, length, ap, sym, ◌∙◌, subst, arith}
use Rattle.std.proofs.Math.ListN.{get_or-map}
use Rattle.pq_base.specs.SignedWord.{inv, copies, comm, sub, HasLetters}
use Rattle.pq_base.specs.Presentation.{IsNormal, letter, normal_word, power_word, commutator_word}
use Rattle.pq_base.specs.Joined.{Joined}
use Rattle.pq_base.specs.Answer.{Definition, AreNormal, image_words}
use Rattle.pq_base.specs.Answer.Definition.{image, commutator, power}
use Rattle.pq_base.proofs.words.WordLaws.{sub-append, sub-inv, sub-letter}
use Rattle.pq_base.proofs.words.LetterLaws.{HasLetters-letter, HasLetters-copies, HasLetters-comm, HasLetters-normal_word}
use Rattle.pq_base.proofs.words.LetterLaws.{HasLetters-power_word, HasLetters-commutator_word}
use Rattle.pq_base.proofs.words.JoinedLaws.{joined-from_equal, joined-sym, joined-trans, joined-append, joined-inv}
use Rattle.pq_base.proofs.words.JoinedLaws.{inv-append-append-joined}
use Rattle.pq_base.proofs.words.SpelledBack.{spelled_words-back}
use Rattle.pq_base.proofs.NormalLists.{normal-entry}
use Rattle.pc_presentation.specs.Rowed.{flat, power_row, commutator_row}
use Rattle.p_cover.specs.RowedAnswer.{RowedAnswer, IsRowedAnswer, rowed, row_at, rowed_images, tails_word}
use Rattle.pq_base.specs.EntryWords.{IsSourceOf, spelling_words, entry_word}
use Rattle.p_cover.specs.RowedLaws.{EntryWordsHold}
use Rattle.pc_presentation.proofs.rows.FlatWords.{power-with_row, commutator-with_row}
use Rattle.p_cover.proofs.RowedSpellings.{rowed_image, spelled-with_rows}

module _ (Y : RowedAnswer) (is : IsRowedAnswer Y) where
  -- a word in spelled generators
  pub spelled-back : (w : List ℤ) → HasLetters Y.answer.presentation.rank w
      → Joined (flat (rowed Y)) (sub (sub w (spelling_words Y.answer)) (rowed_images Y)) w
  spelled-back w h =
      spelled_words-back (flat (rowed Y)) Y.answer.presentation.rank (spelling_words Y.answer) (rowed_images Y) (spelled-with_rows Y is) w h

  -- a right side w and the value u of the left side, which differ by a row
  quotient-row : (w u : List ℤ) (x : List ℕ) → HasLetters Y.answer.presentation.rank w
      → Joined (flat (rowed Y)) (sub u (rowed_images Y)) (w ++ tails_word Y x)
      → Joined (flat (rowed Y)) (sub (inv (sub w (spelling_words Y.answer)) ++ u) (rowed_images Y)) (tails_word Y x)
  quotient-row w u x h c =
      let v : List ℤ = sub w (spelling_words Y.answer) in
      let split : sub (inv (sub w (spelling_words Y.answer)) ++ u) (rowed_images Y)
      ≡ inv (sub v (rowed_images Y)) ++ sub u (rowed_images Y) =
      sub-append (inv v) u (rowed_images Y) ∙ ap (λ (y : List ℤ). y ++ sub u (rowed_images Y)) (sub-inv v (rowed_images Y)) in
      joined-trans (joined-from_equal (flat (rowed Y)) split)
      (joined-trans (joined-append (joined-inv (spelled-back w h)) c) (inv-append-append-joined (flat (rowed Y)) w (tails_word Y x)))

  -- where the left side is a word of generators
  relation-row : (w u : List ℤ) (x : List ℕ) → HasLetters Y.answer.presentation.rank w → HasLetters Y.answer.presentation.rank u
      → Joined (flat (rowed Y)) u (w ++ tails_word Y x)
      → Joined (flat (rowed Y)) (sub (inv (sub w (spelling_words Y.answer)) ++ sub u (spelling_words Y.answer)) (rowed_images Y))
      (tails_word Y x)
  relation-row w u x h i c = quotient-row w (sub u (spelling_words Y.answer)) x h (joined-trans (spelled-back u i) c)

  pub entry-row : (d : Definition) → IsSourceOf Y.answer d
      → Joined (flat (rowed Y)) (sub (entry_word Y.answer d) (rowed_images Y)) (tails_word Y (row_at Y d))
  entry-row (image zero) h = absurd h
  entry-row (image (suc i)) h =
      let e : List ℕ = get_or Y.answer.images i [] in
      let normal : IsNormal Y.answer.presentation.prime Y.answer.presentation.rank (get_or Y.answer.images i []) =
      normal-entry Y.answer.presentation.prime Y.answer.presentation.rank Y.answer.images i is.answer.images h in
      let c = normal.count in
      let word : get_or (image_words Y.answer) i [] ≡ normal_word (get_or Y.answer.images i []) =
      get_or-map normal_word Y.answer.images i [] in
      let in_range : HasLetters Y.answer.presentation.rank (get_or (image_words Y.answer) i []) =
      subst (λ (w : List ℤ). HasLetters Y.answer.presentation.rank w) (sym word)
      (HasLetters-normal_word Y.answer.presentation.rank e (omega arith)) in
      quotient-row (get_or (image_words Y.answer) i []) (pos (suc i) ∷ []) (get_or Y.image_rows i []) in_range
      (joined-from_equal (flat (rowed Y)) (sub-letter i (rowed_images Y) ∙ rowed_image Y is i))
  entry-row (commutator zero i) h = absurd h
  entry-row (commutator (suc j) zero) h = absurd h
  entry-row (commutator (suc j) (suc i)) h =
      let l : j < Y.answer.presentation.rank = h.0 in
      let m : i < j = h.1 in
      relation-row (commutator_word Y.answer.presentation j i) (comm (letter j) (letter i)) (commutator_row (rowed Y) j i)
      (HasLetters-commutator_word Y.answer.presentation is.answer.presentation j i l m)
      (HasLetters-comm Y.answer.presentation.rank (letter j) (letter i) (HasLetters-letter Y.answer.presentation.rank j l)
      (HasLetters-letter Y.answer.presentation.rank i (omega arith)))
      (commutator-with_row (rowed Y) is.presentation j i l m)
  entry-row (power zero) h = absurd h
  entry-row (power (suc j)) h =
      relation-row (power_word Y.answer.presentation j) (copies (letter j) Y.answer.presentation.prime) (power_row (rowed Y) j)
      (HasLetters-power_word Y.answer.presentation is.answer.presentation j h)
      (HasLetters-copies Y.answer.presentation.rank (letter j) Y.answer.presentation.prime
      (HasLetters-letter Y.answer.presentation.rank j h))
      (power-with_row (rowed Y) is.presentation j h)

pub entry_words_hold : EntryWordsHold
entry_words_hold Y is d h = entry-row Y is d h
