-- In every answer with rows each generator is joined in the flat reading to the word that it spells, under the images with
-- their rows: what defines a generator has the row of zeros.
use Rattle.std.proofs.Common.{◌≡◌, ℕ, zero, suc, ◌<◌, ℤ, List, [], ◌∷◌, ◌++◌, get_or, length, map, replicate, refl, ap, sym, ◌∙◌, subst}
use Rattle.std.proofs.Common.{arith}
use Rattle.std.proofs.lemmas.List.{append-nil}
use Rattle.std.proofs.Math.ListN.{get_or-map}
use Rattle.pq_base.specs.SignedWord.{copies, comm, sub}
use Rattle.pq_base.specs.Presentation.{letter, word_from, normal_word, power_word, commutator_word}
use Rattle.pq_base.specs.Joined.{Joined}
use Rattle.pq_base.specs.Answer.{Definition, HasDefinition, image_words, definition_at, spell}
use Rattle.pq_base.specs.Answer.Definition.{image, commutator, power}
use Rattle.pq_base.proofs.words.WordLaws.{word_from-zeros}
use Rattle.pq_base.proofs.words.JoinedLaws.{joined-from_equal, joined-sym}
use Rattle.pc_presentation.specs.Rowed.{RowedPresentation, power_row, commutator_row, flat}
use Rattle.pc_presentation.specs.Arithmetic.{word_of}
use Rattle.pc_presentation.proofs.consistent.LetterWords.{letters-spelled}
use Rattle.p_cover.specs.RowedAnswer.{RowedAnswer, IsRowedAnswer, rowed, row_at, states_with, rowed_images}
use Rattle.p_cover.specs.RowedLaws.{SpellingsHoldWithRows}
use Rattle.pc_presentation.proofs.rows.FlatWords.{power-with_row, commutator-with_row}
use Rattle.pq_base.proofs.words.SpelledWords.{IsDefinedBy, definitions-spelled}

-- an image with its row
word_of-states_with : (Z : RowedPresentation) (es xs : List (List ℕ)) (i : ℕ) → length es ≡ length xs
    → get_or (map (word_of Z) (states_with es xs)) i [] ≡ normal_word (get_or es i []) ++ word_from Z.base.rank (get_or xs i [])
word_of-states_with Z [] [] i c = refl
word_of-states_with Z [] (x ∷ xs) i c = absurd (omega arith)
word_of-states_with Z (e ∷ es) [] i c = absurd (omega arith)
word_of-states_with Z (e ∷ es) (x ∷ xs) zero c = ap (λ (w : List ℤ). w ++ word_from Z.base.rank x) (letters-spelled 0 e)
word_of-states_with Z (e ∷ es) (x ∷ xs) (suc i) c = word_of-states_with Z es xs i (omega arith)

pub rowed_image : (Y : RowedAnswer) → IsRowedAnswer Y → (i : ℕ)
    → get_or (rowed_images Y) i [] ≡ get_or (image_words Y.answer) i [] ++ word_from Y.answer.presentation.rank (get_or Y.image_rows i [])
rowed_image Y is i =
    word_of-states_with (rowed Y) Y.answer.images Y.image_rows i (is.answer.image_count ∙ sym is.image_count)
    ∙ ap (λ (w : List ℤ). w ++ word_from Y.answer.presentation.rank (get_or Y.image_rows i []))
    (sym (get_or-map normal_word Y.answer.images i []))

module _ (Y : RowedAnswer) (is : IsRowedAnswer Y) where
  -- a word and the row of zeros
  zero_row : (w : List ℤ) (x : List ℕ) → x ≡ replicate Y.width 0 → w ++ word_from Y.answer.presentation.rank x ≡ w
  zero_row w x e =
      ap (λ (y : List ℕ). w ++ word_from Y.answer.presentation.rank y) e
      ∙ ap (λ (y : List ℤ). w ++ y) (word_from-zeros Y.answer.presentation.rank Y.width) ∙ append-nil w

  -- a definition of the answer holds in the flat reading
  defined : (k : ℕ) (d : Definition) → k < Y.answer.presentation.rank → HasDefinition Y.answer k d → row_at Y d ≡ replicate Y.width 0
      → IsDefinedBy (flat (rowed Y)) (rowed_images Y) Y.answer.presentation.prime k d
  defined k (image zero) l d r = absurd d
  defined k (image (suc i)) l d r =
      let same : get_or (rowed_images Y) i [] ≡ letter k =
      rowed_image Y is i ∙ zero_row (get_or (image_words Y.answer) i []) (get_or Y.image_rows i []) r ∙ d.2 in
      joined-from_equal (flat (rowed Y)) (sym same)
  defined k (commutator zero i) l d r = absurd d
  defined k (commutator (suc j) zero) l d r = absurd d
  defined k (commutator (suc j) (suc i)) l d r =
      let below : i < j = d.1 in
      let before : j < k = d.2 in
      let side : commutator_word Y.answer.presentation j i ++ word_from Y.answer.presentation.rank (commutator_row (rowed Y) j i)
      ≡ letter k =
      zero_row (commutator_word Y.answer.presentation j i) (commutator_row (rowed Y) j i) r ∙ d.3 in
      let relation : Joined (flat (rowed Y)) (comm (letter j) (letter i)) (letter k) =
      subst (λ (w : List ℤ). Joined (flat (rowed Y)) (comm (letter j) (letter i)) w) side
      (commutator-with_row (rowed Y) is.presentation j i (omega arith) below) in
      (below, before, joined-sym relation)
  defined k (power zero) l d r = absurd d
  defined k (power (suc j)) l d r =
      let before : j < k = d.1 in
      let side : power_word Y.answer.presentation j ++ word_from Y.answer.presentation.rank (power_row (rowed Y) j) ≡ letter k =
      zero_row (power_word Y.answer.presentation j) (power_row (rowed Y) j) r ∙ d.2 in
      let relation : Joined (flat (rowed Y)) (copies (letter j) Y.answer.presentation.prime) (letter k) =
      subst (λ (w : List ℤ). Joined (flat (rowed Y)) (copies (letter j) Y.answer.presentation.prime) w) side
      (power-with_row (rowed Y) is.presentation j (omega arith)) in
      (before, joined-sym relation)

  pub spelled-with_rows : (k : ℕ) → k < Y.answer.presentation.rank
      → Joined (flat (rowed Y)) (letter k) (sub (spell Y.answer k) (rowed_images Y))
  spelled-with_rows k l =
      let count : length Y.answer.definitions ≡ Y.answer.presentation.rank = is.answer.definition_count in
      let all = definitions-spelled (flat (rowed Y)) (rowed_images Y) Y.answer.presentation.prime Y.answer.definitions
      (λ m below.
      let within : m < Y.answer.presentation.rank = omega arith in
      defined m (definition_at Y.answer m) within (is.answer.definitions m within) (is.definitions m within)) in
      all.each k (omega arith)

pub spellings_hold_with_rows : SpellingsHoldWithRows
spellings_hold_with_rows Y is k l = spelled-with_rows Y is k l
