-- The value of a word in an answer by the plain rule is joined to the word under the elements' words. So an answer whose images carry a
-- word to the identity kills the word.
use Rattle.std.proofs.Common.{◌≡◌, ℕ, ℤ, List, [], ◌∷◌, ◌++◌, length, map, refl, ap₂, sym, ◌∙◌, subst, append-nil, arith}
use Rattle.std.proofs.lemmas.List.{length-map}
use Rattle.pq_base.specs.SignedWord.{sub, HasLetters}
use Rattle.pq_base.specs.Presentation.{Presentation, IsPresentation, normal_word}
use Rattle.pq_base.specs.Joined.{Joined}
use Rattle.pq_base.proofs.words.JoinedLaws.{joined-sym}
use Rattle.pq_base.specs.Answer.{Answer, image_words}
use Rattle.pc_presentation.specs.Rowed.{without_rows, flat}
use Rattle.pc_presentation.specs.Collection.{State, IsState, plain_push, spelled, letters}
use Rattle.pc_presentation.specs.Arithmetic.{word_of, evaluate_from}
use Rattle.pc_presentation.proofs.rows.RowLaws.{identity-state}
use Rattle.pc_presentation.proofs.rows.FlatLaws.{without_rows-rowed, flat-without_rows}
use Rattle.pc_presentation.proofs.consistent.LetterWords.{letters-spelled}
use Rattle.pc_presentation.proofs.quotients.CollectorArithmetic.{plain_rule_is_a_meaning, has_arithmetic, identity-word}
use Rattle.derivation_log.specs.PlainValues.{bare_state, identity_of, IsValue, images_of, IsCarriedToIdentity}

-- the word of an element
bare-word : (P : Presentation) (e : List ℕ) → word_of (without_rows P) (bare_state e) ≡ normal_word e
bare-word P e = append-nil (letters (spelled 0 e)) ∙ letters-spelled 0 e

pub bare-words : (P : Presentation) (es : List (List ℕ)) → map (word_of (without_rows P)) (map bare_state es) ≡ map normal_word es
bare-words P [] = refl
bare-words P (e ∷ es) = ap₂ (λ (w : List ℤ) (ws : List (List ℤ)). w ∷ ws) (bare-word P e) (bare-words P es)

module _ (A : Answer) (is : IsPresentation A.presentation) where
  -- values are joined to the words that they are the values of
  pub value-joined : (f : List State) (w : List ℤ) (v : State) → HasLetters (length f) w → IsValue A f w v
      → Joined A.presentation (word_of (without_rows A.presentation) v) (sub w (map (word_of (without_rows A.presentation)) f))
  value-joined f w v l h =
      let rowed = without_rows-rowed A.presentation is in
      let meaning = plain_rule_is_a_meaning (without_rows A.presentation) rowed in
      let arithmetic = has_arithmetic (without_rows A.presentation) rowed is.prime (plain_push (without_rows A.presentation)) meaning in
      let start : IsState (without_rows A.presentation) A.presentation.rank (identity_of A) =
      let two = is.prime in identity-state (without_rows A.presentation) A.presentation.rank (omega arith) in
      let joined = arithmetic.values f h.inverses (identity_of A) w h.images start l in
      let from_one = subst (λ (u : List ℤ). Joined (flat (without_rows A.presentation))
      (word_of (without_rows A.presentation) (evaluate_from (without_rows A.presentation)
      (plain_push (without_rows A.presentation)) f h.inverses (identity_of A) w))
      (u ++ sub w (map (word_of (without_rows A.presentation)) f)))
      (identity-word (without_rows A.presentation) rowed is.prime (plain_push (without_rows A.presentation)) meaning) joined in
      let at_value = subst (λ (s : State). Joined (flat (without_rows A.presentation)) (word_of (without_rows A.presentation) s)
      (sub w (map (word_of (without_rows A.presentation)) f))) h.value from_one in
      subst (λ (P : Presentation). Joined P (word_of (without_rows A.presentation) v)
      (sub w (map (word_of (without_rows A.presentation)) f)))
      (flat-without_rows A.presentation) at_value

  -- an answer whose images carry a word to the identity kills it
  pub carried-joined : (w : List ℤ) → HasLetters (length A.images) w → IsCarriedToIdentity A w
      → Joined A.presentation (sub w (image_words A)) []
  carried-joined w l h =
      let rowed = without_rows-rowed A.presentation is in
      let meaning = plain_rule_is_a_meaning (without_rows A.presentation) rowed in
      let count : length (images_of A) ≡ length A.images = length-map A.images bare_state in
      let joined = value-joined (images_of A) w (identity_of A) (subst (λ (n : ℕ). HasLetters n w) (sym count) l) h in
      joined-sym
      (subst (λ (u : List ℤ). Joined A.presentation u (sub w (image_words A)))
      (identity-word (without_rows A.presentation) rowed is.prime (plain_push (without_rows A.presentation)) meaning)
      (subst (λ (ws : List (List ℤ)). Joined A.presentation (word_of (without_rows A.presentation) (identity_of A)) (sub w ws))
      (bare-words A.presentation A.images) joined))
