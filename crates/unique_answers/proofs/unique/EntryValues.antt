-- Where an answer is cut to class k + 1, the word of an entry of the answer cut to class k has the new part of the entry as its value:
-- spelled generators are generators, so the two sides of the relation are left, and these differ by the new part.
use Rattle.std.proofs.Common.{◌≡◌, ℕ, zero, suc, ◌<◌, ℤ, pos, List, [], ◌∷◌, ◌++◌, get_or, length, ap, sym, ◌∙◌, subst, arith}
use Rattle.pq_base.specs.SignedWord.{inv, copies, comm, sub, HasLetters}
use Rattle.pq_base.specs.Presentation.{Presentation, letter, word_from, power_word, commutator_word}
use Rattle.pq_base.specs.Joined.{Joined}
use Rattle.pq_base.specs.Answer.{Answer, Definition, IsAnswer, HasDefinition, definition_at, image_words}
use Rattle.pq_base.specs.Answer.Definition.{image, commutator, power}
use Rattle.pq_base.specs.Canonical.{rank_up_to, new_part, up_to_class}
use Rattle.pq_base.specs.EntryWords.{IsSourceOf, spelling_words, entry_word}
use Rattle.pq_base.proofs.words.WordLaws.{sub-append, sub-inv, sub-letter}
use Rattle.pq_base.proofs.words.LetterLaws.{HasLetters-letter, HasLetters-copies, HasLetters-comm, HasLetters-word_from, HasLetters-append}
use Rattle.pq_base.proofs.words.LetterLaws.{HasLetters-inv}
use Rattle.pq_base.proofs.words.JoinedLaws.{joined-from_equal, joined-sym, joined-trans, joined-append, joined-inv}
use Rattle.pq_base.proofs.words.JoinedLaws.{inv-append-append-joined, power-joined, commutator-joined}
use Rattle.pq_base.proofs.words.SpelledWords.{IsDefinedBy, definitions-spelled}
use Rattle.pq_base.proofs.words.SpelledBack.{spelled_words-back}
use Rattle.pq_base.proofs.words.SpelledLists.{side_word}
use Rattle.cover_quotient.proofs.canonical_answers.ClassesByWeight.{counts-grow}
use Rattle.unique_answers.proofs.unique.CarriedDeaths.{spelled-letters}
use Rattle.unique_answers.proofs.unique.CutParts.{cut-definition_count, cut-definition}
use Rattle.unique_answers.proofs.unique.CutAnswers.{cut-answer}
use Rattle.unique_answers.proofs.unique.NewParts.{starts, exponents_of, are-exponents, side-exponents, source-next, side-next}

-- what defines a generator of an answer holds there as an equation of joined words
defined-by : (A : Answer) (k : ℕ) (d : Definition) → k < A.presentation.rank → HasDefinition A k d
    → IsDefinedBy A.presentation (image_words A) A.presentation.prime k d
defined-by A k (image zero) l h = absurd h
defined-by A k (image (suc i)) l h = joined-from_equal A.presentation (sym h.2)
defined-by A k (commutator zero i) l h = absurd h
defined-by A k (commutator (suc j) zero) l h = absurd h
defined-by A k (commutator (suc j) (suc i)) l h =
    let below : i < j = h.1 in
    let before : j < k = h.2 in (
      below,
      before,
      joined-sym (subst (λ (w : List ℤ). Joined A.presentation (comm (letter j) (letter i)) w) h.3
          (commutator-joined A.presentation j i (omega arith) below)),
    )
defined-by A k (power zero) l h = absurd h
defined-by A k (power (suc j)) l h =
    let before : j < k = h.1 in (
      before,
      joined-sym (subst (λ (w : List ℤ). Joined A.presentation (copies (letter j) A.presentation.prime) w) h.2
          (power-joined A.presentation j (omega arith))),
    )

-- right sides and images are words over the generators
side_word-letters : (A : Answer) → IsAnswer A → (d : Definition) → IsSourceOf A d → HasLetters A.presentation.rank (side_word A d)
side_word-letters A is d h =
    let c = (are-exponents A is d h).count in
    subst (λ (w : List ℤ). HasLetters A.presentation.rank w) (sym (side-exponents A d h))
    (HasLetters-word_from A.presentation.rank (starts d) (exponents_of A d) (omega arith))

-- the word of an entry is a word over the given generators
pub entry_word-letters : (A : Answer) → IsAnswer A → (d : Definition) → IsSourceOf A d → HasLetters (length A.names) (entry_word A d)
entry_word-letters A is (image zero) h = absurd h
entry_word-letters A is (image (suc i)) h =
    let count = is.image_count in
    let right : List ℤ = sub (side_word A (image (suc i))) (spelling_words A) in
    HasLetters-append (length A.names) (inv right) (pos (suc i) ∷ [])
    (HasLetters-inv (length A.names) right (spelled-letters A is (side_word A (image (suc i)))))
    (HasLetters-letter (length A.names) i (omega arith))
entry_word-letters A is (commutator zero i) h = absurd h
entry_word-letters A is (commutator (suc j) zero) h = absurd h
entry_word-letters A is (commutator (suc j) (suc i)) h =
    let left : List ℤ = sub (comm (letter j) (letter i)) (spelling_words A) in
    let right : List ℤ = sub (commutator_word A.presentation j i) (spelling_words A) in
    HasLetters-append (length A.names) (inv right) left
    (HasLetters-inv (length A.names) right (spelled-letters A is (commutator_word A.presentation j i)))
    (spelled-letters A is (comm (letter j) (letter i)))
entry_word-letters A is (power zero) h = absurd h
entry_word-letters A is (power (suc j)) h =
    let left : List ℤ = sub (copies (letter j) A.presentation.prime) (spelling_words A) in
    let right : List ℤ = sub (power_word A.presentation j) (spelling_words A) in
    HasLetters-append (length A.names) (inv right) left
    (HasLetters-inv (length A.names) right (spelled-letters A is (power_word A.presentation j)))
    (spelled-letters A is (copies (letter j) A.presentation.prime))

module _ (A : Answer) (is : IsAnswer A) (k : ℕ) where
  abbrev D : Answer
  D = up_to_class A k

  abbrev N : Answer
  N = up_to_class A (suc k)

  abbrev Q : Presentation
  Q = (up_to_class A (suc k)).presentation

  abbrev m : ℕ
  m = rank_up_to A k

  abbrev S : List (List ℤ)
  S = spelling_words (up_to_class A k)

  abbrev f : List (List ℤ)
  f = image_words (up_to_class A (suc k))

  -- the generators of class k are what they spell
  spelled-next : (i : ℕ) → i < m → Joined Q (letter i) (sub (get_or S i []) f)
  spelled-next i l =
      let count = cut-definition_count A is k in
      (definitions-spelled Q f A.presentation.prime D.definitions each).each i (omega arith)
    where
      each : (i : ℕ) → i < length D.definitions → IsDefinedBy Q f A.presentation.prime i (definition_at D i)
      each i l =
          let count = cut-definition_count A is k in
          let grows = counts-grow k A.weights in
          let same : definition_at N i ≡ definition_at D i =
          cut-definition A is (suc k) i (omega arith) ∙ sym (cut-definition A is k i (omega arith)) in
          defined-by N i (definition_at D i) (omega arith)
          (subst (λ (d : Definition). HasDefinition (up_to_class A (suc k)) i d) same
          ((cut-answer A is (suc k)).definitions i (omega arith)))

  back : (w : List ℤ) → HasLetters m w → Joined Q (sub (sub w S) f) w
  back w h = spelled_words-back Q m S f spelled-next w h

  -- a right side w and the value u of the left side, which differ by a new part
  quotient-value : (w u : List ℤ) (x : List ℕ) → HasLetters m w → Joined Q (sub u f) (w ++ word_from m x)
      → Joined Q (sub (inv (sub w S) ++ u) f) (word_from m x)
  quotient-value w u x h c =
      let v : List ℤ = sub w S in
      let split : sub (inv v ++ u) f ≡ inv (sub v f) ++ sub u f =
      sub-append (inv v) u f ∙ ap (λ (y : List ℤ). y ++ sub u (image_words (up_to_class A (suc k)))) (sub-inv v f) in
      joined-trans (joined-from_equal Q split)
      (joined-trans (joined-append (joined-inv (back w h)) c) (inv-append-append-joined Q w (word_from m x)))

  pub entry-value : (d : Definition) → IsSourceOf (up_to_class A k) d
      → Joined (up_to_class A (suc k)).presentation (sub (entry_word (up_to_class A k) d) (image_words (up_to_class A (suc k))))
      (word_from (rank_up_to A k) (new_part A k d))
  entry-value (image zero) h = absurd h
  entry-value (image (suc i)) h =
      quotient-value (side_word D (image (suc i))) (pos (suc i) ∷ []) (new_part A k (image (suc i)))
      (side_word-letters D (cut-answer A is k) (image (suc i)) h)
      (joined-from_equal Q (sub-letter i f ∙ side-next A is k (image (suc i)) h))
  entry-value (commutator zero i) h = absurd h
  entry-value (commutator (suc j) zero) h = absurd h
  entry-value (commutator (suc j) (suc i)) h =
      let l : j < rank_up_to A k = h.0 in
      let b : i < j = h.1 in
      let d : Definition = commutator (suc j) (suc i) in
      let next = source-next A is k d h in
      quotient-value (side_word D d) (sub (comm (letter j) (letter i)) S) (new_part A k d)
      (side_word-letters D (cut-answer A is k) d h)
      (joined-trans
      (back (comm (letter j) (letter i))
      (HasLetters-comm m (letter j) (letter i) (HasLetters-letter m j l) (HasLetters-letter m i (omega arith))))
      (subst (λ (w : List ℤ). Joined (up_to_class A (suc k)).presentation (comm (letter j) (letter i)) w) (side-next A is k d h)
      (commutator-joined Q j i next.0 b)))
  entry-value (power zero) h = absurd h
  entry-value (power (suc j)) h =
      let l : j < rank_up_to A k = h in
      let d : Definition = power (suc j) in
      let next = source-next A is k d h in
      quotient-value (side_word D d) (sub (copies (letter j) A.presentation.prime) S) (new_part A k d)
      (side_word-letters D (cut-answer A is k) d h)
      (joined-trans
      (back (copies (letter j) A.presentation.prime) (HasLetters-copies m (letter j) A.presentation.prime (HasLetters-letter m j l)))
      (subst (λ (w : List ℤ). Joined (up_to_class A (suc k)).presentation (copies (letter j) A.presentation.prime) w) (side-next A is k d h)
      (power-joined Q j next)))
