-- A map of one answer into another, which values of definitions make, carries what dies in the one to what dies in the other. The first
-- need not be consistent.
use Rattle.std.proofs.Common.{◌≡◌, ◌<◌, ℕ, ℤ, List, [], ◌++◌, get_or, length, map, sym, ap, ◌∙◌, subst, arith}
use Rattle.std.proofs.lemmas.List.{length-map, get_or-map}
use Rattle.pq_base.specs.SignedWord.{inv, copies, comm, sub, HasLetters}
use Rattle.pq_base.specs.Presentation.{IsPresentation, IsRelatorOf, letter, power_word, commutator_word, normal_word}
use Rattle.pq_base.specs.Presentation.IsRelatorOf.{power_relator, commutator_relator}
use Rattle.pq_base.specs.Joined.{Joined}
use Rattle.pq_base.specs.Answer.{Answer, IsAnswer, image_words}
use Rattle.pq_base.proofs.words.WordLaws.{sub-sub, sub-inv, sub-append}
use Rattle.pq_base.proofs.words.JoinedLaws.{joined-sym, joined-trans, joined-quotient, joined-from_equal}
use Rattle.pq_base.proofs.words.WordGroup.{joined-sub, joined-sub_same}
use Rattle.pq_base.proofs.words.LetterLaws.{HasLetters-copies, HasLetters-comm, HasLetters-letter, HasLetters-power_word}
use Rattle.pq_base.proofs.words.LetterLaws.{HasLetters-commutator_word}
use Rattle.cover_quotient.proofs.fitting.TailValues.{image_word-letters}
use Rattle.pc_presentation.specs.Rowed.{without_rows}
use Rattle.pc_presentation.specs.Collection.{State}
use Rattle.pc_presentation.specs.Arithmetic.{word_of}
use Rattle.derivation_log.specs.PlainValues.{identity_of, HaveOneValue, MakeMap}
use Rattle.derivation_log.proofs.PlainValues.{value-joined}

module _ (B A : Answer) (of : IsPresentation B.presentation) (is : IsPresentation A.presentation) (f : List State) (m : MakeMap B A f) where
  -- the words of the elements
  abbrev words : List (List ℤ)
  words = map (word_of (without_rows A.presentation)) m.elements

  in_range : (w : List ℤ) → HasLetters B.presentation.rank w → HasLetters (length m.elements) w
  in_range w l = subst (λ (n : ℕ). HasLetters n w) (sym m.defined.count) l

  -- words of one value give a relator that dies
  one_value : (u w : List ℤ) → HasLetters B.presentation.rank u → HasLetters B.presentation.rank w → HaveOneValue A m.elements u w
      → Joined A.presentation (sub (u ++ inv w) words) []
  one_value u w l k h =
      joined-trans
      (joined-from_equal A.presentation (sub-append u (inv w) words ∙ ap (λ (x : List ℤ). sub u words ++ x) (sub-inv w words)))
      (joined-quotient
      (joined-trans (joined-sym (value-joined A is m.elements u h.value (in_range u l) h.left))
      (value-joined A is m.elements w h.value (in_range w k) h.right)))

  relators-die : {r : List ℤ} → IsRelatorOf B.presentation r → Joined A.presentation (sub r words) []
  relators-die (power_relator i l) =
      one_value (copies (letter i) B.presentation.prime) (power_word B.presentation i)
      (HasLetters-copies B.presentation.rank (letter i) B.presentation.prime (HasLetters-letter B.presentation.rank i l))
      (HasLetters-power_word B.presentation of i l) (m.satisfied.powers i l)
  relators-die (commutator_relator j i l k) =
      one_value (comm (letter j) (letter i)) (commutator_word B.presentation j i)
      (HasLetters-comm B.presentation.rank (letter j) (letter i) (HasLetters-letter B.presentation.rank j l)
      (HasLetters-letter B.presentation.rank i (omega arith)))
      (HasLetters-commutator_word B.presentation of j i l k) (m.satisfied.commutators j i l k)

  module _ (answer : IsAnswer B) (count : length f ≡ length B.names) where
    -- the image of each given generator is carried to the element for it
    image-carried : (i : ℕ) → i < length B.names
        → Joined A.presentation (get_or (map (λ (u : List ℤ). sub u words) (image_words B)) i [])
        (get_or (map (word_of (without_rows A.presentation)) f) i [])
    image-carried i l =
        let images = answer.image_count in
        let image_long : length (image_words B) ≡ length B.images = length-map B.images normal_word in
        let image : List ℤ = get_or (image_words B) i [] in
        let v : State = get_or f i (identity_of A) in
        let is_value = m.images i l in
        joined-trans
        (joined-from_equal A.presentation (get_or-map (λ (u : List ℤ). sub u words) (image_words B) i [] []
        (omega (arith, l, images, image_long))))
        (joined-trans
        (joined-sym (value-joined A is m.elements image v
        (in_range image (image_word-letters B answer i (omega (arith, l, images)))) is_value))
        (joined-from_equal A.presentation (sym (get_or-map (word_of (without_rows A.presentation)) f i (identity_of A) []
        (omega (arith, l, count))))))

    -- what dies in the one answer dies in the other, under the elements
    pub maps-carry : (w : List ℤ) → HasLetters (length B.names) w → Joined B.presentation (sub w (image_words B)) []
        → Joined A.presentation (sub w (map (word_of (without_rows A.presentation)) f)) []
    maps-carry w l dies =
        joined-trans
        (joined-sym
        (joined-sub_same A.presentation (length B.names) (map (λ (u : List ℤ). sub u words) (image_words B))
        (map (word_of (without_rows A.presentation)) f)
        image-carried w l))
        (joined-trans (joined-from_equal A.presentation (sym (sub-sub w (image_words B) words)))
        (joined-sub B.presentation A.presentation words (λ r h. relators-die h) dies))
