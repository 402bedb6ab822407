-- An endomorphism that induces a map of an answer by the plain rule carries what dies in the answer to what dies there. So do all
-- lists of such endomorphisms.
use Rattle.std.proofs.Common.{◌≡◌, ◌<◌, ℕ, zero, suc, ℤ, List, [], ◌∷◌, get_or, length, map, sym, ◌∙◌, subst, arith}
use Rattle.std.specs.List.{All}
use Rattle.std.proofs.lemmas.List.{length-map, get_or-map}
use Rattle.pq_base.specs.SignedWord.{sub, HasLetters}
use Rattle.pq_base.specs.Presentation.{IsPresentation}
use Rattle.pq_base.specs.LPresentation.{AreWords, AreEndos, AreEndoNumbers, along}
use Rattle.pq_base.specs.Joined.{Joined}
use Rattle.pq_base.specs.Answer.{Answer, IsAnswer, image_words}
use Rattle.pq_base.proofs.words.WordLaws.{sub-sub}
use Rattle.pq_base.proofs.words.JoinedLaws.{joined-sym, joined-trans, joined-from_equal}
use Rattle.pq_base.proofs.words.WordGroup.{joined-sub_same}
use Rattle.pq_base.proofs.words.LetterLaws.{HasLetters-get_or}
use Rattle.pq_base.proofs.words.AlongLaws.{HasLetters-along}
use Rattle.pc_presentation.specs.Rowed.{without_rows}
use Rattle.pc_presentation.specs.Collection.{State}
use Rattle.pc_presentation.specs.Arithmetic.{word_of}
use Rattle.derivation_log.specs.PlainValues.{bare_state, identity_of, images_of, InducesPlainly}
use Rattle.derivation_log.proofs.PlainValues.{bare-words, value-joined}
use Rattle.derivation_log.proofs.PlainMaps.{maps-carry}

module _ (A : Answer) (answer : IsAnswer A) where
  abbrev P_is : IsPresentation A.presentation
  P_is = answer.presentation

  module _ (endo : List (List ℤ)) (count : length endo
      ≡ length A.names) (over : AreWords (length A.names) endo) (made : InducesPlainly A endo) where
    abbrev values : List (List ℤ)
    values = map (word_of (without_rows A.presentation)) made.values

    images-count : length (images_of A) ≡ length A.names
    images-count = length-map A.images bare_state ∙ answer.image_count

    value-carried : (i : ℕ) → i < length A.names
        → Joined A.presentation (get_or (map (λ (u : List ℤ). sub u (image_words A)) endo) i []) (get_or values i [])
    value-carried i l =
        let long = made.under.count in
        let word : List ℤ = get_or endo i [] in
        let v : State = get_or made.values i (identity_of A) in
        let joined = value-joined A answer.presentation (images_of A) word v
        (subst (λ (n : ℕ). HasLetters n word) (sym images-count) (HasLetters-get_or (length A.names) endo i over))
        (made.under.values i (omega (arith, l, count))) in
        joined-trans
        (joined-from_equal A.presentation (get_or-map (λ (u : List ℤ). sub u (image_words A)) endo i [] [] (omega (arith, l, count))))
        (joined-trans
        (joined-sym (subst (λ (ws : List (List ℤ)). Joined A.presentation (word_of (without_rows A.presentation) v) (sub word ws))
        (bare-words A.presentation A.images) joined))
        (joined-from_equal A.presentation (sym (get_or-map (word_of (without_rows A.presentation)) made.values i (identity_of A) []
        (omega (arith, l, count, long))))))

    pub endo-carries : (w : List ℤ) → HasLetters (length A.names) w → Joined A.presentation (sub w (image_words A)) []
        → Joined A.presentation (sub (sub w endo) (image_words A)) []
    endo-carries w l dies =
        joined-trans (joined-from_equal A.presentation (sub-sub w endo (image_words A)))
        (joined-trans
        (joined-sub_same A.presentation (length A.names) (map (λ (u : List ℤ). sub u (image_words A)) endo) values value-carried w l)
        (maps-carry A A answer.presentation answer.presentation made.values made.made answer
        (made.under.count ∙ count) w l dies))

  -- each endomorphism of a list does, and so all of its images along every list of numbers
  module _ (endos : List (List (List ℤ))) (over : AreEndos (length A.names) endos) (each : All (InducesPlainly A) endos) where
    endo-over : (n : ℕ) (fs : List (List (List ℤ))) → AreEndos (length A.names) fs → n < length fs
        → (length (get_or fs n []) ≡ length A.names) × AreWords (length A.names) (get_or fs n [])
    endo-over n [] are l = absurd (omega (arith, l))
    endo-over zero (g ∷ fs) are l = (are.0, are.1)
    endo-over (suc n) (g ∷ fs) are l = endo-over n fs are.2 (omega (arith, l))

    pub along-dies : (s : List ℕ) (r : List ℤ) → AreEndoNumbers (length endos) s → HasLetters (length A.names) r
        → Joined A.presentation (sub r (image_words A)) [] → Joined A.presentation (sub (along endos s r) (image_words A)) []
    along-dies [] r numbers l dies = dies
    along-dies (zero ∷ s) r numbers l dies = absurd numbers
    along-dies (suc e ∷ s) r numbers l dies =
        let one = endo-over e endos over numbers.0 in
        endo-carries (get_or endos e []) one.0 one.1 (each e [] numbers.0) (along endos s r)
        (HasLetters-along (length A.names) endos s r over l) (along-dies s r numbers.1 l dies)
