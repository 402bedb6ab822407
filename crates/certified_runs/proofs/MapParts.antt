-- Endomorphisms of a presentation without fixed relators make maps of its largest quotient into itself, and the images of a largest
-- quotient make a map of that of the iterated part into it.
use Rattle.std.proofs.Common.{◌≡◌, ℕ, zero, suc, ◌<◌, ℤ, List, [], ◌∷◌, length, get_or, map, ap, sym, ◌∙◌, subst, arith}
use Rattle.std.specs.List.{All}
use Rattle.std.proofs.lemmas.List.{length-map}
use Rattle.std.proofs.lemmas.List.Elements.{All-from_get_or}
use Rattle.std.proofs.Math.ListN.{get_or-map}
use Rattle.pq_base.specs.SignedWord.{sub, HasLetters}
use Rattle.pq_base.specs.LPresentation.{LPresentation, IsLPresentation, IsRelator, AreWords, AreEndos, part}
use Rattle.pq_base.specs.LPresentation.Part.{iterated_part}
use Rattle.pq_base.specs.LPresentation.IsRelator.{fixed_relator, iterated_relator}
use Rattle.pq_base.specs.Joined.{Joined, IsConsistent}
use Rattle.pq_base.specs.Series.{HasClass}
use Rattle.pq_base.specs.Answer.{Answer, IsAnswer, image_words}
use Rattle.pq_base.specs.Largest.{IsLargest}
use Rattle.pq_base.proofs.words.WordLaws.{sub-sub}
use Rattle.pq_base.proofs.words.LetterLaws.{HasLetters-get_or, HasLetters-normal_word}
use Rattle.pq_base.proofs.words.AlongLaws.{HasLetters-IsRelator}
use Rattle.pq_base.proofs.words.JoinedLaws.{joined-sym, joined-trans, joined-from_equal}
use Rattle.pq_base.proofs.words.WordGroup.{joined-sub_same}
use Rattle.pc_presentation.specs.Rowed.{without_rows}
use Rattle.pc_presentation.specs.Collection.{State, IsState}
use Rattle.pc_presentation.specs.Arithmetic.{word_of}
use Rattle.cover_quotient.proofs.stages.ImageNumbers.{AreWords-image_words}
use Rattle.derivation_log.specs.PlainValues.{bare_state, identity_of, images_of, MakeMap, AreValues, InducesPlainly}
use Rattle.derivation_log.proofs.PlainGroups.{AreElements, state-bare, bare-word, value-known, words-of_images, elements-of_images, word-at}
use Rattle.certified_runs.proofs.LargestMaps.{AreWords-map_sub, relators-satisfied, images-made}
use Rattle.certified_runs.proofs.PlainMaps.{HaveElements, elements-of, elements-are, makes-map}

-- words of elements
element-letters : (A : Answer) → IsAnswer A → (s : State) → IsState (without_rows A.presentation) A.presentation.rank s
    → HasLetters A.presentation.rank (word_of (without_rows A.presentation) s)
element-letters A is s h =
    let c = h.exponents.count in
    subst (HasLetters A.presentation.rank)
    (sym (ap (word_of (without_rows A.presentation)) (state-bare A.presentation A.presentation.rank s h) ∙ bare-word A is s.exponents))
    (HasLetters-normal_word A.presentation.rank s.exponents (omega arith))

elements-letters : (A : Answer) → IsAnswer A → (f : List State) → AreElements A.presentation f
    → AreWords A.presentation.rank (map (word_of (without_rows A.presentation)) f)
elements-letters A is [] are = tt
elements-letters A is (s ∷ f) are = (element-letters A is s are.0, elements-letters A is f are.1)

-- elements that obey the relators of a largest quotient
pub largest-makes_map : (M : LPresentation) (p c : ℕ) (B : Answer) → IsLargest M p c B → (A : Answer) (is : IsAnswer A)
    → IsConsistent A.presentation → HasClass A.presentation c → A.presentation.prime ≡ p → (f : List State) → AreElements A.presentation f
    → length f ≡ length B.images
    → ((r : List ℤ) → IsRelator M r → Joined A.presentation (sub r (map (word_of (without_rows A.presentation)) f)) []) → MakeMap B A f
largest-makes_map M p c B largest A is consistent class prime f are count obeyed =
    let F : List (List ℤ) = map (word_of (without_rows A.presentation)) f in
    let words = elements-letters A is f are in
    let many : length (map (word_of (without_rows A.presentation)) f) ≡ length M.names =
    length-map f (word_of (without_rows A.presentation)) ∙ count ∙ largest.answer.image_count
    ∙ ap (λ (ns : List (List ℕ)). length ns) largest.names in
    makes-map A is consistent B largest.answer largest.consistent (prime ∙ sym largest.prime) f are count words
    (relators-satisfied M p c B largest A is consistent class prime F words many obeyed)
    (images-made M p c B largest A is consistent class prime F words many obeyed)

-- each relator of the iterated part is one of the whole
part-relator : (L : LPresentation) (r : List ℤ) → IsRelator (part L iterated_part) r → IsRelator L r
part-relator L r (fixed_relator i l) = absurd (omega arith)
part-relator L r (iterated_relator s i numbers l) = iterated_relator s i numbers l

-- Map
pub part-makes_map : (L : LPresentation) (p c : ℕ) (B A : Answer) → IsLargest (part L iterated_part) p c B → IsLargest L p c A
    → MakeMap B A (images_of A)
part-makes_map L p c B A largest whole =
    let is = whole.answer in
    let countA : length A.images ≡ length L.names = is.image_count ∙ ap (λ (ns : List (List ℕ)). length ns) whole.names in
    let countB : length B.images ≡ length L.names = largest.answer.image_count ∙ ap (λ (ns : List (List ℕ)). length ns) largest.names in
    largest-makes_map (part L iterated_part) p c B largest A is whole.consistent whole.class whole.prime (images_of A)
    (elements-of_images A is whole.consistent) (length-map A.images bare_state ∙ countA ∙ sym countB)
    (λ r h.
    subst (λ (F : List (List ℤ)). Joined A.presentation (sub r F) []) (sym (words-of_images A is whole.consistent))
    (whole.kills r (part-relator L r h)))

endo-shape : (n : ℕ) (endos : List (List (List ℤ))) (i : ℕ) → i < length endos → AreEndos n endos
    → (length (get_or endos i []) ≡ n) × AreWords n (get_or endos i [])
endo-shape n [] i l are = absurd (omega arith)
endo-shape n (f ∷ endos) zero l are = (are.0, are.1)
endo-shape n (f ∷ endos) (suc i) l are = endo-shape n endos i (omega arith) are.2

module _ (L : LPresentation) (words : IsLPresentation L) (none : length L.fixed ≡ 0) (p c : ℕ) (A : Answer)
    (largest : IsLargest L p c A) where
  is : IsAnswer A
  is = largest.answer

  consistent : IsConsistent A.presentation
  consistent = largest.consistent

  abbrev W : State → List ℤ
  W s = word_of (without_rows A.presentation) s

  countA : length A.images ≡ length L.names
  countA = is.image_count ∙ ap (λ (ns : List (List ℕ)). length ns) largest.names

  module _ (i : ℕ) (few : i < length L.endos) where
    abbrev endo : List (List ℤ)
    endo = get_or L.endos i []

    shape : (length (get_or L.endos i []) ≡ length L.names) × AreWords (length L.names) (get_or L.endos i [])
    shape = endo-shape (length L.names) L.endos i few words.endo_words

    -- the words of the endomorphism under the images
    abbrev ws : List (List ℤ)
    ws = map (λ (u : List ℤ). sub u (image_words A)) (get_or L.endos i [])

    found : (g : List State) × HaveElements A is consistent ws g
    found =
        elements-of A is consistent ws
        (AreWords-map_sub A.presentation.rank (image_words A) endo (AreWords-image_words A is consistent))

    count : length found.0 ≡ length (get_or L.endos i [])
    count = found.1.count ∙ length-map endo (λ (u : List ℤ). sub u (image_words A))

    known : (k : ℕ) → k < length (get_or L.endos i []) → Joined A.presentation (sub (get_or endo k []) (image_words A))
        (W (get_or found.0 k (identity_of A)))
    known k l =
        let long = length-map endo (λ (u : List ℤ). sub u (image_words A)) in
        joined-trans (joined-from_equal A.presentation (sym (get_or-map (λ (u : List ℤ). sub u (image_words A)) endo k [])))
        (found.1.each k (omega arith)).joined

    under : AreValues A (get_or L.endos i []) found.0
    under = record {
      count = count;
      values = λ k l.
          let long : length (images_of A) ≡ length L.names = length-map A.images bare_state ∙ countA in
          let many = length-map endo (λ (u : List ℤ). sub u (image_words A)) in
          value-known A is consistent (images_of A) (elements-of_images A is consistent) (get_or endo k [])
          (subst (λ (n : ℕ). HasLetters n (get_or endo k [])) (sym long) (HasLetters-get_or (length L.names) endo k shape.1))
          (get_or found.0 k (identity_of A)) (found.1.each k (omega arith)).state
          (joined-trans (joined-sym (known k l))
          (joined-from_equal A.presentation (ap (sub (get_or endo k [])) (sym (words-of_images A is consistent)))));
    }

    -- the image of a relator is one
    carried : (r : List ℤ) → IsRelator L r → Joined A.presentation (sub (sub r (get_or L.endos i [])) (image_words A)) []
    carried r (fixed_relator k l) = absurd (omega arith)
    carried r (iterated_relator s k numbers l) = largest.kills (sub r endo) (iterated_relator (suc i ∷ s) k (few, numbers) l)

    obeyed : (r : List ℤ) → IsRelator L r → Joined A.presentation (sub r (map (word_of (without_rows A.presentation)) found.0)) []
    obeyed r h =
        let c = count in
        let shaped = shape.0 in
        joined-trans
        (joined-sym
        (joined-sub_same A.presentation (length L.names) ws (map W found.0)
        (λ k l.
        joined-trans (found.1.each k (let many = length-map endo (λ (u : List ℤ). sub u (image_words A)) in omega arith)).joined
        (joined-from_equal A.presentation (sym (word-at A is found.0 k (omega arith)))))
        r (HasLetters-IsRelator L words h)))
        (joined-trans (joined-from_equal A.presentation (sym (sub-sub r endo (image_words A)))) (carried r h))

    induces : InducesPlainly A (get_or L.endos i [])
    induces = record {
      values = found.0;
      under = under;
      made =
          largest-makes_map L p c A largest A is consistent largest.class largest.prime found.0
          (elements-are A is consistent ws found.0 found.1)
          (count ∙ shape.0 ∙ sym countA) obeyed;
    }

  -- Endo
  pub endos-induce : All (InducesPlainly A) L.endos
  endos-induce = All-from_get_or (InducesPlainly A) L.endos [] induces
