-- Elements of a consistent answer make a map of another answer into it, where what its generators spell under their words satisfies
-- its relations, and makes its images these words.
use Rattle.std.proofs.Common.{◌≡◌, ℕ, zero, suc, ◌+◌, ◌-◌, ◌<◌, ℤ, List, [], ◌∷◌, ◌++◌, length, get_or, map, refl, ap, ap₂, sym, ◌∙◌, subst}
use Rattle.std.proofs.Common.{arith}
use Rattle.std.proofs.lemmas.List.{length-map, append-nil}
use Rattle.pq_base.specs.SignedWord.{inv, copies, comm, sub, HasLetters}
use Rattle.pq_base.specs.LPresentation.{AreWords}
use Rattle.pq_base.specs.Presentation.{Presentation, IsRelatorOf, letter, power_word, commutator_word}
use Rattle.pq_base.specs.Presentation.IsRelatorOf.{power_relator, commutator_relator}
use Rattle.pq_base.specs.Joined.{Joined, IsConsistent}
use Rattle.pq_base.specs.Answer.{Answer, Definition, IsAnswer, HasDefinition, definition_at, spelled, spell, image_words}
use Rattle.pq_base.specs.Answer.Definition.{image, commutator, power}
use Rattle.pq_base.specs.EntryWords.{spelling_words}
use Rattle.pq_base.proofs.words.WordLaws.{sub-append, sub-inv, sub-copies, sub-comm}
use Rattle.pq_base.proofs.words.LetterLaws.{HasLetters-get_or, HasLetters-copies, HasLetters-comm, HasLetters-letter, HasLetters-power_word}
use Rattle.pq_base.proofs.words.LetterLaws.{HasLetters-commutator_word, HasLetters-sub}
use Rattle.pq_base.proofs.words.JoinedLaws.{joined-sym, joined-trans, joined-from_equal, joined-copies}
use Rattle.pq_base.proofs.words.JoinedLaws.{joined-comm, joined-from_quotient}
use Rattle.pq_base.proofs.words.WordGroup.{joined-sub_same}
use Rattle.pq_base.proofs.words.SpelledLists.{RefersBefore, spelled-at, definition-refers}
use Rattle.pc_presentation.specs.Rowed.{without_rows}
use Rattle.pc_presentation.specs.Collection.{State, IsState}
use Rattle.pc_presentation.specs.Arithmetic.{word_of}
use Rattle.cover_quotient.proofs.stages.ImageNumbers.{AreWords-image_words}
use Rattle.cover_quotient.proofs.fitting.FitsStart.{length-spelling_words}
use Rattle.derivation_log.specs.PlainValues.{identity_of, plain_product, plain_power, HaveOneValue, IsDefinedValue, AreDefinedValues}
use Rattle.derivation_log.specs.PlainValues.{AreSatisfied, MakeMap}
use Rattle.derivation_log.proofs.PlainGroups.{AreElements, element-get_or}
use Rattle.derivation_log.proofs.PlainGroups.{same-elements, IsElementOf, element, value-known, commutator-known, power-known, word-at}
use Rattle.certified_runs.proofs.LargestMaps.{spelled_under, spelled_under-at, spelled_under-words}

module _ (A : Answer) (is : IsAnswer A) (consistent : IsConsistent A.presentation) where
  abbrev P : Presentation
  P = A.presentation

  abbrev W : State → List ℤ
  W s = word_of (without_rows A.presentation) s

  -- elements of words, one for each
  pub record HaveElements (ws : List (List ℤ)) (g : List State) : Type 0 where
    pub count : length g ≡ length ws
    pub each : (i : ℕ) → i < length ws → IsElementOf A is consistent (get_or ws i []) (get_or g i (identity_of A))

  more-each : (w : List ℤ) (ws : List (List ℤ)) (s : State) (g : List State) → IsElementOf A is consistent w s → HaveElements ws g
      → (i : ℕ) → i < length (w ∷ ws) → IsElementOf A is consistent (get_or (w ∷ ws) i []) (get_or (s ∷ g) i (identity_of A))
  more-each w ws s g one rest zero l = one
  more-each w ws s g one rest (suc i) l = rest.each i (omega arith)

  pub elements-of : (ws : List (List ℤ)) → AreWords A.presentation.rank ws → (g : List State) × HaveElements ws g
  elements-of [] are = ([], record { count = refl; each = λ i l. absurd (omega arith) })
  elements-of (w ∷ ws) are =
      let one = element A is consistent w are.0 in
      let rest = elements-of ws are.1 in
      (one.0 ∷ rest.0, record { count = ap suc rest.1.count; each = more-each w ws one.0 rest.0 one.1 rest.1 })

  pub elements-are : (ws : List (List ℤ)) (g : List State) → HaveElements ws g → AreElements A.presentation g
  elements-are [] [] h = tt
  elements-are [] (s ∷ g) h = let c = h.count in absurd (omega arith)
  elements-are (w ∷ ws) [] h = let c = h.count in absurd (omega arith)
  elements-are (w ∷ ws) (s ∷ g) h =
      let c = h.count in
      ((h.each 0 (omega arith)).state, elements-are ws g (record { count = omega arith; each = λ i l. h.each (suc i) (omega arith) }))

  module _ (B : Answer) (isB : IsAnswer B) (consistentB : IsConsistent B.presentation) (prime : A.presentation.prime ≡ B.presentation.prime)
      (f : List State) (are : AreElements A.presentation f) (countf : length f ≡ length B.images)
      (words : AreWords A.presentation.rank (map (word_of (without_rows A.presentation)) f))
      (relators : (r : List ℤ) → IsRelatorOf B.presentation r
      → Joined A.presentation (sub r (spelled_under B (map (word_of (without_rows A.presentation)) f))) [])
      (images : (i : ℕ) → i < length B.images
      → Joined A.presentation (get_or (map (word_of (without_rows A.presentation)) f) i [])
      (sub (get_or (image_words B) i []) (spelled_under B (map (word_of (without_rows A.presentation)) f)))) where
    abbrev F : List (List ℤ)
    F = map (word_of (without_rows A.presentation)) f

    abbrev G : List (List ℤ)
    G = spelled_under B (map (word_of (without_rows A.presentation)) f)

    abbrev m : ℕ
    m = B.presentation.rank

    length-G : length G ≡ B.presentation.rank
    length-G = length-map (spelling_words B) (λ (w : List ℤ). sub w F) ∙ length-spelling_words B isB

    found : (g : List State) × HaveElements G g
    found = elements-of G (spelled_under-words B P.rank F words)

    abbrev g : List State
    g = found.0

    count : length g ≡ B.presentation.rank
    count = found.1.count ∙ length-G

    g-are : AreElements A.presentation g
    g-are = elements-are G g found.1

    -- the element of a generator
    at : (k : ℕ) → k < B.presentation.rank → IsElementOf A is consistent (sub (spell B k) F) (get_or g k (identity_of A))
    at k l =
        let c = length-G in
        subst (λ (w : List ℤ). IsElementOf A is consistent w (get_or g k (identity_of A))) (spelled_under-at B F k)
        (found.1.each k (omega arith))

    -- words under the elements
    same-under : (w : List ℤ) → HasLetters B.presentation.rank w → Joined A.presentation (sub w G) (sub w (map W g))
    same-under w l =
        let c = count in
        let d = length-G in
        joined-sub_same P m G (map W g)
        (λ i k. joined-trans (found.1.each i (omega arith)).joined (joined-from_equal P (sym (word-at A is g i (omega arith))))) w l

    spelled-as : (k : ℕ) → k < B.presentation.rank → spell B k ≡ spelled B.presentation.prime (spelling_words B) (definition_at B k)
    spelled-as k l =
        let many = isB.definition_count in
        let none : 0 + k ≡ k = omega arith in
        ap (λ (n : ℕ). get_or (spelling_words B) n []) (sym none)
        ∙ spelled-at B.presentation.prime [] B.definitions k (omega arith)
        (subst (λ (n : ℕ). RefersBefore n (definition_at B k)) (sym none) (definition-refers B k (definition_at B k) (isB.definitions k l)))

    -- the value of a definition
    defined-as : (k : ℕ) → k < B.presentation.rank → (d : Definition) → HasDefinition B k d
        → spell B k ≡ spelled B.presentation.prime (spelling_words B) d → IsDefinedValue A f g d (get_or g k (identity_of A))
    defined-as k l (image zero) h e = absurd h
    defined-as k l (image (suc i)) h e =
        let place : suc i - 1 ≡ i = omega arith in
        let within : i < length f = (let b : i < length B.images = h.1 in let c = countf in omega arith) in
        let x : State = get_or f i (identity_of A) in
        let state : IsState (without_rows A.presentation) A.presentation.rank x = element-get_or P f (identity_of A) are i within in
        ap (λ (j : ℕ). get_or f j (identity_of A)) place
        ∙ same-elements A is consistent x (get_or g k (identity_of A)) state (at k l).state
        (joined-trans
        (joined-from_equal P (sym (ap (λ (w : List ℤ). sub w F) e ∙ append-nil (get_or F i []) ∙ word-at A is f i within))) (at k l).joined)
    defined-as k l (commutator zero i) h e = absurd h
    defined-as k l (commutator (suc j) zero) h e = absurd h
    defined-as k l (commutator (suc j) (suc i)) h e =
        let before : j < k = h.2 in
        let less : i < j = h.1 in
        let pj : suc j - 1 ≡ j = omega arith in
        let pi : suc i - 1 ≡ i = omega arith in
        let a = at j (omega arith) in
        let b = at i (omega arith) in
        let z = at k l in
        let u : State = get_or g j (identity_of A) in
        let v : State = get_or g i (identity_of A) in
        let s : State = get_or g k (identity_of A) in
        let spelt : Joined A.presentation (W s) (comm (W u) (W v)) =
        joined-trans (joined-sym z.joined)
        (joined-trans (joined-from_equal P (ap (λ (w : List ℤ). sub w F) e ∙ sub-comm (spell B j) (spell B i) F))
        (joined-comm a.joined b.joined)) in
        let product : plain_product A (plain_product A v u) s ≡ plain_product A u v =
        commutator-known A is consistent u v s a.state b.state z.state spelt in
        record {
          state = z.state;
          product =
              ap₂ (λ (x y : ℕ). plain_product A (plain_product A (get_or g y (identity_of A)) (get_or g x (identity_of A))) s) pj pi
              ∙ product
              ∙ sym (ap₂ (λ (x y : ℕ). plain_product A (get_or g x (identity_of A)) (get_or g y (identity_of A))) pj pi);
        }
    defined-as k l (power zero) h e = absurd h
    defined-as k l (power (suc j)) h e =
        let before : j < k = h.1 in
        let pj : suc j - 1 ≡ j = omega arith in
        let a = at j (omega arith) in
        let z = at k l in
        let u : State = get_or g j (identity_of A) in
        ap (λ (x : ℕ). plain_power A (get_or g x (identity_of A)) A.presentation.prime) pj
        ∙ power-known A is consistent u (get_or g k (identity_of A)) A.presentation.prime a.state z.state
        (joined-trans (joined-sym z.joined)
        (joined-trans
        (joined-from_equal P
        (ap (λ (w : List ℤ). sub w F) e ∙ sub-copies (spell B j) B.presentation.prime F
        ∙ sym (ap (copies (sub (spell B j) F)) prime)))
        (joined-copies A.presentation.prime a.joined)))

    defined : AreDefinedValues B A f g
    defined = record {
      count = count;
      values = λ k l. defined-as k l (definition_at B k) (isB.definitions k l) (spelled-as k l);
    }

    -- a relation
    one-value : (u w : List ℤ) → HasLetters B.presentation.rank u → HasLetters B.presentation.rank w
        → IsRelatorOf B.presentation (u ++ inv w)
        → HaveOneValue A g u w
    one-value u w l k r =
        let c = count in
        let lu : HasLetters (length g) u = subst (λ (n : ℕ). HasLetters n u) (sym count) l in
        let lw : HasLetters (length g) w = subst (λ (n : ℕ). HasLetters n w) (sym count) k in
        let quotient : Joined A.presentation (sub u G ++ inv (sub w G)) [] =
        joined-trans
        (joined-from_equal P (sym (sub-append u (inv w) G ∙ ap (λ (x : List ℤ). sub u G ++ x) (sub-inv w G)))) (relators (u ++ inv w) r) in
        let equal : Joined A.presentation (sub u (map W g)) (sub w (map W g)) =
        joined-trans (joined-sym (same-under u l)) (joined-trans (joined-from_quotient (sub u G) (sub w G) quotient) (same-under w k)) in
        let x = element A is consistent (sub u G) (HasLetters-sub P.rank u G (spelled_under-words B P.rank F words)) in
        let known : Joined A.presentation (W x.0) (sub u (map W g)) = joined-trans (joined-sym x.1.joined) (same-under u l) in
        record {
          value = x.0;
          left = value-known A is consistent g g-are u lu x.0 x.1.state known;
          right = value-known A is consistent g g-are w lw x.0 x.1.state (joined-trans known equal);
        }

    satisfied : AreSatisfied B.presentation A g
    satisfied = record {
      powers = λ i l.
          one-value (copies (letter i) B.presentation.prime) (power_word B.presentation i)
          (HasLetters-copies m (letter i) B.presentation.prime (HasLetters-letter m i l))
          (HasLetters-power_word B.presentation isB.presentation i l) (power_relator i l);
      commutators = λ j i l k.
          one-value (comm (letter j) (letter i)) (commutator_word B.presentation j i)
          (HasLetters-comm m (letter j) (letter i) (HasLetters-letter m j l) (HasLetters-letter m i (omega arith)))
          (HasLetters-commutator_word B.presentation isB.presentation j i l k) (commutator_relator j i l k);
    }

    pub makes-map : MakeMap B A f
    makes-map = record {
      elements = g;
      defined = defined;
      satisfied = satisfied;
      images = λ i l.
          let c = isB.image_count in
          let d = countf in
          let within : i < length f = omega arith in
          let u : List ℤ = get_or (image_words B) i [] in
          let lu : HasLetters m u = HasLetters-get_or m (image_words B) i (AreWords-image_words B isB consistentB) in
          value-known A is consistent g g-are u (subst (λ (n : ℕ). HasLetters n u) (sym count) lu)
          (get_or f i (identity_of A)) (element-get_or P f (identity_of A) are i within)
          (joined-trans (joined-from_equal P (sym (word-at A is f i within)))
          (joined-trans (images i (omega arith)) (same-under u lu)));
    }
