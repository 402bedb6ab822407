-- An answer that obeys weights has, cut to class k, a presentation of class k: in the next one the generators of weight
-- k + 1 have relations with empty words, so they are central of order p, and cutting them off leaves class k.
use Rattle.std.proofs.Common.{◌≡◌, ◌≢◌, ℕ, zero, suc, ◌+◌, ◌-◌, ◌<◌, ◌≤◌, Bool, true, false, leb, ℤ, pos, negsuc, List, [], ◌∷◌, ◌++◌}
use Rattle.std.proofs.Common.{get_or, length, take, inl, inr, refl, ap, sym, ◌∙◌, ⊎_elim, subst, arith}
use Rattle.std.proofs.lemmas.Bool.{cases_lt, cases_eq, leb-true, leb-false, le-leb, false≢true}
use Rattle.std.proofs.lemmas.List.{get_or-take, length-take-le}
use Rattle.std.proofs.Math.ListN.{get_or-map}
use Rattle.pq_base.specs.SignedWord.{copies, comm, HasLetters}
use Rattle.pq_base.specs.Table.{AllBelow}
use Rattle.pq_base.specs.Presentation.{Presentation, IsPresentation, letter, word_from, normal_word, power_side, commutator_side}
use Rattle.pq_base.specs.Presentation.{power_word, commutator_word}
use Rattle.pq_base.specs.Joined.{Joined}
use Rattle.pq_base.specs.Series.{NextWord, InSeries, HasClass}
use Rattle.pq_base.specs.Series.NextWord.{no_word, then_commutator, then_power}
use Rattle.pq_base.specs.Answer.{Answer, Definition as Source, IsAnswer, AreWeights, HasDefinition, weight_at, definition_at, image_words}
use Rattle.pq_base.specs.Answer.Definition.{image, commutator, power}
use Rattle.pq_base.specs.Canonical.{one_more_where, count_up_to, rank_up_to, first_generators, up_to_class, ObeysWeights}
use Rattle.pq_base.proofs.words.WordLaws.{copies-nil}
use Rattle.pq_base.proofs.words.LetterLaws.{HasLetters-letter, HasLetters-word_from, HasLetters-copies}
use Rattle.pq_base.proofs.words.JoinedLaws.{joined-refl, joined-from_equal, joined-sym, joined-trans, joined-append, joined-copies}
use Rattle.pq_base.proofs.words.JoinedLaws.{comm-joined_nil, commute-from_comm, power-joined, commutator-joined}
use Rattle.pq_base.proofs.words.CentralWords.{IsCentral, central-nil, central-append, central-joined, central_from_letters}
use Rattle.pq_base.proofs.words.CentralWords.{copies-append_joined}
use Rattle.pq_base.proofs.SeriesLaws.{series-letters}
use Rattle.pc_presentation.specs.CutLaws.{cut_word}
use Rattle.cover_quotient.specs.CanonicalAnswerLaws.{WeightsGiveTheClass}
use Rattle.pc_presentation.proofs.cuts.CutSides.{power_side-cut, commutator_side-cut, cut-presentation, series-cut}
use Rattle.pc_presentation.proofs.cuts.Cuts.{cut_words_are_later}
use Rattle.pq_base.proofs.NormalLists.{normal-entry}
use Rattle.pq_base.proofs.Restrictions.{restrictions-compose}
use Rattle.pq_base.proofs.WeightLaws.{weights-least, weights-past_count, count_up_to-within}

-- generators from place m on whose relations have empty words
module _ (Q : Presentation) (is : IsPresentation Q) (big : 1 < Q.prime) (m : ℕ) (within : m ≤ Q.rank)
    (powers : (l : ℕ) → m ≤ l → l < Q.rank → power_word Q l ≡ [])
    (commutators : (l i : ℕ) → m ≤ l → l < Q.rank → i < l → commutator_word Q l i ≡ []) where
  -- words that are central and of order p
  record IsLast (x : List ℤ) : Type 0 where
    pub central : IsCentral Q x
    pub power : Joined Q (copies x Q.prime) []

  last-nil : IsLast []
  last-nil = record { central = central-nil Q; power = joined-from_equal Q (copies-nil Q.prime) }

  last-append : (x y : List ℤ) → HasLetters Q.rank y → IsLast x → IsLast y → IsLast (x ++ y)
  last-append x y l h i = record {
    central = central-append Q x y h.central i.central;
    power = joined-trans (copies-append_joined Q x y Q.prime (h.central.commutes y l)) (joined-append h.power i.power);
  }

  last-kept : (x y : List ℤ) → Joined Q x y → IsLast x → IsLast y
  last-kept x y e h = record {
    central = central-joined Q e h.central;
    power = joined-trans (joined-copies Q.prime (joined-sym e)) h.power;
  }

  behind : (l i : ℕ) → m ≤ l → l < Q.rank → i < l → Joined Q (letter l ++ letter i) (letter i ++ letter l)
  behind l i a b c =
      commute-from_comm (letter l) (letter i)
      (subst (λ (w : List ℤ). Joined Q (comm (letter l) (letter i)) w) (commutators l i a b c) (commutator-joined Q l i b c))

  letters-commute : (l : ℕ) → m ≤ l → l < Q.rank → (i : ℕ) → i < Q.rank → Joined Q (letter l ++ letter i) (letter i ++ letter l)
  letters-commute l a b i c = elim (cases_lt i l) [
    | inl before ↦ behind l i a b before
    | inr after ↦ elim (cases_lt l i) [
      | inl later ↦ joined-sym (behind i l (omega arith) c later)
      | inr equal ↦
          let same : l ≡ i = omega arith in
          subst (λ (j : ℕ). Joined Q (letter l ++ letter j) (letter j ++ letter l)) same (joined-refl Q (letter l ++ letter l))
    ]
  ]

  last-letter : (l : ℕ) → m ≤ l → l < Q.rank → IsLast (letter l)
  last-letter l a b = record {
    central = central_from_letters Q (letter l) (letters-commute l a b);
    power = subst (λ (w : List ℤ). Joined Q (copies (letter l) Q.prime) w) (powers l a b) (power-joined Q l b);
  }

  last-copies : (l n : ℕ) → m ≤ l → l < Q.rank → IsLast (copies (letter l) n)
  last-copies l zero a b = last-nil
  last-copies l (suc n) a b =
      last-append (letter l) (copies (letter l) n) (HasLetters-copies Q.rank (letter l) n (HasLetters-letter Q.rank l b))
      (last-letter l a b) (last-copies l n a b)

  last-word_from : (j : ℕ) (e : List ℕ) → m ≤ j → j + length e ≤ Q.rank → IsLast (word_from j e)
  last-word_from j [] a b = last-nil
  last-word_from j (x ∷ e) a b =
      last-append (copies (letter j) x) (word_from (suc j) e) (HasLetters-word_from Q.rank (suc j) e (omega arith))
      (last-copies j x a (omega arith)) (last-word_from (suc j) e (omega arith) (omega arith))

  module _ (k : ℕ) (class : HasClass (first_generators m Q) k) where
    below-last : (u : List ℤ) → InSeries Q k u → IsLast u
    below-last u s =
        let trivial = class (cut_word m Q u) (series-cut Q is m within k u s) in
        let reached = cut_words_are_later Q m is within u (series-letters Q k u s) trivial in
        let long : length reached.exponents ≡ Q.rank - m = reached.normal.count in
        last-kept (word_from m reached.exponents) u (joined-sym reached.joined)
        (last-word_from m reached.exponents (omega arith) (omega arith))

    next-trivial : {w : List ℤ} → NextWord Q (InSeries Q k) w → Joined Q w []
    next-trivial no_word = joined-refl Q []
    next-trivial (then_commutator u v w s h n) =
        joined-append (comm-joined_nil u v ((below-last u s).central.commutes v h)) (next-trivial n)
    next-trivial (then_power u w s n) = joined-append (below-last u s).power (next-trivial n)

    pub class-with_last : HasClass Q (suc k)
    class-with_last w s = joined-trans s.joined (next-trivial s.next)

-- weights that are counted
pub weights-counted : (least k : ℕ) (ws : List ℕ) → AreWeights least ws → (j : ℕ) → j < count_up_to k ws → get_or ws j 0 ≤ k
weights-counted least k [] h j l = absurd (omega arith)
weights-counted least k (w ∷ ws) h j l = by_test (leb w k) refl (weights-counted w k ws h.2) j l
  where
    by_test : (t : Bool) → leb w k ≡ t → ((i : ℕ) → i < count_up_to k ws → get_or ws i 0 ≤ k)
        → (i : ℕ) → i < one_more_where t (count_up_to k ws) → get_or (w ∷ ws) i 0 ≤ k
    by_test true e rest zero b = leb-true w k e
    by_test true e rest (suc i) b = rest i (omega arith)
    by_test false e rest i b =
        let first = leb-false w k e in
        let fits = count_up_to-within k ws in
        let more = weights-least w ws h.2 i (omega arith) in
        let less = rest i b in
        absurd (omega arith)

one_more-grows : (b c : Bool) (n m : ℕ) → (b ≡ true → c ≡ true) → n ≤ m → one_more_where b n ≤ one_more_where c m
one_more-grows false false n m h l = l
one_more-grows false true n m h l = omega arith
one_more-grows true true n m h l = omega arith
one_more-grows true false n m h l = absurd (false≢true (h refl))

pub counts-grow : (k : ℕ) (ws : List ℕ) → count_up_to k ws ≤ count_up_to (suc k) ws
counts-grow k [] = omega arith
counts-grow k (w ∷ ws) =
    one_more-grows (leb w k) (leb w (suc k)) (count_up_to k ws) (count_up_to (suc k) ws)
    (λ e. let l = leb-true w k e in le-leb w (suc k) (omega arith)) (counts-grow k ws)

-- words of exponents that are 0
pub word_from-zero : (k : ℕ) (e : List ℕ) → ((i : ℕ) → i < length e → get_or e i 0 ≡ 0) → word_from k e ≡ []
word_from-zero k [] h = refl
word_from-zero k (zero ∷ e) h = word_from-zero (suc k) e (λ i l. h (suc i) (omega arith))
word_from-zero k (suc x ∷ e) h = let none : suc x ≡ 0 = h 0 (omega arith) in absurd (omega arith)

no_letters : (n : ℕ) (w : List ℤ) → n ≡ 0 → HasLetters n w → w ≡ []
no_letters n [] e h = refl
no_letters n (pos zero ∷ w) e h = absurd h.0
no_letters n (pos (suc k) ∷ w) e h = let l : k < n = h.0 in absurd (omega arith)
no_letters n (negsuc k ∷ w) e h = let l : k < n = h.0 in absurd (omega arith)

module _ (A : Answer) (is : IsAnswer A) where
  abbrev P : Presentation
  P = A.presentation

  abbrev ws : List ℕ
  ws = A.weights

  long : length A.weights ≡ A.presentation.rank
  long = is.weight_count

  pub rank-within : (k : ℕ) → rank_up_to A k ≤ A.presentation.rank
  rank-within k = let fits = count_up_to-within k A.weights in let same = long in omega arith

  module _ (obeys : ObeysWeights A) (k : ℕ) where
    abbrev m : ℕ
    m = rank_up_to A k

    abbrev n : ℕ
    n = rank_up_to A (suc k)

    abbrev Q : Presentation
    Q = first_generators (rank_up_to A (suc k)) A.presentation

    heavy : (l : ℕ) → m ≤ l → l < n → k < weight_at A l
    heavy l a b =
        let fits = rank-within (suc k) in
        let same = long in
        weights-past_count 1 k A.weights is.weights l a (omega arith)

    light : (l : ℕ) → l < n → weight_at A l ≤ suc k
    light l b = weights-counted 1 (suc k) A.weights is.weights l b

    side-long : (l : ℕ) (e : List ℕ) → l < n → suc l + length e ≡ P.rank → length (take (n - suc l) e) ≡ n - suc l
    side-long l e b c = let fits = rank-within (suc k) in length-take-le (n - suc l) e (omega arith)

    power-entry : (l i : ℕ) → m ≤ l → l < n → i < n - suc l → get_or (power_side P l) i 0 ≡ 0
    power-entry l i a b c =
        ⊎_elim (λ (zero_there : get_or (power_side A.presentation l) i 0 ≡ 0). zero_there)
        (λ (other : get_or (power_side A.presentation l) i 0 ≢ 0).
        let fits = rank-within (suc k) in
        let more : suc (weight_at A l) ≤ weight_at A (suc l + i) = obeys.powers l i (omega arith) other in
        let first = heavy l a b in
        let last = light (suc l + i) (omega arith) in
        absurd (omega arith))
        (cases_eq (get_or (power_side A.presentation l) i 0) 0)

    commutator-entry : (l j i : ℕ) → m ≤ l → l < n → j < l → i < n - suc l → get_or (commutator_side P l j) i 0 ≡ 0
    commutator-entry l j i a b c d =
        ⊎_elim (λ (zero_there : get_or (commutator_side A.presentation l j) i 0 ≡ 0). zero_there)
        (λ (other : get_or (commutator_side A.presentation l j) i 0 ≢ 0).
        let fits = rank-within (suc k) in
        let same = long in
        let more : weight_at A l + weight_at A j ≤ weight_at A (suc l + i) = obeys.commutators l j i (omega arith) c other in
        let first = heavy l a b in
        let least = weights-least 1 A.weights is.weights j (omega arith) in
        let last = light (suc l + i) (omega arith) in
        absurd (omega arith))
        (cases_eq (get_or (commutator_side A.presentation l j) i 0) 0)

    zero-side : (l : ℕ) (e : List ℕ) → l < n → suc l + length e ≡ P.rank → ((i : ℕ) → i < n - suc l → get_or e i 0 ≡ 0)
        → word_from (suc l) (take (n - suc l) e) ≡ []
    zero-side l e b c h =
        let count = side-long l e b c in
        word_from-zero (suc l) (take (n - suc l) e) (λ i r. get_or-take (n - suc l) e i 0 (omega arith) ∙ h i (omega arith))

    last-powers : (l : ℕ) → m ≤ l → l < n → power_word Q l ≡ []
    last-powers l a b =
        let fits = rank-within (suc k) in
        ap (word_from (suc l)) (power_side-cut A.presentation is.presentation (rank_up_to A (suc k)) fits l b)
        ∙ zero-side l (power_side P l) b (is.presentation.power_sides l (omega arith)).count (λ i r. power-entry l i a b r)

    last-commutators : (l j : ℕ) → m ≤ l → l < n → j < l → commutator_word Q l j ≡ []
    last-commutators l j a b c =
        let fits = rank-within (suc k) in
        ap (word_from (suc l)) (commutator_side-cut A.presentation is.presentation (rank_up_to A (suc k)) fits l j b)
        ∙ zero-side l (commutator_side P l j) b (is.presentation.commutator_sides l j (omega arith) c).count
        (λ i r. commutator-entry l j i a b c r)

    -- one class more
    pub class-step : 1 < A.presentation.prime → HasClass (up_to_class A k).presentation k
        → HasClass (up_to_class A (suc k)).presentation (suc k)
    class-step big class =
        let twice : up_to_class (up_to_class A (suc k)) k ≡ up_to_class A k = restrictions-compose A is.weights k (suc k) (omega arith) in
        let rank : rank_up_to (up_to_class A (suc k)) k ≡ rank_up_to A k = ap (λ (C : Answer). C.presentation.rank) twice in
        let base : HasClass (first_generators (rank_up_to (up_to_class A (suc k)) k) Q) k =
        subst (λ (C : Answer). HasClass C.presentation k) (sym twice) class in
        let cut : HasClass (first_generators (rank_up_to A k) Q) k =
        subst (λ (r : ℕ). HasClass (first_generators r Q) k) rank base in
        let fits = rank-within (suc k) in
        class-with_last Q (cut-presentation A.presentation is.presentation (rank_up_to A (suc k)) fits) big (rank_up_to A k)
        (counts-grow k A.weights) last-powers last-commutators k cut

  rank-zero : rank_up_to A 0 ≡ 0
  rank-zero = elim (cases_lt 0 (rank_up_to A 0)) [
    | inl some ↦
        let fits = rank-within 0 in
        let same = long in
        let light = weights-counted 1 0 A.weights is.weights 0 some in
        let least = weights-least 1 A.weights is.weights 0 (omega arith) in
        absurd (omega arith)
    | inr none ↦ omega arith
  ]

  no_generators : (n : ℕ) (c : ℕ) → n ≡ 0 → HasClass (first_generators n A.presentation) c
  no_generators n c e w s =
      joined-from_equal (first_generators n A.presentation) (no_letters n w e (series-letters (first_generators n A.presentation) c w s))

  classes : ObeysWeights A → 1 < A.presentation.prime → (k : ℕ) → HasClass (up_to_class A k).presentation k
  classes obeys big zero = no_generators (rank_up_to A 0) 0 rank-zero
  classes obeys big (suc k) = class-step obeys k big (classes obeys big k)

  pub weights-class : ObeysWeights A → (k : ℕ) → HasClass (up_to_class A k).presentation k
  weights-class obeys k = classes obeys is.presentation.prime k

pub weights_give_the_class : WeightsGiveTheClass
weights_give_the_class A is obeys k = weights-class A is obeys k
