-- Later words: words that are joined to products of generators from some place on. They are closed under products,
-- inverses and conjugates by all words over the generators, and reach normal words of these generators alone.
use Rattle.std.proofs.Common.{◌≡◌, ℕ, zero, suc, ◌+◌, ◌-◌, ◌<◌, ◌≤◌, ℤ, pos, negsuc, List, [], ◌∷◌, ◌++◌, get_or, length, drop, replicate}
use Rattle.std.proofs.Common.{ap, sym, ◌∙◌, subst, arith, inl, inr}
use Rattle.std.proofs.lemmas.List.{append-nil, get_or-replicate, length-drop}
use Rattle.std.proofs.lemmas.Bool.{cases_lt}
use Rattle.pq_base.specs.SignedWord.{inv, copies, conj, HasLetters}
use Rattle.pq_base.specs.Table.{AllBelow}
use Rattle.pq_base.specs.Presentation.{Presentation, IsPresentation, letter, word_from, power_side, commutator_side, power_word}
use Rattle.pq_base.specs.Presentation.{commutator_word}
use Rattle.pq_base.specs.Joined.{Joined}
use Rattle.pq_base.proofs.words.WordLaws.{conj-append}
use Rattle.pq_base.proofs.words.JoinedLaws.{joined-refl, joined-from_equal, joined-sym, joined-trans, joined-append, joined-append_left}
use Rattle.pq_base.proofs.words.JoinedLaws.{joined-inv, joined-conj, joined-solve_left, joined-solve_right, inv-append-joined}
use Rattle.pq_base.proofs.words.JoinedLaws.{inv-append-append-joined, power-joined, letter-swap-joined}
use Rattle.pq_base.proofs.words.WordGroup.{word_group}
use Rattle.pq_base.proofs.groups.GroupIdentities.{conjugate_in-times}
use Rattle.fp_rows.proofs.BelowLaws.{AllBelow-drop}
use Rattle.pc_presentation.specs.Rowed.{RowedPresentation, without_rows}
use Rattle.pc_presentation.specs.Collection.{State, IsState, identity, spelled, letters, push_word, plain_push}
use Rattle.pc_presentation.proofs.consistent.LetterWords.{letters-append, letters-spelled}
use Rattle.pc_presentation.proofs.rows.RowLaws.{identity-state}
use Rattle.pc_presentation.proofs.collecting.PlainRule.{plain, plain-state, spelled-zeros}
use Rattle.pc_presentation.proofs.rows.FlatLaws.{without_rows-rowed}
use Rattle.pc_presentation.proofs.collecting.FinalExponents.{earlier_exponents_are_final}
use Rattle.pc_presentation.proofs.consistent.Reached.{plain_meaning, push_word-joined}
use Rattle.pc_presentation.specs.CutLaws.{ReachesLater}

-- letters of n generators, from place s on
abbrev pub AllFrom : ℕ → ℕ → List ℕ → Type 0
AllFrom s n [] = Unit {0}
AllFrom s n (i ∷ w) = (s ≤ i) × (i < n) × AllFrom s n w

AllFrom-append : (s n : ℕ) (u v : List ℕ) → AllFrom s n u → AllFrom s n v → AllFrom s n (u ++ v)
AllFrom-append s n [] v h i = i
AllFrom-append s n (k ∷ u) v h i = (h.0, h.1, AllFrom-append s n u v h.2 i)

AllFrom-replicate : (s n e i : ℕ) → s ≤ i → i < n → AllFrom s n (replicate e i)
AllFrom-replicate s n zero i h l = tt
AllFrom-replicate s n (suc e) i h l = (h, l, AllFrom-replicate s n e i h l)

AllFrom-spelled : (s n i : ℕ) (e : List ℕ) → s ≤ i → i + length e ≤ n → AllFrom s n (spelled i e)
AllFrom-spelled s n i [] h l = tt
AllFrom-spelled s n i (x ∷ e) h l =
    AllFrom-append s n (replicate x i) (spelled (suc i) e) (AllFrom-replicate s n x i h (omega arith))
    (AllFrom-spelled s n (suc i) e (omega arith) (omega arith))

AllFrom-weaken : (s t n : ℕ) (w : List ℕ) → s ≤ t → AllFrom t n w → AllFrom s n w
AllFrom-weaken s t n [] l h = tt
AllFrom-weaken s t n (i ∷ w) l h = let m = h.0 in (omega arith, h.1, AllFrom-weaken s t n w l h.2)

AllFrom-below : (s n : ℕ) (w : List ℕ) → AllFrom s n w → AllBelow n w
AllFrom-below s n [] h = tt
AllFrom-below s n (i ∷ w) h = (h.1, AllFrom-below s n w h.2)

-- a word that is joined to a product of generators from place s on
pub record IsLater (P : Presentation) (s : ℕ) (x : List ℤ) : Type 0 where
  pub word : List ℕ
  pub within : AllFrom s P.rank word
  pub joined : Joined P x (letters word)

module _ (P : Presentation) where
  pub later-kept : (s : ℕ) {x y : List ℤ} → Joined P x y → IsLater P s x → IsLater P s y
  later-kept s e h = record { word = h.word; within = h.within; joined = joined-trans (joined-sym e) h.joined }

  pub later-nil : (s : ℕ) → IsLater P s []
  later-nil s = record { word = []; within = tt; joined = joined-refl P [] }

  pub later-append : (s : ℕ) (x y : List ℤ) → IsLater P s x → IsLater P s y → IsLater P s (x ++ y)
  later-append s x y h i = record {
    word = h.word ++ i.word;
    within = AllFrom-append s P.rank h.word i.word h.within i.within;
    joined = joined-trans (joined-append h.joined i.joined) (joined-from_equal P (sym (letters-append h.word i.word)));
  }

  pub later-weaken : (s t : ℕ) (x : List ℤ) → s ≤ t → IsLater P t x → IsLater P s x
  later-weaken s t x l h = record { word = h.word; within = AllFrom-weaken s t P.rank h.word l h.within; joined = h.joined }

  pub later-letter : (s i : ℕ) → s ≤ i → i < P.rank → IsLater P s (letter i)
  later-letter s i h l = record { word = i ∷ []; within = (h, l, tt); joined = joined-refl P (letter i) }

  later-copies : (s : ℕ) (x : List ℤ) (n : ℕ) → IsLater P s x → IsLater P s (copies x n)
  later-copies s x zero h = later-nil s
  later-copies s x (suc n) h = later-append s x (copies x n) h (later-copies s x n h)

  pub later-word_from : (s k : ℕ) (e : List ℕ) → s ≤ k → k + length e ≤ P.rank → IsLater P s (word_from k e)
  later-word_from s k e h l = record {
    word = spelled k e;
    within = AllFrom-spelled s P.rank k e h l;
    joined = joined-from_equal P (sym (letters-spelled k e));
  }

module _ (P : Presentation) (is : IsPresentation P) (positive : 0 < P.prime) where
  -- inverses: of a word, where those of its letters are later words
  inverse_word : (s : ℕ) → ((k : ℕ) → s ≤ k → k < P.rank → IsLater P s (inv (letter k)))
      → (w : List ℕ) → AllFrom s P.rank w → IsLater P s (inv (letters w))
  inverse_word s each [] h = later-nil P s
  inverse_word s each (i ∷ w) h = later-append P s (inv (letters w)) (inv (letter i)) (inverse_word s each w h.2) (each i h.0 h.1)

  -- the inverse of a letter is one copy less than the prime, and the inverse of the right side of its power
  inverse_as_copies : (k : ℕ) → k < P.rank → Joined P (inv (letter k)) (copies (letter k) (P.prime - 1) ++ inv (power_word P k))
  inverse_as_copies k l =
      let all : P.prime ≡ suc (P.prime - 1) = omega arith in
      let power : Joined P (letter k ++ copies (letter k) (P.prime - 1)) (power_word P k) =
      subst (λ (n : ℕ). Joined P (copies (letter k) n) (power_word P k)) all (power-joined P k l) in
      joined-solve_left (inv (letter k)) (power_word P k)
      (joined-sym (joined-solve_right (letter k) (copies (letter k) (P.prime - 1)) power))

  inverse_letter : (d s : ℕ) → P.rank ≤ s + d → (k : ℕ) → s ≤ k → k < P.rank → IsLater P s (inv (letter k))
  inverse_letter zero s e k h l = absurd (omega arith)
  inverse_letter (suc d) s e k h l = elim (cases_lt s k) [
    | inl after ↦ later-weaken P s (suc s) (inv (letter k)) (omega arith) (inverse_letter d (suc s) (omega arith) k after l)
    | inr same ↦
        let c = (is.power_sides k l).count in
        let side : IsLater P (suc s) (inv (letters (spelled (suc k) (power_side P k)))) =
        inverse_word (suc s) (inverse_letter d (suc s) (omega arith)) (spelled (suc k) (power_side P k))
        (AllFrom-spelled (suc s) P.rank (suc k) (power_side P k) (omega arith) (omega arith)) in
        let inverse_side : IsLater P (suc s) (inv (power_word P k)) =
        subst (λ (w : List ℤ). IsLater P (suc s) (inv w)) (letters-spelled (suc k) (power_side P k)) side in
        later-kept P s (joined-sym (inverse_as_copies k l))
        (later-append P s (copies (letter k) (P.prime - 1)) (inv (power_word P k))
        (later-copies P s (letter k) (P.prime - 1) (later-letter P s k h l))
        (later-weaken P s (suc s) (inv (power_word P k)) (omega arith) inverse_side))
  ]

  pub later-inv_letter : (s k : ℕ) → s ≤ k → k < P.rank → IsLater P s (inv (letter k))
  later-inv_letter s k h l = inverse_letter P.rank s (omega arith) k h l

  pub later-inv : (s : ℕ) (x : List ℤ) → IsLater P s x → IsLater P s (inv x)
  later-inv s x h =
      later-kept P s (joined-sym (joined-inv h.joined)) (inverse_word s (later-inv_letter s) h.word h.within)

  -- every word is joined to a product of generators
  pub later-signed : (v : List ℤ) → HasLetters P.rank v → IsLater P 0 v
  later-signed [] h = later-nil P 0
  later-signed (pos zero ∷ v) h = absurd h.0
  later-signed (pos (suc i) ∷ v) h = later-append P 0 (letter i) v (later-letter P 0 i (omega arith) h.0) (later-signed v h.1)
  later-signed (negsuc i ∷ v) h = later-append P 0 (inv (letter i)) v (later-inv_letter 0 i (omega arith) h.0) (later-signed v h.1)

  -- conjugates
  conjugate_letter : (m k i : ℕ) → m ≤ k → k < P.rank → i < P.rank → IsLater P m (conj (letter k) (letter i))
  conjugate_letter m k i h l b = elim (cases_lt i k) [
    | inl before ↦
        let c = (is.commutator_sides k i l before).count in
        let side : List ℤ = commutator_word P k i in
        let swapped : Joined P (conj (letter k) (letter i)) (letter k ++ commutator_word P k i) =
        joined-trans (joined-append_left (inv (letter i)) (letter-swap-joined P k i l before))
        (inv-append-append-joined P (letter i) (letter k ++ side)) in
        later-kept P m (joined-sym swapped)
        (later-append P m (letter k) side (later-letter P m k h l)
        (later-word_from P m (suc k) (commutator_side P k i) (omega arith) (omega arith)))
    | inr after ↦
        later-append P m (inv (letter i)) (letter k ++ letter i) (later-inv_letter m i (omega arith) b)
        (later-append P m (letter k) (letter i) (later-letter P m k h l) (later-letter P m i (omega arith) b))
  ]

  conjugate_word : (m i : ℕ) → i < P.rank → (w : List ℕ) → AllFrom m P.rank w → IsLater P m (conj (letters w) (letter i))
  conjugate_word m i b [] h = later-kept P m (joined-sym (inv-append-joined P (letter i))) (later-nil P m)
  conjugate_word m i b (k ∷ w) h =
      later-kept P m (joined-sym (conjugate_in-times (word_group P) (letter k) (letters w) (letter i)))
      (later-append P m (conj (letter k) (letter i)) (conj (letters w) (letter i)) (conjugate_letter m k i h.0 h.1 b)
      (conjugate_word m i b w h.2))

  conjugate_by : (m : ℕ) (w : List ℕ) → AllFrom 0 P.rank w → (x : List ℤ) → IsLater P m x → IsLater P m (conj x (letters w))
  conjugate_by m [] h x l = subst (λ (y : List ℤ). IsLater P m y) (sym (append-nil x)) l
  conjugate_by m (i ∷ w) h x l =
      let first : IsLater P m (conj x (letter i)) =
      later-kept P m (joined-conj (joined-sym l.joined) (joined-refl P (letter i))) (conjugate_word m i h.1 l.word l.within) in
      subst (λ (y : List ℤ). IsLater P m y) (sym (conj-append x (letter i) (letters w))) (conjugate_by m w h.2 (conj x (letter i)) first)

  pub later-conj : (m : ℕ) (x v : List ℤ) → IsLater P m x → HasLetters P.rank v → IsLater P m (conj x v)
  later-conj m x v h b =
      let s = later-signed v b in
      later-kept P m (joined-conj (joined-refl P x) (joined-sym s.joined)) (conjugate_by m s.word s.within x h)

-- exponents that begin with zeros
word_from-zeros_before : (k m : ℕ) (e : List ℕ) → m ≤ length e → ((j : ℕ) → j < m → get_or e j 0 ≡ 0)
    → word_from k e ≡ word_from (k + m) (drop m e)
word_from-zeros_before k zero e l z = let place : k ≡ k + 0 = omega arith in ap (λ (n : ℕ). word_from n e) place
word_from-zeros_before k (suc m) [] l z = absurd (omega arith)
word_from-zeros_before k (suc m) (x ∷ e) l z =
    let place : suc k + m ≡ k + suc m = omega arith in
    let first : x ≡ 0 = z 0 (omega arith) in
    ap (λ (n : ℕ). copies (letter k) n ++ word_from (suc k) e) first
    ∙ word_from-zeros_before (suc k) m e (omega arith) (λ j b. z (suc j) (omega arith))
    ∙ ap (λ (n : ℕ). word_from n (drop m e)) place

-- a state whose first m exponents are 0
record IsLaterState (P : Presentation) (m : ℕ) (s : State) : Type 0 where
  pub state : IsState (without_rows P) P.rank s
  pub zeros : (j : ℕ) → j < m → get_or s.exponents j 0 ≡ 0

module _ (P : Presentation) (is : IsPresentation P) (big : 1 < P.prime) where
  abbrev Y : RowedPresentation
  Y = without_rows P

  pushed_later : (m : ℕ) (w : List ℕ) → AllFrom m P.rank w → (s : State) → IsLaterState P m s
      → IsLaterState P m (push_word (plain Y P.rank 0) s w)
  pushed_later m [] l s h = h
  pushed_later m (i ∷ w) l s h =
      let rowed = without_rows-rowed P is in
      let start = l.0 in
      let final = earlier_exponents_are_final Y rowed s (plain_push Y s i) i h.state l.1
      ((plain_meaning Y rowed (omega arith)).pushed s i h.state l.1) in
      pushed_later m w l.2 (plain Y P.rank 0 s i)
      (record {
        state = plain-state Y rowed (omega arith) P.rank 0 s i h.state;
        zeros = λ j b. final.earlier j (omega arith) ∙ h.zeros j b;
      })

  -- the word of a later state
  later_state-word : (m : ℕ) (x : List ℤ) (s : State) → m ≤ P.rank → IsLaterState P m s → Joined P x (letters (spelled 0 s.exponents))
      → ReachesLater P m x
  later_state-word m x s l h c =
      let count = h.state.exponents.count in
      let place : 0 + m ≡ m = omega arith in
      record {
        exponents = drop m s.exponents;
        normal = record {
          count = omega (arith, length-drop m s.exponents);
          below = AllBelow-drop P.prime m s.exponents h.state.exponents.below;
        };
        joined =
            joined-trans c
            (joined-from_equal P
            (letters-spelled 0 s.exponents ∙ word_from-zeros_before 0 m s.exponents (omega arith) h.zeros
            ∙ ap (λ (n : ℕ). word_from n (drop m s.exponents)) place));
      }

  pub later-reaches : (m : ℕ) (x : List ℤ) → m ≤ P.rank → IsLater P m x → ReachesLater P m x
  later-reaches m x l h =
      let rowed = without_rows-rowed P is in
      let one : State = identity Y P.rank in
      let state = identity-state Y P.rank (omega arith) in
      let start : IsLaterState P m one = record { state = state; zeros = λ j b. get_or-replicate P.rank j 0 0 (omega arith) } in
      let ends = pushed_later m h.word h.within one start in
      let pushed : Joined P (letters (spelled 0 one.exponents) ++ letters h.word)
      (letters (spelled 0 (push_word (plain Y P.rank 0) one h.word).exponents)) =
      push_word-joined Y rowed (omega arith) one h.word state (AllFrom-below m P.rank h.word h.within) in
      let whole : Joined P (letters h.word) (letters (spelled 0 (push_word (plain Y P.rank 0) one h.word).exponents)) =
      subst (λ (u : List ℕ). Joined P (letters u ++ letters h.word)
      (letters (spelled 0 (push_word (plain Y P.rank 0) one h.word).exponents)))
      (spelled-zeros 0 P.rank) pushed in
      later_state-word m x (push_word (plain Y P.rank 0) one h.word) l ends (joined-trans h.joined whole)
