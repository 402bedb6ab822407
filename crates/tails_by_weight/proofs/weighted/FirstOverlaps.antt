-- Each overlap whose least generator is the one at place k agrees by the plain rule where the relations of the later generators act:
-- within the bounds on weights since it agrees by some chains of pushes, and beyond them by its weights.
use Rattle.std.proofs.Common.{◌≡◌, ℕ, suc, pred, ◌+◌, ◌<◌, List, [], ◌∷◌, ◌++◌, get_or, replicate, refl, ap, sym, ◌∙◌, subst, arith, inl}
use Rattle.std.proofs.Common.{inr}
use Rattle.std.proofs.lemmas.List.{map-append, replicate-append-replicate}
use Rattle.std.proofs.lemmas.Bool.{cases_lt}
use Rattle.pq_base.specs.Presentation.{power_side, commutator_side}
use Rattle.pc_presentation.specs.Rowed.{RowedPresentation, IsRowed, power_row, commutator_row}
use Rattle.pc_presentation.specs.Collection.{identity, spelled, add_row, push_word}
use Rattle.pc_presentation.specs.Overlaps.{Overlap, IsOverlap, Agrees}
use Rattle.pc_presentation.specs.Overlaps.Overlap.{triple, left, right, own}
use Rattle.pc_presentation.proofs.collecting.PlainRule.{plain, map-replicate}
use Rattle.pc_presentation.proofs.collecting.StateProducts.{RelationsAct}
use Rattle.pc_presentation.proofs.collecting.PassedStates.{past, passed}
use Rattle.pc_presentation.proofs.collecting.OverlapsAct.{spells_copies}
use Rattle.pc_presentation.proofs.consistent.Consistency.{replicate-snoc}
use Rattle.tails_by_weight.specs.WeightedRows.{ObeysWeightsTo, IsInsideTo}
use Rattle.tails_by_weight.proofs.weighted.PassedWords.{swap_last}
use Rattle.tails_by_weight.proofs.weighted.HeavyOverlaps.{triple-passed, left-passed}
use Rattle.tails_by_weight.proofs.weighted.HeavyPowers.{right_agrees, own_agrees}
use Rattle.tails_by_weight.proofs.weighted.AgreeingWays.{letters_behind, replicate-behind, spelled-behind, agree-behind}

-- behind the word a, the commutator of letter j and the first one, whose places are x and y
abbrev SwapAgrees : RowedPresentation → ℕ → ℕ → List ℕ → ℕ → ℕ → ℕ → Type 0
SwapAgrees Y n k a j x y =
    push_word (plain Y (suc n) k) (identity Y (suc n)) (a ++ j ∷ 0 ∷ [])
    ≡ add_row Y.base.prime (commutator_row Y x y)
    (push_word (plain Y (suc n) k) (identity Y (suc n)) (a ++ 0 ∷ j ∷ spelled (suc j) (commutator_side Y.base x y)))

-- behind the letter j, the power of the first one, whose place is x
abbrev pub PowerAgrees : RowedPresentation → ℕ → ℕ → ℕ → ℕ → Type 0
PowerAgrees Y n k j x =
    push_word (plain Y (suc n) k) (identity Y (suc n)) (j ∷ replicate Y.base.prime 0)
    ≡ add_row Y.base.prime (power_row Y x) (push_word (plain Y (suc n) k) (identity Y (suc n)) (j ∷ spelled 1 (power_side Y.base x)))

pub swap-place : (Y : RowedPresentation) (n k : ℕ) (a : List ℕ) (j x y x' y' : ℕ) → x ≡ x' → y ≡ y' → SwapAgrees Y n k a j x y
    → SwapAgrees Y n k a j x' y'
swap-place Y n k a j x y x' y' f g h =
    subst (λ (z : ℕ). SwapAgrees Y n k a j x' z) g (subst (λ (z : ℕ). SwapAgrees Y n k a j z y) f h)

-- the words of an overlap, counted from places before
swap_words : (k j : ℕ) (a h : List ℕ)
    → letters_behind k (a ++ 0 ∷ j ∷ spelled (suc j) h) ≡ letters_behind k a ++ (k + 0) ∷ (k + j) ∷ spelled (suc (k + j)) h
swap_words k j a h =
    map-append (λ (i : ℕ). k + i) a (0 ∷ j ∷ spelled (suc j) h)
    ∙ ap (λ (u : List ℕ). letters_behind k a ++ (k + 0) ∷ (k + j) ∷ u)
    (spelled-behind k (suc j) h ∙ ap (λ (i : ℕ). spelled i h) (let q : k + suc j ≡ suc (k + j) = omega arith in q))

power_words : (k : ℕ) (h : List ℕ) → letters_behind k (spelled 1 h) ≡ spelled (suc (k + 0)) h
power_words k h = spelled-behind k 1 h ∙ ap (λ (i : ℕ). spelled i h) (let q : k + 1 ≡ suc (k + 0) = omega arith in q)

module _ (Y : RowedPresentation) (rowed : IsRowed Y) (big : 1 < Y.base.prime) (weights : List ℕ) (e : ℕ)
    (obeys : ObeysWeightsTo Y weights e) (agree : (o : Overlap) → IsOverlap Y.base.rank o → IsInsideTo weights e o → Agrees Y o)
    (n k : ℕ) (size : suc k + n ≡ Y.base.rank) (acts : RelationsAct Y n (suc k)) where
  -- places and weights
  first_weight : get_or weights (k + 0) 0 ≡ get_or weights k 0
  first_weight = ap (λ (i : ℕ). get_or weights i 0) (let q : k + 0 ≡ k = omega arith in q)

  later_weight : (j : ℕ) → get_or weights (k + suc j) 0 ≡ get_or weights (suc k + j) 0
  later_weight j = ap (λ (i : ℕ). get_or weights i 0) (let q : k + suc j ≡ suc k + j = omega arith in q)

  from_places : (a : List ℕ) (j : ℕ) → SwapAgrees Y n k a (suc j) (k + suc j) (k + 0) → SwapAgrees Y n k a (suc j) (suc (k + j)) k
  from_places a j h = swap-place Y n k a (suc j) (k + suc j) (k + 0) (suc (k + j)) k (omega arith) (omega arith) h

  pub first_triple : (c j : ℕ) → j < c → c < n → SwapAgrees Y n k (suc c ∷ []) (suc j) (suc (k + j)) k
  first_triple c j l m = elim (cases_lt e (get_or weights (suc k + c) 0 + get_or weights (suc k + j) 0 + get_or weights k 0)) [
    | inl w ↦
        swap_last Y rowed big n k size (c ∷ []) j (spells_copies Y.base.prime n 1 c big m)
        (triple-passed Y rowed big weights e obeys n k size acts c j l m w)
    | inr w ↦
        let wi = first_weight in
        let wj = later_weight j in
        let wc = later_weight c in
        let o : Overlap = triple (k + suc c) (k + suc j) (k + 0) in
        from_places (suc c ∷ []) j
        (agree-behind Y rowed big n k size acts o (suc c ∷ suc j ∷ 0 ∷ [])
        (suc c ∷ 0 ∷ suc j ∷ spelled (suc (suc j)) (commutator_side Y.base (k + suc j) (k + 0))) refl refl
        (sym (swap_words k (suc j) (suc c ∷ []) (commutator_side Y.base (k + suc j) (k + 0))))
        (agree o (omega arith, omega arith, omega arith) (omega arith)))
  ]

  pub first_left : (j : ℕ) → j < n → SwapAgrees Y n k (replicate (pred Y.base.prime) (suc j)) (suc j) (suc (k + j)) k
  first_left j l = elim (cases_lt (get_or weights (suc k + j) 0 + get_or weights k 0) e) [
    | inl w ↦
        let wi = first_weight in
        let wj = later_weight j in
        let o : Overlap = left (k + suc j) (k + 0) in
        let a : List ℕ = replicate (pred Y.base.prime) (suc j) in
        let copies : letters_behind k a ≡ replicate (pred Y.base.prime) (k + suc j) = replicate-behind k (pred Y.base.prime) (suc j) in
        let h : List ℕ = commutator_side Y.base (k + suc j) (k + 0) in
        from_places a j
        (agree-behind Y rowed big n k size acts o (a ++ suc j ∷ 0 ∷ []) (a ++ 0 ∷ suc j ∷ spelled (suc (suc j)) h)
        (replicate-snoc Y.base.prime (k + suc j) (k + 0) (omega arith)
        ∙ ap (λ (u : List ℕ). u ++ (k + suc j) ∷ (k + 0) ∷ []) (sym copies)
        ∙ sym (map-append (λ (i : ℕ). k + i) a (suc j ∷ 0 ∷ [])))
        refl
        (ap (λ (u : List ℕ). u ++ (k + 0) ∷ (k + suc j) ∷ spelled (suc (k + suc j)) h) (sym copies) ∙ sym (swap_words k (suc j) a h))
        (agree o (omega arith, omega arith) (omega arith)))
    | inr w ↦
        let d : ℕ = pred Y.base.prime in
        let q : d + 1 ≡ Y.base.prime = omega arith in
        let word : ◌≡◌ {A = List ℕ} (replicate d j ++ j ∷ []) (replicate Y.base.prime j) =
        replicate-append-replicate {A = ℕ} d 1 j ∙ ap (λ (m : ℕ). replicate m j) q in
        subst (λ (u : List ℕ). SwapAgrees Y n k u (suc j) (suc (k + j)) k) (map-replicate d j)
        (swap_last Y rowed big n k size (replicate d j) j (spells_copies Y.base.prime n d j (omega arith) l)
        (ap (λ (u : List ℕ). passed Y n k (push_word (plain Y n (suc k)) (identity Y n) u)) word
        ∙ left-passed Y rowed big weights e obeys n k size acts j l w
        ∙ ap (push_word (past Y n k) (identity Y n)) (sym word)))
  ]

  pub first_right : (j : ℕ) → j < n → PowerAgrees Y n k (suc j) k
  first_right j l = elim (cases_lt (get_or weights (suc k + j) 0 + get_or weights k 0) e) [
    | inl w ↦
        let wi = first_weight in
        let wj = later_weight j in
        let o : Overlap = right (k + suc j) (k + 0) in
        let here : k + 0 ≡ k = omega arith in
        subst (λ (x : ℕ). PowerAgrees Y n k (suc j) x) here
        (agree-behind Y rowed big n k size acts o (suc j ∷ replicate Y.base.prime 0) (suc j ∷ spelled 1 (power_side Y.base (k + 0)))
        (ap (λ (u : List ℕ). (k + suc j) ∷ u) (sym (replicate-behind k Y.base.prime 0))) refl
        (ap (λ (u : List ℕ). (k + suc j) ∷ u) (sym (power_words k (power_side Y.base (k + 0)))))
        (agree o (omega arith, omega arith) (omega arith)))
    | inr w ↦ right_agrees Y rowed big weights e obeys n k size acts j l w
  ]

  pub first_own : PowerAgrees Y n k 0 k
  first_own = elim (cases_lt (get_or weights k 0 + get_or weights k 0) e) [
    | inl w ↦
        let wi = first_weight in
        let o : Overlap = own (k + 0) in
        let here : k + 0 ≡ k = omega arith in
        subst (λ (x : ℕ). PowerAgrees Y n k 0 x) here
        (agree-behind Y rowed big n k size acts o (0 ∷ replicate Y.base.prime 0) (0 ∷ spelled 1 (power_side Y.base (k + 0)))
        (ap (λ (u : List ℕ). (k + 0) ∷ u) (sym (replicate-behind k Y.base.prime 0))) refl
        (ap (λ (u : List ℕ). (k + 0) ∷ u) (sym (power_words k (power_side Y.base (k + 0)))))
        (agree o (omega arith) (omega arith)))
    | inr w ↦ own_agrees Y rowed big weights e obeys n k size acts w
  ]
