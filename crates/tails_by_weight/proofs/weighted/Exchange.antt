-- Where the relations act on states, letters whose weights have a sum above the greatest are exchanged without a row, and words of
-- letters of the greatest weight are added up as their exponents are, modulo the prime.
use Rattle.std.proofs.Common.{◌≡◌, ℕ, suc, ◌+◌, ◌-◌, ◌%◌, ◌<◌, List, [], ◌∷◌, ◌++◌, length, get_or, replicate, refl, ap, sym, ◌∙◌, subst}
use Rattle.std.proofs.Common.{arith, inl, inr, mod-eq_of_lt}
use Rattle.std.proofs.lemmas.List.{replicate-append-replicate}
use Rattle.std.proofs.lemmas.Bool.{cases_lt}
use Rattle.std.proofs.Math.Nat.{add-mod_left}
use Rattle.fp_rows.specs.Rows.{scale_row}
use Rattle.fp_rows.proofs.RowLaws.{scale_row-zero, scale_row-prime}
use Rattle.pq_base.specs.Table.{AllBelow}
use Rattle.pq_base.specs.Elementary.{zeros}
use Rattle.pq_base.specs.Presentation.{IsNormal, power_side, commutator_side}
use Rattle.pc_presentation.specs.Rowed.{RowedPresentation, IsRowed, power_row, commutator_row, row_sum}
use Rattle.pc_presentation.specs.Collection.{State, IsState, spelled, add_row, push_word}
use Rattle.pc_presentation.proofs.rows.RowLaws.{row_sum-zeros, add_row-add_row}
use Rattle.pc_presentation.proofs.rows.RowsCentral.{row_sum-scale_row, scale_row-normal}
use Rattle.pc_presentation.proofs.collecting.PushLaws.{push_word-append, push_word-add_row, push_word-keeps}
use Rattle.pc_presentation.proofs.collecting.PlainRule.{plain, plain-rides, plain-state, spelled-zeros}
use Rattle.pc_presentation.proofs.collecting.RunLaws.ReplacementFrom.{swap_from, power_from}
use Rattle.pc_presentation.proofs.collecting.StateProducts.{RelationsAct}
use Rattle.tails_by_weight.specs.WeightedRows.{ObeysWeightsTo}
use Rattle.tails_by_weight.proofs.weighted.HeavyWords.{IsHeavy, AreHeavy, heavy-front, heavy-rest, heavy-copy, heavy-multiple, heavy-one}
use Rattle.tails_by_weight.proofs.weighted.HeavyWords.{bare_commutator, bare_power}

-- exponents of the generators from place i on, and a row, both m times
abbrev pub multiple : RowedPresentation → ℕ → ℕ → ℕ → ℕ → List ℕ → List ℕ → State → State
multiple Y n k i m x t s =
    add_row Y.base.prime (scale_row Y.base.prime m t) (push_word (plain Y n k) s (spelled i (scale_row Y.base.prime m x)))

-- a row of zeros added to a state
pub add_row-zeros : (Y : RowedPresentation) (n : ℕ) (s : State) → IsState Y n s → add_row Y.base.prime (replicate Y.width 0) s ≡ s
add_row-zeros Y n s h =
    ap (λ (x : List ℕ). record { exponents = s.exponents; row = x }) (row_sum-zeros Y.base.prime Y.width s.row h.row)

-- a multiple of zeros
multiple-zeros : (Y : RowedPresentation) (n k i m : ℕ) (x t : List ℕ) (s : State) → IsState Y n s → IsNormal Y.base.prime Y.width t
    → ((z : List ℕ) → scale_row Y.base.prime m z ≡ zeros (length z)) → multiple Y n k i m x t s ≡ s
multiple-zeros Y n k i m x t s h b none =
    let p : ℕ = Y.base.prime in
    ap (λ (z : List ℕ). add_row p (scale_row p m t) (push_word (plain Y n k) s (spelled i z))) (none x)
    ∙ ap (λ (u : List ℕ). add_row p (scale_row p m t) (push_word (plain Y n k) s u)) (spelled-zeros i (length x))
    ∙ ap (λ (z : List ℕ). add_row p z s) (none t ∙ ap (λ (q : ℕ). replicate q 0) b.count)
    ∙ add_row-zeros Y n s h

pub multiple-none : (Y : RowedPresentation) (n k i : ℕ) (x t : List ℕ) (s : State) → 0 < Y.base.prime → IsState Y n s
    → IsNormal Y.base.prime Y.width t → multiple Y n k i 0 x t s ≡ s
multiple-none Y n k i x t s l h b = multiple-zeros Y n k i 0 x t s h b (λ z. scale_row-zero Y.base.prime z l)

pub multiple-full : (Y : RowedPresentation) (n k i : ℕ) (x t : List ℕ) (s : State) → IsState Y n s → IsNormal Y.base.prime Y.width t
    → multiple Y n k i Y.base.prime x t s ≡ s
multiple-full Y n k i x t s h b = multiple-zeros Y n k i Y.base.prime x t s h b (scale_row-prime Y.base.prime)

module _ (Y : RowedPresentation) (rowed : IsRowed Y) (big : 1 < Y.base.prime) (weights : List ℕ) (e : ℕ)
    (obeys : ObeysWeightsTo Y weights e) (n k : ℕ) (size : k + n ≡ Y.base.rank) (acts : RelationsAct Y n k) where
  abbrev push : State → List ℕ → State
  push s u = push_word (plain Y n k) s u

  pub pushed-state : (s : State) (u : List ℕ) → IsState Y n s → IsState Y n (push s u)
  pushed-state s u h = push_word-keeps (plain Y n k) (IsState Y n) (plain-state Y rowed (omega arith) n k) s u h

  -- two letters
  exchange_rising : (s : State) (i j : ℕ) → IsState Y n s → i < j → j < n → e < get_or weights (k + j) 0 + get_or weights (k + i) 0
      → push s (j ∷ i ∷ []) ≡ push s (i ∷ j ∷ [])
  exchange_rising s i j h l m w =
      let a : ℕ = k + j in
      let b : ℕ = k + i in
      let side : List ℕ = spelled (suc j) (commutator_side Y.base a b) in
      let row : List ℕ = commutator_row Y a b in
      acts s h (j ∷ i ∷ []) (i ∷ j ∷ side) row (swap_from j i a b refl refl (omega arith) l)
      ∙ ap (λ (u : List ℕ). add_row Y.base.prime row (push s (i ∷ j ∷ u)))
      (bare_commutator Y rowed weights e obeys n k size (suc j) a b (omega arith) (omega arith) (omega arith) w)
      ∙ ap (λ (x : List ℕ). add_row Y.base.prime x (push s (i ∷ j ∷ []))) (obeys.commutator_rows a b (omega arith) (omega arith) w)
      ∙ add_row-zeros Y n (push s (i ∷ j ∷ [])) (pushed-state s (i ∷ j ∷ []) h)

  exchange_letters : (a b : ℕ) (s : State) (i j : ℕ) → e < a + b → IsState Y n s → IsHeavy weights n k a i → IsHeavy weights n k b j
      → push s (i ∷ j ∷ []) ≡ push s (j ∷ i ∷ [])
  exchange_letters a b s i j l h f g = elim (cases_lt i j) [
    | inl m ↦ sym (exchange_rising s i j h m g.below (let x = f.weight in let y = g.weight in omega arith))
    | inr m ↦ elim (cases_lt j i) [
      | inl m' ↦ exchange_rising s j i h m' f.below (let x = f.weight in let y = g.weight in omega arith)
      | inr m' ↦
          let same : i ≡ j = omega arith in
          subst (λ (z : ℕ). push s (i ∷ z ∷ []) ≡ push s (z ∷ i ∷ [])) same refl
    ]
  ]

  -- a letter and a word
  pub exchange_letter : (a b : ℕ) (s : State) (i : ℕ) (v : List ℕ) → e < a + b → IsState Y n s
      → IsHeavy weights n k a i → AreHeavy weights n k b v → push (plain Y n k s i) v ≡ plain Y n k (push s v) i
  exchange_letter a b s i [] l h f g = refl
  exchange_letter a b s i (j ∷ v) l h f g =
      ap (λ (z : State). push z v) (exchange_letters a b s i j l h f g.0)
      ∙ exchange_letter a b (plain Y n k s j) i v l (plain-state Y rowed (omega arith) n k s j h) f g.1

  -- two words
  pub exchange : (a b : ℕ) (s : State) (u v : List ℕ) → e < a + b → IsState Y n s
      → AreHeavy weights n k a u → AreHeavy weights n k b v → push (push s u) v ≡ push (push s v) u
  exchange a b s [] v l h f g = refl
  exchange a b s (i ∷ u) v l h f g =
      exchange a b (plain Y n k s i) u v l (plain-state Y rowed (omega arith) n k s i h) f.1 g
      ∙ ap (λ (z : State). push z u) (exchange_letter a b s i v l h f.0 g)

  -- copies of a letter of the greatest weight
  full_copies : (s : State) (i : ℕ) → IsState Y n s → IsHeavy weights n k e i → push s (replicate Y.base.prime i) ≡ s
  full_copies s i h f =
      let l = f.below in
      let w = f.weight in
      let side : List ℕ = spelled (suc i) (power_side Y.base (k + i)) in
      let row : List ℕ = power_row Y (k + i) in
      acts s h (replicate Y.base.prime i) side row (power_from i (k + i) refl (omega arith))
      ∙ ap (λ (u : List ℕ). add_row Y.base.prime row (push s u))
      (bare_power Y rowed weights e obeys n k size (suc i) (k + i) (omega arith) (omega arith) w)
      ∙ ap (λ (x : List ℕ). add_row Y.base.prime x s) (obeys.power_rows (k + i) (omega arith) w)
      ∙ add_row-zeros Y n s h

  copies-modulo : (m : ℕ) (s : State) (i : ℕ) → m < Y.base.prime + Y.base.prime → IsState Y n s → (0 < m → IsHeavy weights n k e i)
      → push s (replicate m i) ≡ push s (replicate (m % Y.base.prime) i)
  copies-modulo m s i l h f = elim (cases_lt m Y.base.prime) [
    | inl b ↦ ap (λ (z : ℕ). push s (replicate z i)) (sym (mod-eq_of_lt b))
    | inr b ↦
        let p : ℕ = Y.base.prime in
        let d : ℕ = m - p in
        let split : p + d ≡ m = omega arith in
        let left : m % p ≡ d = ap (λ (z : ℕ). z % p) (sym split) ∙ add-mod_left p d ∙ mod-eq_of_lt (omega arith) in
        ap (λ (z : ℕ). push s (replicate z i)) (sym split)
        ∙ ap (push s) (sym (replicate-append-replicate {A = ℕ} p d i))
        ∙ push_word-append (plain Y n k) s (replicate p i) (replicate d i)
        ∙ ap (λ (z : State). push z (replicate d i)) (full_copies s i h (f (omega arith)))
        ∙ ap (λ (z : ℕ). push s (replicate z i)) (sym left)
  ]

  copies-merge : (c d : ℕ) (s : State) (i : ℕ) → c < Y.base.prime → d < Y.base.prime → IsState Y n s
      → AreHeavy weights n k e (replicate c i) → AreHeavy weights n k e (replicate d i)
      → push (push s (replicate c i)) (replicate d i) ≡ push s (replicate ((c + d) % Y.base.prime) i)
  copies-merge c d s i l m h f g =
      let is_heavy : 0 < c + d → IsHeavy weights n k e i = λ z. elim (cases_lt 0 c) [
        | inl a ↦ heavy-copy weights n k e c i a f
        | inr a ↦ heavy-copy weights n k e d i (omega arith) g
      ] in
      sym (push_word-append (plain Y n k) s (replicate c i) (replicate d i))
      ∙ ap (push s) (replicate-append-replicate {A = ℕ} c d i)
      ∙ copies-modulo (c + d) s i (omega arith) h is_heavy

  -- two words of exponents: the copies of a letter go before the later letters of the first word
  merge : (i : ℕ) (x y : List ℕ) (s : State) → IsState Y n s → AllBelow Y.base.prime x → AllBelow Y.base.prime y
      → AreHeavy weights n k e (spelled i x) → AreHeavy weights n k e (spelled i y)
      → push (push s (spelled i x)) (spelled i y) ≡ push s (spelled i (row_sum Y.base.prime x y))
  merge i [] y s h a b f g = refl
  merge i (c ∷ x) [] s h a b f g = refl
  merge i (c ∷ x) (d ∷ y) s h a b f g =
      let cs : List ℕ = replicate c i in
      let ds : List ℕ = replicate d i in
      let all : List ℕ = replicate ((c + d) % Y.base.prime) i in
      let u : List ℕ = spelled (suc i) x in
      let v : List ℕ = spelled (suc i) y in
      let fs = heavy-front weights n k e cs u f in
      let fr = heavy-rest weights n k e cs u f in
      let gs = heavy-front weights n k e ds v g in
      let gr = heavy-rest weights n k e ds v g in
      ap (λ (z : State). push z (ds ++ v)) (push_word-append (plain Y n k) s cs u)
      ∙ push_word-append (plain Y n k) (push (push s cs) u) ds v
      ∙ ap (λ (z : State). push z v)
      (exchange e 1 (push s cs) u ds (omega arith) (pushed-state s cs h) fr (heavy-one Y rowed weights e obeys n k size e ds gs)
      ∙ ap (λ (z : State). push z u) (copies-merge c d s i a.0 b.0 h fs gs))
      ∙ merge (suc i) x y (push s all) (pushed-state s all h) a.1 b.1 fr gr
      ∙ sym (push_word-append (plain Y n k) s all (spelled (suc i) (row_sum Y.base.prime x y)))

  pub multiple-once_more : (i m q : ℕ) (x t : List ℕ) (s : State) → IsState Y n s → IsNormal Y.base.prime q x
      → IsNormal Y.base.prime Y.width t → AreHeavy weights n k e (spelled i x)
      → multiple Y n k i m x t (add_row Y.base.prime t (push s (spelled i x))) ≡ multiple Y n k i (suc m) x t s
  multiple-once_more i m q x t s h a b f =
      let p : ℕ = Y.base.prime in
      let more : List ℕ = scale_row p m x in
      ap (add_row p (scale_row p m t))
      (push_word-add_row p (plain Y n k) (plain-rides Y n k) t (push s (spelled i x)) (spelled i more)
      ∙ ap (add_row p t)
      (merge i x more s h a.below (scale_row-normal p q m x (omega arith) a).below f (heavy-multiple weights n k e p m i x (omega arith) f)
      ∙ ap (λ (z : List ℕ). push s (spelled i z)) (row_sum-scale_row p q m x a)))
      ∙ add_row-add_row p (scale_row p m t) t (push s (spelled i (scale_row p (suc m) x)))
      ∙ ap (λ (z : List ℕ). add_row p z (push s (spelled i (scale_row p (suc m) x)))) (row_sum-scale_row p Y.width m t b)
