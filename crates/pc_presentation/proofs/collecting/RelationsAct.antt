-- The step to one generator more: where the relations of the later generators act on their states, also on passed ones,
-- where the full power turns each generator round and is passed unchanged, the relations of all these generators act.
use Rattle.std.proofs.Common.{◌≡◌, ℕ, zero, suc, ◌+◌, ◌-◌, ◌<◌, List, [], ◌∷◌, ◌++◌, map, replicate, refl, ap, sym, ◌∙◌, subst, arith, inl}
use Rattle.std.proofs.Common.{inr}
use Rattle.std.proofs.lemmas.List.{replicate-append-replicate}
use Rattle.std.proofs.lemmas.Bool.{cases_lt}
use Rattle.pq_base.specs.Presentation.{power_side, commutator_side}
use Rattle.pc_presentation.specs.Rowed.{RowedPresentation, IsRowed, power_row, commutator_row}
use Rattle.pc_presentation.specs.Collection.{State, IsState, identity, spelled, add_row, before, push_word}
use Rattle.pc_presentation.proofs.rows.RowLaws.{is_before}
use Rattle.pc_presentation.proofs.collecting.PushLaws.{Acts, push_word-append}
use Rattle.pc_presentation.proofs.collecting.PlainRule.{plain, plain-later, plain-later_word, plain-state, spelled-suc, map-replicate}
use Rattle.pc_presentation.proofs.collecting.RunLaws.{ReplacementFrom}
use Rattle.pc_presentation.proofs.collecting.RunLaws.ReplacementFrom.{swap_from, power_from}
use Rattle.pc_presentation.proofs.collecting.StateProducts.{star, star-state, RelationsAct, star-push_past}
use Rattle.pc_presentation.proofs.collecting.PassedStates.{power-end, past, passed, passed_times, full_power, passed-state}
use Rattle.pc_presentation.proofs.collecting.PassedStates.{full_power-state, passed_times-state, passed_times-add, first-raise, first-times}
use Rattle.pc_presentation.proofs.collecting.PassedStates.{first-carry, passed-push, passed_times-star, full_power-turns}

module _ (Y : RowedPresentation) (rowed : IsRowed Y) (positive : 0 < Y.base.prime) (n k : ℕ) (size : suc k + n ≡ Y.base.rank)
    (acts : RelationsAct Y n (suc k))
    (passed_acts : Acts Y.base.prime (past Y n k) (IsState Y n) (ReplacementFrom Y (suc k)))
    (turns : (j : ℕ) → j < n
    → star Y n (suc k) (full_power Y n k) (passed_times Y n k Y.base.prime (plain Y n (suc k) (identity Y n) j))
    ≡ star Y n (suc k) (plain Y n (suc k) (identity Y n) j) (full_power Y n k))
    (fixed : passed Y n k (full_power Y n k) ≡ full_power Y n k) where
  -- relations between later generators
  later_acts : (e : ℕ) (s : State) → IsState Y n s → (l r t : List ℕ) → ReplacementFrom Y (suc k) l r t
      → push_word (plain Y (suc n) k) (before e s) (map suc l)
      ≡ add_row Y.base.prime t (push_word (plain Y (suc n) k) (before e s) (map suc r))
  later_acts e s h l r t m =
      plain-later_word Y n k e s l ∙ ap (before e) (acts s h l r t m) ∙ ap (add_row Y.base.prime t) (sym (plain-later_word Y n k e s r))

  -- a later generator and the first one
  first_swap : (e : ℕ) (s : State) (j : ℕ) → e < Y.base.prime → IsState Y n s → j < n
      → push_word (plain Y (suc n) k) (before e s) (suc j ∷ 0 ∷ [])
      ≡ add_row Y.base.prime (commutator_row Y (suc (k + j)) k)
      (push_word (plain Y (suc n) k) (before e s) (0 ∷ suc j ∷ spelled (suc (suc j)) (commutator_side Y.base (suc (k + j)) k)))
  first_swap e s j l h m = elim (cases_lt (suc e) Y.base.prime) [
    | inl a ↦
        start ∙ first-raise Y rowed positive n k e (plain Y n (suc k) s j) a js
        ∙ ap (before (suc e)) (passed-push Y rowed positive n k size acts passed_acts s j h m)
        ∙ sym (end (suc e) (passed Y n k s) (first-raise Y rowed positive n k e s a h))
    | inr a ↦
        let w : State = full_power Y n k in
        start ∙ first-carry Y rowed positive n k size acts e (plain Y n (suc k) s j) (omega arith) js
        ∙ ap (λ (z : State). before 0 (star Y n (suc k) (full_power Y n k) z))
        (passed-push Y rowed positive n k size acts passed_acts s j h m)
        ∙ ap (before 0) (star-push_past Y rowed positive n (suc k) size acts k w (passed Y n k s) j (full_power-state Y rowed positive n k)
        (passed-state Y rowed positive n k s h))
        ∙ sym (end 0 (star Y n (suc k) w (passed Y n k s)) (first-carry Y rowed positive n k size acts e s (omega arith) h))
  ]
    where
      side : List ℕ
      side = commutator_side Y.base (suc (k + j)) k

      js : IsState Y n (plain Y n (suc k) s j)
      js = plain-state Y rowed positive n (suc k) s j h

      start : push_word (plain Y (suc n) k) (before e s) (suc j ∷ 0 ∷ []) ≡ plain Y (suc n) k (before e (plain Y n (suc k) s j)) 0
      start = ap (λ (z : State). plain Y (suc n) k z 0) (plain-later Y n k e s j)

      end : (c : ℕ) (z : State) → plain Y (suc n) k (before e s) 0 ≡ before c z
          → add_row Y.base.prime (commutator_row Y (suc (k + j)) k)
          (push_word (plain Y (suc n) k) (before e s) (0 ∷ suc j ∷ spelled (suc (suc j)) (commutator_side Y.base (suc (k + j)) k)))
          ≡ before c (past Y n k z j)
      end c z q =
          ap (λ (y : State). add_row Y.base.prime (commutator_row Y (suc (k + j)) k)
          (push_word (plain Y (suc n) k) y (suc j ∷ spelled (suc (suc j)) (commutator_side Y.base (suc (k + j)) k)))) q
          ∙ ap (λ (u : List ℕ). add_row Y.base.prime (commutator_row Y (suc (k + j)) k)
          (push_word (plain Y (suc n) k) (before c z) (suc j ∷ u)))
          (spelled-suc (suc j) (commutator_side Y.base (suc (k + j)) k))
          ∙ ap (add_row Y.base.prime (commutator_row Y (suc (k + j)) k))
          (plain-later_word Y n k c z (j ∷ spelled (suc j) (commutator_side Y.base (suc (k + j)) k)))

  -- the power of the first one
  fixed_times : (m : ℕ) → passed_times Y n k m (full_power Y n k) ≡ full_power Y n k
  fixed_times zero = refl
  fixed_times (suc m) = ap (passed_times Y n k m) fixed ∙ fixed_times m

  power_start : (e d : ℕ) (s : State) → d + suc e ≡ Y.base.prime → IsState Y n s
      → push_word (plain Y (suc n) k) (before e s) (replicate Y.base.prime 0) ≡ before e (star Y n (suc k) s (full_power Y n k))
  power_start e d s q h =
      let w : State = full_power Y n k in
      let ws = full_power-state Y rowed positive n k in
      let ds = passed_times-state Y rowed positive n k d s h in
      let y : State = passed Y n k (passed_times Y n k d s) in
      let ys = passed-state Y rowed positive n k (passed_times Y n k d s) ds in
      let letters : ◌≡◌ {A = List ℕ} (replicate Y.base.prime 0) (replicate d 0 ++ 0 ∷ replicate e 0) =
      sym (replicate-append-replicate {A = ℕ} d (suc e) 0 ∙ ap (λ (m : ℕ). replicate m 0) q) in
      ap (push_word (plain Y (suc n) k) (before e s)) letters
      ∙ push_word-append (plain Y (suc n) k) (before e s) (replicate d 0) (0 ∷ replicate e 0)
      ∙ ap (λ (z : State). push_word (plain Y (suc n) k) z (0 ∷ replicate e 0))
      (first-times Y rowed positive n k e d (e + d) s refl (omega arith) h)
      ∙ ap (λ (z : State). push_word (plain Y (suc n) k) z (replicate e 0))
      (first-carry Y rowed positive n k size acts (e + d) (passed_times Y n k d s) (omega arith) ds)
      ∙ first-times Y rowed positive n k 0 e e (star Y n (suc k) w y) (omega arith) (omega arith)
      (star-state Y rowed positive n (suc k) w y ws ys)
      ∙ ap (before e)
      (passed_times-star Y rowed positive n k size acts passed_acts e w y ws ys
      ∙ ap (λ (z : State). star Y n (suc k) z (passed_times Y n k e y)) (fixed_times e)
      ∙ ap (star Y n (suc k) w) (sym (passed_times-add Y rowed positive n k d (suc e) s) ∙ ap (λ (m : ℕ). passed_times Y n k m s) q)
      ∙ full_power-turns Y rowed positive n k size acts passed_acts turns s h)

  first_power : (e : ℕ) (s : State) → e < Y.base.prime → IsState Y n s
      → push_word (plain Y (suc n) k) (before e s) (replicate Y.base.prime 0)
      ≡ add_row Y.base.prime (power_row Y k) (push_word (plain Y (suc n) k) (before e s) (spelled 1 (power_side Y.base k)))
  first_power e s l h = power_start e (Y.base.prime - suc e) s (omega arith) h ∙ sym (power-end Y rowed positive n k size acts e s h)

  -- all relations
  relations_before : (e : ℕ) (s : State) → e < Y.base.prime → IsState Y n s → (l r t : List ℕ) → ReplacementFrom Y k l r t
      → push_word (plain Y (suc n) k) (before e s) l ≡ add_row Y.base.prime t (push_word (plain Y (suc n) k) (before e s) r)
  relations_before e s l h _ _ _ (swap_from zero i a b f g m q) = absurd (omega arith)
  relations_before e s l h _ _ _ (swap_from (suc j) zero a b f g m q) =
      let x : suc (k + j) ≡ a = omega arith in
      let y : k ≡ b = omega arith in
      subst (λ (z : ℕ). push_word (plain Y (suc n) k) (before e s) (suc j ∷ 0 ∷ [])
      ≡ add_row Y.base.prime (commutator_row Y a z)
      (push_word (plain Y (suc n) k) (before e s) (0 ∷ suc j ∷ spelled (suc (suc j)) (commutator_side Y.base a z)))) y
      (subst (λ (z : ℕ). push_word (plain Y (suc n) k) (before e s) (suc j ∷ 0 ∷ [])
      ≡ add_row Y.base.prime (commutator_row Y z k)
      (push_word (plain Y (suc n) k) (before e s) (0 ∷ suc j ∷ spelled (suc (suc j)) (commutator_side Y.base z k)))) x
      (first_swap e s j l h (omega arith)))
  relations_before e s l h _ _ _ (swap_from (suc j) (suc i) a b f g m q) =
      later_acts e s h (j ∷ i ∷ []) (i ∷ j ∷ spelled (suc j) (commutator_side Y.base a b)) (commutator_row Y a b)
      (swap_from j i a b (omega arith) (omega arith) m (omega arith))
      ∙ ap (λ (u : List ℕ). add_row Y.base.prime (commutator_row Y a b) (push_word (plain Y (suc n) k) (before e s) (suc i ∷ suc j ∷ u)))
      (sym (spelled-suc (suc j) (commutator_side Y.base a b)))
  relations_before e s l h _ _ _ (power_from zero a f m) =
      let x : k ≡ a = omega arith in
      subst (λ (z : ℕ). push_word (plain Y (suc n) k) (before e s) (replicate Y.base.prime 0)
      ≡ add_row Y.base.prime (power_row Y z) (push_word (plain Y (suc n) k) (before e s) (spelled 1 (power_side Y.base z)))) x
      (first_power e s l h)
  relations_before e s l h _ _ _ (power_from (suc i) a f m) =
      ap (push_word (plain Y (suc n) k) (before e s)) (sym (map-replicate Y.base.prime i))
      ∙ later_acts e s h (replicate Y.base.prime i) (spelled (suc i) (power_side Y.base a)) (power_row Y a) (power_from i a (omega arith) m)
      ∙ ap (λ (u : List ℕ). add_row Y.base.prime (power_row Y a) (push_word (plain Y (suc n) k) (before e s) u))
      (sym (spelled-suc (suc i) (power_side Y.base a)))

  pub relations-act : RelationsAct Y (suc n) k
  relations-act s v l r t m =
      let b = is_before Y n s v in
      subst (λ (z : State). push_word (plain Y (suc n) k) z l ≡ add_row Y.base.prime t (push_word (plain Y (suc n) k) z r)) (sym b.same)
      (relations_before b.exponent b.rest b.below b.state l r t m)
