-- A generator that commutes with each later one that a state has: its copies are added to its exponent, and where that
-- passes the prime, the later letters are pushed on the right side of the power, and the rest of the copies behind them.
use Rattle.std.proofs.Common.{◌≡◌, ◌≢◌, ℕ, zero, suc, ◌+◌, ◌-◌, ◌<◌, List, ◌∷◌, ◌++◌, get_or, length, replicate, refl, ap, sym, ◌∙◌, subst}
use Rattle.std.proofs.Common.{arith, inl, inr}
use Rattle.std.proofs.Math.ListN.{get_or-eq_default}
use Rattle.std.proofs.lemmas.List.{replicate-append-replicate}
use Rattle.std.proofs.lemmas.Bool.{cases_lt}
use Rattle.pq_base.specs.Presentation.{power_side}
use Rattle.pc_presentation.specs.Rowed.{RowedPresentation, IsRowed, power_row}
use Rattle.pc_presentation.specs.Collection.{State, IsState, spelled, add_row, before, push_word, push_power}
use Rattle.pc_presentation.specs.Commuting.{IsBare}
use Rattle.pc_presentation.proofs.rows.RowLaws.{zeros-normal, add_row-state, power_row-addable}
use Rattle.pc_presentation.proofs.collecting.PushLaws.{push_word-append, push_word-add_row}
use Rattle.pc_presentation.proofs.collecting.PlainRule.{plain, plain-raise, plain-carry, plain-rides, plain-state, plain-spelled}
use Rattle.pc_presentation.proofs.collecting.PlainRule.{spelled-zeros, push_power-state}
use Rattle.pc_presentation.proofs.collecting.PassedStates.{past}
use Rattle.pc_presentation.proofs.commuting.SpelledPushes.{spelled-same}
use Rattle.pc_presentation.proofs.commuting.FollowedPushes.{bare-nothing}

-- a place with an exponent
pub place-within : (h : List ℕ) (j : ℕ) → get_or h j 0 ≢ 0 → j < length h
place-within h j n = elim (cases_lt j (length h)) [
  | inl l ↦ l
  | inr l ↦ absurd (n (get_or-eq_default h 0 l))
]

-- the generator at place k commutes with each of the later ones with the exponents h
abbrev pub PassesExponents : RowedPresentation → ℕ → List ℕ → Type 0
PassesExponents Y k h = (j : ℕ) → get_or h j 0 ≢ 0 → IsBare Y (suc (k + j)) k

-- no exponents, with the row x
abbrev pub zeros_with : ℕ → List ℕ → State
zeros_with n x = record { exponents = replicate n 0; row = x }

-- the letters of s pushed on the right side of the power of the generator at place k, which is before them
abbrev pub behind_power : RowedPresentation → ℕ → ℕ → State → State
behind_power Y n k s = push_word (plain Y n (suc k)) (push_power Y (plain Y n (suc k)) k (zeros_with n s.row)) (spelled 0 s.exponents)

module _ (Y : RowedPresentation) (rowed : IsRowed Y) (positive : 0 < Y.base.prime) (n k : ℕ) where
  pub zeros_with-state : (s : State) → IsState Y n s → IsState Y n (zeros_with n s.row)
  zeros_with-state s h = record { exponents = zeros-normal Y.base.prime n positive; row = h.row }

  -- a letter that is passed so
  pub past-bare : (s : State) (j : ℕ) → IsBare Y (suc (k + j)) k → IsState Y n s → past Y n k s j ≡ plain Y n (suc k) s j
  past-bare s j b h =
      bare-nothing Y (plain Y n (suc k)) n (suc j) (suc (k + j)) k (plain Y n (suc k) s j) b (plain-state Y rowed positive n (suc k) s j h)

  past-spelled : (h : List ℕ) (s : State) → PassesExponents Y k h → IsState Y n s
      → push_word (past Y n k) s (spelled 0 h) ≡ push_word (plain Y n (suc k)) s (spelled 0 h)
  past-spelled h s b v =
      spelled-same (plain Y n (suc k)) (IsState Y n) (plain-state Y rowed positive n (suc k)) (past Y n k) h 0 s
      (λ t l j w e q.
      let g : j ≡ l = omega arith in
      subst (λ (i : ℕ). past Y n k t i ≡ plain Y n (suc k) t i) g (past-bare t j (b j q) w)) v

  -- below the prime
  one_added : (a : ℕ) (s : State) → suc a < Y.base.prime → IsState Y n s → PassesExponents Y k s.exponents
      → plain Y (suc n) k (before a s) 0 ≡ before (suc a) s
  one_added a s l h b =
      plain-raise Y n k a s l
      ∙ ap (before (suc a))
      (past-spelled s.exponents (zeros_with n s.row) b (zeros_with-state s h) ∙ plain-spelled Y n (suc k) s.exponents s.row h.exponents)

  pub copies-added : (a e f : ℕ) (s : State) → a + e ≡ f → f < Y.base.prime → IsState Y n s → PassesExponents Y k s.exponents
      → push_word (plain Y (suc n) k) (before a s) (replicate e 0) ≡ before f s
  copies-added a zero f s q l h b =
      let e : a ≡ f = omega arith in
      ap (λ (m : ℕ). before m s) e
  copies-added a (suc e) f s q l h b =
      ap (λ (t : State). push_word (plain Y (suc n) k) t (replicate e 0)) (one_added a s (omega arith) h b)
      ∙ copies-added (suc a) e f s (omega arith) l h b

  -- past the prime
  pub copies-wrap : (a e r : ℕ) (s : State) → a < Y.base.prime → a + e ≡ Y.base.prime + r → IsState Y n s → PassesExponents Y k s.exponents
      → push_word (plain Y (suc n) k) (before a s) (replicate e 0)
      ≡ push_word (plain Y (suc n) k) (before 0 (behind_power Y n k s)) (replicate r 0)
  copies-wrap a e r s l q h b =
      let d : ℕ = Y.base.prime - suc a in
      let full : suc (a + d) ≡ Y.base.prime = omega arith in
      let count : d + suc r ≡ e = omega arith in
      let letters : ◌≡◌ {A = List ℕ} (replicate e 0) (replicate d 0 ++ 0 ∷ replicate r 0) =
      sym (replicate-append-replicate {A = ℕ} d (suc r) 0 ∙ ap (λ (m : ℕ). replicate m 0) count) in
      ap (push_word (plain Y (suc n) k) (before a s)) letters
      ∙ push_word-append (plain Y (suc n) k) (before a s) (replicate d 0) (0 ∷ replicate r 0)
      ∙ ap (λ (t : State). push_word (plain Y (suc n) k) t (0 ∷ replicate r 0)) (copies-added a d (a + d) s refl (omega arith) h b)
      ∙ ap (λ (t : State). push_word (plain Y (suc n) k) t (replicate r 0))
      (plain-carry Y n k (a + d) s full
      ∙ ap (before 0) (past-spelled s.exponents (push_power Y (plain Y n (suc k)) k (zeros_with n s.row)) b
      (push_power-state Y rowed positive n (plain Y n (suc k)) k (plain-state Y rowed positive n (suc k)) (zeros_with n s.row)
      (zeros_with-state s h))))

  -- a power with an empty right side
  pub copies-wrap-empty : (m a e r : ℕ) (s : State) → a < Y.base.prime → a + e ≡ Y.base.prime + r → r < Y.base.prime → IsState Y n s
      → PassesExponents Y k s.exponents → power_side Y.base k ≡ replicate m 0
      → push_word (plain Y (suc n) k) (before a s) (replicate e 0) ≡ add_row Y.base.prime (power_row Y k) (before r s)
  copies-wrap-empty m a e r s l q c h b side =
      let power : push_power Y (plain Y n (suc k)) k (zeros_with n s.row) ≡ add_row Y.base.prime (power_row Y k) (zeros_with n s.row) =
      ap (λ (w : List ℕ). add_row Y.base.prime (power_row Y k) (push_word (plain Y n (suc k)) (zeros_with n s.row) w))
      (ap (spelled 0) side ∙ spelled-zeros 0 m) in
      let whole : behind_power Y n k s ≡ add_row Y.base.prime (power_row Y k) s =
      ap (λ (t : State). push_word (plain Y n (suc k)) t (spelled 0 s.exponents)) power
      ∙ push_word-add_row Y.base.prime (plain Y n (suc k)) (plain-rides Y n (suc k)) (power_row Y k) (zeros_with n s.row)
      (spelled 0 s.exponents)
      ∙ ap (add_row Y.base.prime (power_row Y k)) (plain-spelled Y n (suc k) s.exponents s.row h.exponents) in
      copies-wrap a e r s l q h b
      ∙ ap (λ (t : State). push_word (plain Y (suc n) k) (before 0 t) (replicate r 0)) whole
      ∙ copies-added 0 r r (add_row Y.base.prime (power_row Y k) s) (omega arith) c
      (add_row-state Y n (power_row Y k) s positive (power_row-addable Y rowed k) h) b
