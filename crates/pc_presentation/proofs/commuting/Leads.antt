-- A push leaves the exponents before its generator: pushes on a state are pushes on its later part, with the earlier
-- exponents put in front again.
use Rattle.std.proofs.Common.{◌≡◌, ℕ, zero, suc, ◌+◌, List, [], ◌∷◌, ◌++◌, length, replicate, refl, ap, sym, ◌∙◌, arith}
use Rattle.pc_presentation.specs.Rowed.{RowedPresentation}
use Rattle.pc_presentation.specs.Collection.{State, spelled, add_row, before, push_word, push_configuration}
use Rattle.pc_presentation.proofs.collecting.PushLaws.{push_word-append}
use Rattle.pc_presentation.proofs.collecting.PlainRule.{plain, plain-later}

-- exponents in front of a state
abbrev pub lead : List ℕ → State → State
lead l s = record { exponents = l ++ s.exponents; row = s.row }

pub plain-lead : (Y : RowedPresentation) (l : List ℕ) (n m k k' : ℕ) (s : State) (i' i : ℕ)
    → n ≡ length l + m → k' ≡ k + length l → i' ≡ length l + i → plain Y n k (lead l s) i' ≡ lead l (plain Y m k' s i)
plain-lead Y [] n m k k' s i' i en ek ei =
    let a : n ≡ m = omega arith in
    let b : k ≡ k' = omega arith in
    let c : i' ≡ i = omega arith in
    ap (λ (x : ℕ). plain Y x k s i') a ∙ ap (λ (x : ℕ). plain Y m x s i') b ∙ ap (λ (x : ℕ). plain Y m k' s x) c
plain-lead Y (e ∷ l) zero m k k' s i' i en ek ei = absurd (omega arith)
plain-lead Y (e ∷ l) (suc n) m k k' s zero i en ek ei = absurd (omega arith)
plain-lead Y (e ∷ l) (suc n) m k k' s (suc i') i en ek ei =
    plain-later Y n k e (lead l s) i'
    ∙ ap (before e) (plain-lead Y l n m (suc k) k' s i' i (omega arith) (omega arith) (omega arith))

-- pushes f on states with l in front that are pushes g on the later part, where letters are c places further
module _ (f g : State → ℕ → State) (l : List ℕ) (c : ℕ)
    (leads : (s : State) (j' j : ℕ) → j' ≡ c + j → f (lead l s) j' ≡ lead l (g s j)) where
  pub copies-lead : (e j' j : ℕ) (s : State) → j' ≡ c + j → push_word f (lead l s) (replicate e j') ≡ lead l (push_word g s (replicate e j))
  copies-lead zero j' j s h = refl
  copies-lead (suc e) j' j s h =
      ap (λ (t : State). push_word f t (replicate e j')) (leads s j' j h) ∙ copies-lead e j' j (g s j) h

  pub spelled-lead : (h : List ℕ) (a' a : ℕ) (s : State) → a' ≡ c + a
      → push_word f (lead l s) (spelled a' h) ≡ lead l (push_word g s (spelled a h))
  spelled-lead [] a' a s q = refl
  spelled-lead (e ∷ h) a' a s q =
      push_word-append f (lead l s) (replicate e a') (spelled (suc a') h)
      ∙ ap (λ (t : State). push_word f t (spelled (suc a') h)) (copies-lead e a' a s q)
      ∙ spelled-lead h (suc a') (suc a) (push_word g s (replicate e a)) (omega arith)
      ∙ ap (lead l) (sym (push_word-append g s (replicate e a) (spelled (suc a) h)))

  pub configuration-lead : (Y : RowedPresentation) (h x : List ℕ) (a' a : ℕ) (s : State) → a' ≡ c + a
      → push_configuration Y f (lead l s) (record { word = spelled a' h; row = x })
      ≡ lead l (push_configuration Y g s (record { word = spelled a h; row = x }))
  configuration-lead Y h x a' a s q = ap (add_row Y.base.prime x) (spelled-lead h a' a s q)
