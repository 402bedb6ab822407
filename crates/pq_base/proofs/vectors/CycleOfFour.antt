-- The cyclic group of order four has class 2 at the prime 2: level 1 has 0 and 2 alone, and level 2 has 0.
use Rattle.std.proofs.Common.{◌≡◌, ◌<◌, ◌⊎◌, ℕ, zero, suc, refl, ap, ◌∙◌, inl, inr, arith, eqb, eqb-true}
use Rattle.pq_base.specs.Table.{HasTableClass, InLevel, times, power, commutator}
use Rattle.pq_base.specs.Table.NextElement.{no_element, times_commutator, times_power}
use Rattle.pq_base.proofs.vectors.Tests.{unequal, at-both}
use Rattle.pq_base.proofs.vectors.Tables.{cycle_of_four}

commutator-neutral : (u v : ℕ) → u < 4 → v < 4 → commutator cycle_of_four u v ≡ 0
commutator-neutral u v hu hv =
    eqb-true (commutator cycle_of_four u v) 0 (at-both 4 4 (λ a b. eqb (commutator cycle_of_four a b) 0) refl u v hu hv)

even-times : (y x : ℕ) → (y ≡ 0) ⊎ (y ≡ 2) → (x ≡ 0) ⊎ (x ≡ 2) → (times cycle_of_four y x ≡ 0) ⊎ (times cycle_of_four y x ≡ 2)
even-times y x (inl a) (inl b) = inl (ap (λ (m : ℕ). times cycle_of_four m x) a ∙ ap (times cycle_of_four 0) b)
even-times y x (inl a) (inr b) = inr (ap (λ (m : ℕ). times cycle_of_four m x) a ∙ ap (times cycle_of_four 0) b)
even-times y x (inr a) (inl b) = inr (ap (λ (m : ℕ). times cycle_of_four m x) a ∙ ap (times cycle_of_four 2) b)
even-times y x (inr a) (inr b) = inl (ap (λ (m : ℕ). times cycle_of_four m x) a ∙ ap (times cycle_of_four 2) b)

even-square : (u : ℕ) → u < 4 → (power cycle_of_four u 2 ≡ 0) ⊎ (power cycle_of_four u 2 ≡ 2)
even-square zero h = inl refl
even-square (suc zero) h = inr refl
even-square (suc (suc zero)) h = inl refl
even-square (suc (suc (suc zero))) h = inr refl
even-square (suc (suc (suc (suc u)))) h = absurd (omega (arith, h))

-- level 1 has 0 and 2 alone
pub level_one_is_even : (x : ℕ) → InLevel cycle_of_four 2 1 x → (x ≡ 0) ⊎ (x ≡ 2)
level_one_is_even x no_element = inl refl
level_one_is_even x (times_commutator u v y hu hv hy) =
    even-times (commutator cycle_of_four u v) y (inl (commutator-neutral u v hu hv)) (level_one_is_even y hy)
level_one_is_even x (times_power u y hu hy) = even-times (power cycle_of_four u 2) y (even-square u hu) (level_one_is_even y hy)

even-below : (u : ℕ) → (u ≡ 0) ⊎ (u ≡ 2) → u < 4
even-below u (inl e) = omega (arith, e)
even-below u (inr e) = omega (arith, e)

even-square-neutral : (u : ℕ) → (u ≡ 0) ⊎ (u ≡ 2) → power cycle_of_four u 2 ≡ 0
even-square-neutral u (inl e) = ap (λ (m : ℕ). power cycle_of_four m 2) e
even-square-neutral u (inr e) = ap (λ (m : ℕ). power cycle_of_four m 2) e

-- level 2 has 0 alone
pub cycle_of_four_has_class_two : HasTableClass cycle_of_four 2 2
cycle_of_four_has_class_two x no_element = refl
cycle_of_four_has_class_two x (times_commutator u v y hu hv hy) =
    ap (λ (m : ℕ). times cycle_of_four m y) (commutator-neutral u v (even-below u (level_one_is_even u hu)) hv)
    ∙ ap (times cycle_of_four 0) (cycle_of_four_has_class_two y hy)
cycle_of_four_has_class_two x (times_power u y hu hy) =
    ap (λ (m : ℕ). times cycle_of_four m y) (even-square-neutral u (level_one_is_even u hu))
    ∙ ap (times cycle_of_four 0) (cycle_of_four_has_class_two y hy)

-- 1 is in level 0 and not in level 1
pub one_not_in_level_one : InLevel cycle_of_four 2 1 1 → ⊥
one_not_in_level_one h = neither (level_one_is_even 1 h) where
  neither : (suc zero ≡ 0) ⊎ (suc zero ≡ 2) → ⊥
  neither (inl e) = unequal 1 0 refl e
  neither (inr e) = unequal 1 2 refl e
