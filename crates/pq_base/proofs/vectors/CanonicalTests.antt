-- Tests that compute for canonical answers: weights of right sides, and entries that define no new generator.
use Rattle.std.proofs.Common.{◌≡◌, ◌≢◌, ◌≤◌, ◌+◌, ℕ, zero, suc, Bool, true, false, ◌&&◌, ◌||◌, not, eqb, leb, List, [], ◌∷◌, get_or, refl}
use Rattle.std.proofs.Common.{sym, ap, ◌∙◌, subst, arith, eqb-true, leb-true, eq-eqb}
use Rattle.pq_base.specs.Presentation.{power_side, commutator_side}
use Rattle.pq_base.specs.Answer.{Answer, Definition, weight_at, definition_at}
use Rattle.pq_base.specs.Answer.Definition.{image, commutator, power}
use Rattle.pq_base.specs.Canonical.{same_definition, new_part, new_count, rank_up_to, DefinesNone, ObeysWeights}
use Rattle.pq_base.proofs.vectors.Tests.{not-true, differ, both, passes_below, at-below}

-- a definition passes as itself
pub same-definition_refl : (d : Definition) → same_definition d d ≡ true
same-definition_refl (image i) = eq-eqb i i refl
same-definition_refl (commutator j i) = ap (λ (b : Bool). b && eqb i i) (eq-eqb j j refl) ∙ eq-eqb i i refl
same-definition_refl (power i) = eq-eqb i i refl

-- definitions that the test tells apart are different
pub other-definition : (d e : Definition) → same_definition d e ≡ false → d ≢ e
other-definition d e h same = differ (sym (same-definition_refl d) ∙ (ap (same_definition d) same ∙ h))

-- all entries from place n on are 0
abbrev pub are_zero_from : ℕ → List ℕ → Bool
are_zero_from n [] = true
are_zero_from zero (x ∷ xs) = eqb x 0 && are_zero_from zero xs
are_zero_from (suc n) (x ∷ xs) = are_zero_from n xs

-- so they are, by the test
pub zero-from : (n : ℕ) (xs : List ℕ) → are_zero_from n xs ≡ true → (g : ℕ) → n ≤ g → get_or xs g 0 ≡ 0
zero-from n [] h g l = refl
zero-from zero (x ∷ xs) h zero l = eqb-true x 0 (both (eqb x 0) (are_zero_from zero xs) h).0
zero-from zero (x ∷ xs) h (suc g) l = zero-from zero xs (both (eqb x 0) (are_zero_from zero xs) h).1 g (omega arith)
zero-from (suc n) (x ∷ xs) h zero l = absurd (omega (arith, l))
zero-from (suc n) (x ∷ xs) h (suc g) l = zero-from n xs h g (omega (arith, l))

-- what an entry has to pass to define no new generator
pub record PassesNone (A : Answer) (k met : ℕ) (d : Definition) : Type 0 where
  pub none_defined : passes_below (new_count A k) (λ g. not (same_definition (definition_at A (rank_up_to A k + g)) d)) ≡ true
  pub met_alone : are_zero_from met (new_part A k d) ≡ true

-- an entry that passes defines no new generator
pub tested_none : (A : Answer) (k met : ℕ) (d : Definition) → PassesNone A k met d → DefinesNone A k met d
tested_none A k met d h = record {
  none_defined = λ g hg. other-definition (definition_at A (rank_up_to A k + g)) d
      (not-true (same_definition (definition_at A (rank_up_to A k + g)) d)
      (at-below (new_count A k) (λ x. not (same_definition (definition_at A (rank_up_to A k + x)) d)) h.none_defined g hg));
  met_alone = zero-from met (new_part A k d) h.met_alone;
}

-- entries that are not 0, from generator n on, have at least the given weight
abbrev pub is_heavy : Answer → ℕ → ℕ → List ℕ → Bool
is_heavy A least n [] = true
is_heavy A least n (e ∷ es) = (eqb e 0 || leb least (weight_at A n)) && is_heavy A least (suc n) es

or-second : (a b : Bool) → (a || b) ≡ true → a ≢ true → b ≡ true
or-second true b h ne = absurd (ne refl)
or-second false b h ne = h

-- so they have, by the test
pub heavy : (A : Answer) (least n : ℕ) (es : List ℕ) → is_heavy A least n es ≡ true
    → (m k : ℕ) → n + m ≡ k → get_or es m 0 ≢ 0 → least ≤ weight_at A k
heavy A least n [] h m k e ne = absurd (ne refl)
heavy A least n (x ∷ es) h zero k e ne =
    let here = both (eqb x 0 || leb least (weight_at A n)) (is_heavy A least (suc n) es) h in
    let same : n ≡ k = omega (arith, e) in
    subst (λ (i : ℕ). least ≤ weight_at A i) same
    (leb-true least (weight_at A n) (or-second (eqb x 0) (leb least (weight_at A n)) here.0 (λ z. ne (eqb-true x 0 z))))
heavy A least n (x ∷ es) h (suc m) k e ne =
    heavy A least (suc n) es (both (eqb x 0 || leb least (weight_at A n)) (is_heavy A least (suc n) es) h).1 m k (omega (arith, e)) ne

-- what a closed answer has to pass to obey the weights
pub record PassesWeights (A : Answer) : Type 0 where
  pub commutators : passes_below A.presentation.rank (λ j. passes_below j (λ i.
      is_heavy A (weight_at A j + weight_at A i) (suc j) (commutator_side A.presentation j i))) ≡ true
  pub powers : passes_below A.presentation.rank (λ i. is_heavy A (suc (weight_at A i)) (suc i) (power_side A.presentation i)) ≡ true

-- an answer that passes obeys the weights
pub tested_weights : (A : Answer) → PassesWeights A → ObeysWeights A
tested_weights A h = record {
  commutators = λ j i m hj hi ne. heavy A (weight_at A j + weight_at A i) (suc j) (commutator_side A.presentation j i)
      (at-below j (λ x. is_heavy A (weight_at A j + weight_at A x) (suc j) (commutator_side A.presentation j x))
      (at-below A.presentation.rank (λ y. passes_below y (λ x.
      is_heavy A (weight_at A y + weight_at A x) (suc y) (commutator_side A.presentation y x))) h.commutators j hj) i hi)
      m (suc j + m) refl ne;
  powers = λ i m hi ne. heavy A (suc (weight_at A i)) (suc i) (power_side A.presentation i)
      (at-below A.presentation.rank (λ x. is_heavy A (suc (weight_at A x)) (suc x) (power_side A.presentation x)) h.powers i hi)
      m (suc i + m) refl ne;
}
