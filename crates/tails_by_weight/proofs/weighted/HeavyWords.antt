-- Words of generators whose weights have a lower bound. Where a presentation obeys weights, the right sides of its relations are
-- such words, and those whose bound is above the greatest weight are empty.
use Rattle.std.proofs.Common.{◌≡◌, ◌≢◌, ℕ, zero, suc, ◌+◌, ◌*◌, ◌%◌, ◌<◌, ◌≤◌, List, [], ◌∷◌, ◌++◌, length, get_or, replicate, refl, subst}
use Rattle.std.proofs.Common.{arith}
use Rattle.fp_rows.specs.Rows.{scale_row}
use Rattle.pq_base.specs.Presentation.{power_side, commutator_side}
use Rattle.pc_presentation.specs.Rowed.{RowedPresentation, IsRowed}
use Rattle.pc_presentation.specs.Collection.{spelled}
use Rattle.tails_by_weight.specs.WeightedRows.{ObeysWeightsTo}

-- a letter of n, counted from place k, whose weight is at least c
pub record IsHeavy (weights : List ℕ) (n k c i : ℕ) : Type 0 where
  pub below : i < n
  pub weight : c ≤ get_or weights (k + i) 0

-- a word of such letters
abbrev pub AreHeavy : List ℕ → ℕ → ℕ → ℕ → List ℕ → Type 0
AreHeavy weights n k c [] = Unit {0}
AreHeavy weights n k c (i ∷ u) = IsHeavy weights n k c i × AreHeavy weights n k c u

module _ (weights : List ℕ) (n k c : ℕ) where
  heavy-append : (u v : List ℕ) → AreHeavy weights n k c u → AreHeavy weights n k c v → AreHeavy weights n k c (u ++ v)
  heavy-append [] v h g = g
  heavy-append (i ∷ u) v h g = (h.0, heavy-append u v h.1 g)

  pub heavy-front : (u v : List ℕ) → AreHeavy weights n k c (u ++ v) → AreHeavy weights n k c u
  heavy-front [] v h = tt
  heavy-front (i ∷ u) v h = (h.0, heavy-front u v h.1)

  pub heavy-rest : (u v : List ℕ) → AreHeavy weights n k c (u ++ v) → AreHeavy weights n k c v
  heavy-rest [] v h = h
  heavy-rest (i ∷ u) v h = heavy-rest u v h.1

  pub heavy-replicate : (m i : ℕ) → (0 < m → IsHeavy weights n k c i) → AreHeavy weights n k c (replicate m i)
  heavy-replicate zero i h = tt
  heavy-replicate (suc m) i h = let g = h (omega arith) in (g, heavy-replicate m i (λ _. g))

  pub heavy-copy : (m i : ℕ) → 0 < m → AreHeavy weights n k c (replicate m i) → IsHeavy weights n k c i
  heavy-copy zero i l h = absurd (omega arith)
  heavy-copy (suc m) i l h = h.0

  pub heavy-lower : (d : ℕ) (u : List ℕ) → d ≤ c → AreHeavy weights n k c u → AreHeavy weights n k d u
  heavy-lower d [] l h = tt
  heavy-lower d (i ∷ u) l h = let w = h.0.weight in (record { below = h.0.below; weight = omega arith }, heavy-lower d u l h.1)

  -- where the bound is above each weight, the word is empty
  heavy-none : (u : List ℕ) → ((i : ℕ) → i < n → get_or weights (k + i) 0 < c) → AreHeavy weights n k c u → u ≡ []
  heavy-none [] l h = refl
  heavy-none (i ∷ u) l h = let w = h.0.weight in let m = l i h.0.below in absurd (omega arith)

  -- the letters of exponents
  heavy-spelled : (i : ℕ) (h : List ℕ) → i + length h ≤ n
      → ((m : ℕ) → get_or h m 0 ≢ 0 → c ≤ get_or weights (k + (i + m)) 0) → AreHeavy weights n k c (spelled i h)
  heavy-spelled i [] l f = tt
  heavy-spelled i (x ∷ h) l f =
      let here : k + (i + 0) ≡ k + i = omega arith in
      heavy-append (replicate x i) (spelled (suc i) h)
      (heavy-replicate x i (λ m. record {
        below = omega arith;
        weight = subst (λ (z : ℕ). c ≤ get_or weights z 0) here (f 0 (λ e. let z : x ≡ 0 = e in absurd (omega arith)));
      }))
      (heavy-spelled (suc i) h (omega arith) (λ m z.
      subst (λ (y : ℕ). c ≤ get_or weights y 0) (let e : k + (i + suc m) ≡ k + (suc i + m) = omega arith in e) (f (suc m) z)))

  pub heavy-multiple : (p m i : ℕ) (h : List ℕ) → 0 < p → AreHeavy weights n k c (spelled i h)
      → AreHeavy weights n k c (spelled i (scale_row p m h))
  heavy-multiple p m i [] l g = tt
  heavy-multiple p m i (x ∷ h) l g =
      heavy-append (replicate ((m * x) % p) i) (spelled (suc i) (scale_row p m h))
      (heavy-replicate ((m * x) % p) i (λ z. heavy-copy x i (positive_factor x z) (heavy-front (replicate x i) (spelled (suc i) h) g)))
      (heavy-multiple p m (suc i) h l (heavy-rest (replicate x i) (spelled (suc i) h) g))
    where
      positive_factor : (y : ℕ) → 0 < (m * y) % p → 0 < y
      positive_factor zero z = absurd (omega arith)
      positive_factor (suc y) z = omega arith

-- the right sides
module _ (Y : RowedPresentation) (rowed : IsRowed Y) (weights : List ℕ) (e : ℕ) (obeys : ObeysWeightsTo Y weights e) (n k : ℕ)
    (size : k + n ≡ Y.base.rank) where
  pub commutator-heavy : (d a b : ℕ) → suc a ≡ k + d → a < Y.base.rank → b < a
      → AreHeavy weights n k (get_or weights a 0 + get_or weights b 0) (spelled d (commutator_side Y.base a b))
  commutator-heavy d a b q l m =
      let c = (rowed.base.commutator_sides a b l m).count in
      heavy-spelled weights n k (get_or weights a 0 + get_or weights b 0) d (commutator_side Y.base a b) (omega arith)
      (λ i z. subst (λ (y : ℕ). get_or weights a 0 + get_or weights b 0 ≤ get_or weights y 0)
      (let f : suc a + i ≡ k + (d + i) = omega arith in f) (obeys.commutators a b i l m z))

  pub power-heavy : (d a : ℕ) → suc a ≡ k + d → a < Y.base.rank
      → AreHeavy weights n k (suc (get_or weights a 0)) (spelled d (power_side Y.base a))
  power-heavy d a q l =
      let c = (rowed.base.power_sides a l).count in
      heavy-spelled weights n k (suc (get_or weights a 0)) d (power_side Y.base a) (omega arith)
      (λ i z. subst (λ (y : ℕ). suc (get_or weights a 0) ≤ get_or weights y 0)
      (let f : suc a + i ≡ k + (d + i) = omega arith in f) (obeys.powers a i l z))

  -- where the weights have a sum above the greatest
  too_heavy : (c : ℕ) (u : List ℕ) → e < c → AreHeavy weights n k c u → u ≡ []
  too_heavy c u l h = heavy-none weights n k c u (λ i m. let w = obeys.at_most (k + i) (omega arith) in omega arith) h

  pub bare_commutator : (d a b : ℕ) → suc a ≡ k + d → a < Y.base.rank → b < a → e < get_or weights a 0 + get_or weights b 0
      → spelled d (commutator_side Y.base a b) ≡ []
  bare_commutator d a b q l m w =
      too_heavy (get_or weights a 0 + get_or weights b 0) (spelled d (commutator_side Y.base a b)) w (commutator-heavy d a b q l m)

  pub bare_power : (d a : ℕ) → suc a ≡ k + d → a < Y.base.rank → e ≤ get_or weights a 0 → spelled d (power_side Y.base a) ≡ []
  bare_power d a q l w = too_heavy (suc (get_or weights a 0)) (spelled d (power_side Y.base a)) (omega arith) (power-heavy d a q l)

  -- each letter has a weight of at least 1
  pub heavy-one : (c : ℕ) (u : List ℕ) → AreHeavy weights n k c u → AreHeavy weights n k 1 u
  heavy-one c [] h = tt
  heavy-one c (i ∷ u) h =
      let l = h.0.below in
      (record { below = l; weight = obeys.from_one (k + i) (omega arith) }, heavy-one c u h.1)
