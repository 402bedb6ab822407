-- Where the list of all overlaps begins, and that behind the last triple with one latest generator come those with the next.
use Rattle.std.proofs.Common.{◌≡◌, ℕ, zero, suc, ◌-◌, ◌+◌, ◌<◌, ◌≤◌, List, [], ◌∷◌, ◌++◌, refl, ap, ◌∙◌, arith}
use Rattle.std.specs.List.{flat_map}
use Rattle.pq_base.specs.Canonical.{numbers_from}
use Rattle.pc_presentation.specs.declared.overlap.Overlap.{Overlap}
use Rattle.pc_presentation.specs.declared.overlap.Overlap.TheVariants.{Triple, Left, Right}
use Rattle.consistency.specs.AllOverlaps.{with_smaller, pairs, triples_with, triples, owns, all_overlaps}
use Rattle.consistency.specs.OverlapsLeft.{pairs_from, from_overlap}

module _ (f : ℕ → ℕ → Overlap) where
  -- all pairs, from the first on
  pub pairs_from_first : (n : ℕ) → 2 ≤ n → pairs f n ≡ pairs_from f n 2 1
  pairs_from_first zero h = absurd (omega arith)
  pairs_from_first (suc zero) h = absurd (omega arith)
  pairs_from_first (suc (suc n)) h =
      let same : n ≡ suc (suc n) - 2 = omega arith in
      ap (λ (m : ℕ). f 2 1 ∷ flat_map (with_smaller f) (numbers_from 3 m)) same

  pub no_pairs : (n : ℕ) → n < 2 → pairs f n ≡ []
  no_pairs zero h = refl
  no_pairs (suc zero) h = refl
  no_pairs (suc (suc n)) h = absurd (omega arith)

-- all overlaps, from the first triple on
pub from_first_triple : (n : ℕ) → 3 ≤ n → from_overlap n (Triple 3 2 1) ≡ all_overlaps n
from_first_triple zero h = absurd (omega arith)
from_first_triple (suc zero) h = absurd (omega arith)
from_first_triple (suc (suc zero)) h = absurd (omega arith)
from_first_triple (suc (suc (suc n))) h =
    let same : suc (suc (suc n)) - 3 ≡ n = omega arith in
    ap (λ (m : ℕ). Triple 3 2 1
    ∷ (flat_map triples_with (numbers_from 4 m)
    ++ (pairs Left (suc (suc (suc n))) ++ (pairs Right (suc (suc (suc n))) ++ owns (suc (suc (suc n))))))) same

pub no_triples : (n : ℕ) → n < 3 → triples n ≡ []
no_triples zero h = refl
no_triples (suc zero) h = refl
no_triples (suc (suc zero)) h = refl
no_triples (suc (suc (suc n))) h = absurd (omega arith)

-- the triples with latest generators after k, from the first on
later_triples : (n k : ℕ) → 2 ≤ k → k < n → flat_map triples_with (numbers_from (suc k) (n - k))
    ≡ pairs_from (Triple (k + 1)) ((k + 1) - 1) 2 1 ++ flat_map triples_with (numbers_from (suc (k + 1)) (n - (k + 1)))
later_triples n k h l =
    let more : n - k ≡ suc (n - (k + 1)) = omega arith in
    let next : suc k ≡ k + 1 = omega arith in
    ap (λ (m : ℕ). flat_map triples_with (numbers_from (suc k) m)) more
    ∙ ap (λ (m : ℕ). triples_with m ++ flat_map triples_with (numbers_from (suc m) (n - (k + 1)))) next
    ∙ ap (λ (xs : List Overlap). xs ++ flat_map triples_with (numbers_from (suc (k + 1)) (n - (k + 1))))
    (pairs_from_first (Triple (k + 1)) ((k + 1) - 1) (omega arith))

-- behind the last triple with generator k
pub triple_behind : (n k j i : ℕ) → 2 ≤ k → k < n → pairs_from (Triple k) (k - 1) j i ≡ Triple k j i ∷ []
    → from_overlap n (Triple k j i) ≡ Triple k j i ∷ from_overlap n (Triple (k + 1) 2 1)
triple_behind n k j i h l last =
    ap (λ (xs : List Overlap). (xs ++ flat_map triples_with (numbers_from (suc k) (n - k))) ++ (pairs Left n ++ (pairs Right n ++ owns n)))
    last
    ∙ ap (λ (xs : List Overlap). Triple k j i ∷ (xs ++ (pairs Left n ++ (pairs Right n ++ owns n)))) (later_triples n k h l)
