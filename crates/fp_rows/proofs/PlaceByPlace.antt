-- What the loops over entries do at one place: a sum of products of residues fits a byte, four subtractions take its
-- remainder, and a list that is written place by place is the front of the new one and the rest of the old.
use Rattle.std.proofs.Common.{◌≡◌, ℕ, zero, suc, ◌+◌, ◌*◌, ◌%◌, ◌<◌, ◌≤◌, ⊎_elim, List, [], ◌∷◌, ◌++◌, length, get_or, take, drop, refl, ap}
use Rattle.std.proofs.Common.{ap₂, sym, ◌∙◌, arith, mul-le-mul_right}
use Rattle.std.proofs.Math.Nat.{add-mul-mod_self_right}
use Rattle.std.proofs.Math.ListN.{set}
use Rattle.std.proofs.lemmas.Bool.{cases_lt}
use Rattle.std.proofs.lemmas.List.{take_all, drop_all, append-nil}

pub less_mod : (p q n m r : ℕ) → m ≡ q * p → (n < m → r ≡ n) → (m ≤ n → r + m ≡ n) → r % p ≡ n % p
less_mod p q n m r e small large =
    ⊎_elim (λ h. ap (λ (x : ℕ). x % p) (small h))
    (λ h. sym (add-mul-mod_self_right r q p) ∙ ap (λ (x : ℕ). (r + x) % p) (sym e) ∙ ap (λ (x : ℕ). x % p) (large h)) (cases_lt n m)

-- room for a residue plus a product of residues
pub record SumFits (p k x y : ℕ) : Type 0 where
  pub product : k * y < 256
  pub sum : x + k * y < 256
  pub quotient : x + k * y < 16 * p

pub sum_fits : (p k x y : ℕ) → p ≤ 13 → k < p → x < p → y < p → SumFits p k x y
sum_fits p k x y few factor left right =
    let bound : k * y ≤ 12 * y = mul-le-mul_right y (omega arith) in
    record { product = omega arith; sum = omega arith; quotient = omega arith }

pub written_get : (ws xs : List ℕ) (i : ℕ) → length ws ≡ length xs → get_or (take i ws ++ drop i xs) i 0 ≡ get_or xs i 0
written_get ws xs zero e = refl
written_get [] [] (suc i) e = refl
written_get [] (x ∷ xs) (suc i) e = absurd (omega arith)
written_get (w ∷ ws) [] (suc i) e = absurd (omega arith)
written_get (w ∷ ws) (x ∷ xs) (suc i) e = written_get ws xs i (omega arith)

pub written_more : (ws xs : List ℕ) (i y : ℕ) → length ws ≡ length xs → i < length xs → y ≡ get_or ws i 0
    → set (take i ws ++ drop i xs) i y ≡ take (suc i) ws ++ drop (suc i) xs
written_more [] xs i y e h w = absurd (omega arith)
written_more (w ∷ ws) [] i y e h q = absurd (omega arith)
written_more (w ∷ ws) (x ∷ xs) zero y e h q = ap (λ (n : ℕ). n ∷ xs) q
written_more (w ∷ ws) (x ∷ xs) (suc i) y e h q = ap (λ (l : List ℕ). w ∷ l) (written_more ws xs i y (omega arith) (omega arith) q)

pub written_all : (ws xs : List ℕ) (i : ℕ) → length ws ≡ length xs → length xs ≤ i → take i ws ++ drop i xs ≡ ws
written_all ws xs i e h =
    ap₂ (λ (a b : List ℕ). a ++ b) (take_all i ws (omega arith)) (drop_all i xs h) ∙ append-nil ws
