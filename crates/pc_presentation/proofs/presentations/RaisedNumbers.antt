-- Numbers of which the first ones are made at least some number: one more of them, and each of them.
use Rattle.std.proofs.Common.{◌≡◌, ℕ, zero, suc, ◌+◌, ◌<◌, ◌≤◌, max, List, [], ◌∷◌, get_or, length, refl, ap, ◌∙◌, arith}
use Rattle.std.proofs.Math.ListN.{set}
use Rattle.pc_presentation.specs.CommutingNumbers.{raised_to}

pub raised_to_more : (n i : ℕ) (xs : List ℕ) → i < length xs
    → set (raised_to n i xs) i (max n (get_or (raised_to n i xs) i 0)) ≡ raised_to n (i + 1) xs
raised_to_more n i [] h = absurd (omega arith)
raised_to_more n zero (x ∷ xs) h = refl
raised_to_more n (suc i) (x ∷ xs) h =
    let more : suc (i + 1) ≡ suc i + 1 = omega arith in
    ap (λ (ys : List ℕ). max n x ∷ ys) (raised_to_more n i xs (omega arith)) ∙ ap (λ (k : ℕ). raised_to n k (x ∷ xs)) more

pub length-raised_to : (n i : ℕ) (xs : List ℕ) → length (raised_to n i xs) ≡ length xs
length-raised_to n zero xs = refl
length-raised_to n (suc i) [] = refl
length-raised_to n (suc i) (x ∷ xs) = ap suc (length-raised_to n i xs)

pub get_or-raised_to : (n i k : ℕ) (xs : List ℕ) → k < i → k < length xs → get_or (raised_to n i xs) k 0 ≡ max n (get_or xs k 0)
get_or-raised_to n zero k xs h l = absurd (omega arith)
get_or-raised_to n (suc i) k [] h l = absurd (omega arith)
get_or-raised_to n (suc i) zero (x ∷ xs) h l = refl
get_or-raised_to n (suc i) (suc k) (x ∷ xs) h l = get_or-raised_to n i k xs (omega arith) (omega arith)

pub get_or-raised_to_later : (n i k : ℕ) (xs : List ℕ) → i ≤ k → get_or (raised_to n i xs) k 0 ≡ get_or xs k 0
get_or-raised_to_later n zero k xs h = refl
get_or-raised_to_later n (suc i) k [] h = refl
get_or-raised_to_later n (suc i) zero (x ∷ xs) h = absurd (omega arith)
get_or-raised_to_later n (suc i) (suc k) (x ∷ xs) h = get_or-raised_to_later n i k xs (omega arith)
