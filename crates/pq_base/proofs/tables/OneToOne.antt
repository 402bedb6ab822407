-- A one-to-one map of the numbers below m into the numbers below n has m at most n, and a power of a number above 1 has one
-- exponent.
use Rattle.std.proofs.Common.{◌≡◌, ℕ, zero, suc, ◌*◌, ◌^◌, ◌<◌, ◌≤◌, Bool, true, false, refl, sym, ◌∙◌, arith}
use Rattle.std.specs.Prelude.{eqb}
use Rattle.std.proofs.Math.Nat.{one-le-pow, pow-le-pow_right, pow-suc, mul-le-mul_left}
use borrow.Author.Tests.{eqb-true, eq-eqb}
use native.Mathlib.Decide.{dec_lt}

-- v in the place of n
instead_of : Bool → ℕ → ℕ → ℕ
instead_of true v x = v
instead_of false v x = x

abbrev replaced : ℕ → ℕ → ℕ → ℕ
replaced n v x = instead_of (eqb x n) v x

-- where v and x are distinct numbers up to n, so is what stands for x below n
replaced-below : (n v x : ℕ) (b : Bool) → eqb x n ≡ b → v < suc n → x < suc n → (x ≡ v → ⊥) → instead_of b v x < n
unfolding instead_of
replaced-below n v x true e lv lx apart =
    let same = eqb-true x n e in
    elim (dec_lt v n) [ yes l ↦ l | no h ↦ let w : v ≡ n = omega arith in absurd (apart (same ∙ sym w)) ]
replaced-below n v x false e lv lx apart =
    elim (dec_lt x n) [ yes l ↦ l | no h ↦ let w : x ≡ n = omega arith in let t = eq-eqb x n w in cc ]

replaced-apart : (n v x y : ℕ) (b c : Bool) → eqb x n ≡ b → eqb y n ≡ c → (x ≡ v → ⊥) → (y ≡ v → ⊥)
    → instead_of b v x ≡ instead_of c v y → x ≡ y
unfolding instead_of
replaced-apart n v x y true true e f ax ay h = eqb-true x n e ∙ sym (eqb-true y n f)
replaced-apart n v x y true false e f ax ay h = absurd (ay (sym h))
replaced-apart n v x y false true e f ax ay h = absurd (ax h)
replaced-apart n v x y false false e f ax ay h = h

-- the pigeonhole principle
pub le_from_one_to_one : (m n : ℕ) (f : ℕ → ℕ) → ((a : ℕ) → a < m → f a < n)
    → ((a b : ℕ) → a < m → b < m → f a ≡ f b → a ≡ b) → m ≤ n
le_from_one_to_one zero n f below once = omega arith
le_from_one_to_one (suc m) zero f below once = let l = below m (omega arith) in omega arith
le_from_one_to_one (suc m) (suc n) f below once =
    let apart : (a : ℕ) → a < m → (f a ≡ f m → ⊥) = λ a l e. let same = once a m (omega arith) (omega arith) e in omega arith in
    let last : f m < suc n = below m (omega arith) in
    let rest : m ≤ n =
    le_from_one_to_one m n (λ (a : ℕ). replaced n (f m) (f a))
    (λ a l. replaced-below n (f m) (f a) (eqb (f a) n) refl last (below a (omega arith)) (apart a l))
    (λ a b l k e.
    once a b (omega arith) (omega arith)
    (replaced-apart n (f m) (f a) (f b) (eqb (f a) n) (eqb (f b) n) refl refl (apart a l) (apart b k) e)) in
    omega arith

pub pow-lt_right : (p r s : ℕ) → 1 < p → r < s → p ^ r < p ^ s
pow-lt_right p r s big l =
    let positive : 0 < p = omega arith in
    let some : 1 ≤ p ^ r = one-le-pow r p positive in
    let double : p ^ r * 2 ≤ p ^ r * p = mul-le-mul_left (p ^ r) big in
    let step : p ^ suc r ≡ p ^ r * p = pow-suc p r in
    let up : p ^ suc r ≤ p ^ s = pow-le-pow_right positive l in
    omega arith

pub pow-injective : (p r s : ℕ) → 1 < p → p ^ r ≡ p ^ s → r ≡ s
pow-injective p r s big e = elim (dec_lt r s) [
  | yes l ↦ let h = pow-lt_right p r s big l in absurd (omega arith)
  | no h ↦ elim (dec_lt s r) [
    | yes l ↦ let h = pow-lt_right p s r big l in absurd (omega arith)
    | no g ↦ omega arith
  ]
]
