-- Pairs of successive numbers, with coefficients that aren't 0, keep the conditions of the text of certificates.
use Rattle.std.proofs.Common.{◌≡◌, ◌≢◌, ◌+◌, ◌<◌, ◌≤◌, ℕ, zero, suc, Bool, true, false, not, ◌&&◌, List, [], ◌++◌, refl, ap, ap₂, subst}
use Rattle.std.proofs.Common.{arith, inl, inr}
use Rattle.std.proofs.lemmas.Bool.{cases_eq, cases_lt, le-leb, lt-ltb}
use Rattle.pq_base.specs.Canonical.{numbers_from}
use Rattle.derivation_log.specs.Certificates.{TailLine}
use Rattle.derivation_log.specs.CertificateForms.{max_number, is_number_from, are_pairs, are_at_most, has_line, are_kept_below}
use Rattle.derivation_log.specs.HeldLines.{pair_unless_zero, pairs_of}

pub both_true : {a b : Bool} → a ≡ true → b ≡ true → (a && b) ≡ true
both_true h k = ap₂ (λ (x y : Bool). x && y) h k

pub at_least_next : (a k : ℕ) → a ≤ k → a ≢ k → suc a ≤ k
at_least_next a k l ne = elim (cases_lt a k) [ inl h ↦ h | inr h ↦ absurd (ne (omega arith)) ]

pub number_from : (least n : ℕ) → least ≤ n → n ≤ max_number → is_number_from least n ≡ true
number_from least n l m = both_true (le-leb least n l) (le-leb n max_number m)

-- one number before others
pairs-one : (p a least e : ℕ) (rest : List (ℕ × ℕ)) → least ≤ a → a ≤ max_number → e < p
    → ((start : ℕ) → start ≤ suc a → are_pairs p start rest ≡ true) → are_pairs p least (pair_unless_zero a e ++ rest) ≡ true
pairs-one p a least zero rest l m small others = others least (omega arith)
pairs-one p a least (suc e) rest l m small others =
    both_true (number_from least a l m)
    (both_true (le-leb 1 (suc e) (omega arith)) (both_true (lt-ltb (suc e) p small) (others (suc a) (omega arith))))

at_most-one : (m a e : ℕ) (rest : List (ℕ × ℕ)) → a ≤ m → are_at_most m rest ≡ true → are_at_most m (pair_unless_zero a e ++ rest) ≡ true
at_most-one m a zero rest l others = others
at_most-one m a (suc e) rest l others = both_true (le-leb a m l) others

kept-one : (lines : List TailLine) (t a e : ℕ) (rest : List (ℕ × ℕ)) → (e ≢ 0 → (a < t) × (has_line lines a ≡ false))
    → are_kept_below lines t rest ≡ true → are_kept_below lines t (pair_unless_zero a e ++ rest) ≡ true
kept-one lines t a zero rest kept others = others
kept-one lines t a (suc e) rest kept others =
    let here = kept (λ none. let n : suc e ≡ 0 = none in absurd (omega arith)) in
    both_true (lt-ltb a t here.0) (both_true (ap not here.1) others)

no_pair-one : (a e : ℕ) (rest : List (ℕ × ℕ)) → pair_unless_zero a e ++ rest ≡ [] → (e ≡ 0) × (rest ≡ [])
no_pair-one a zero rest none = (refl, none)
no_pair-one a (suc e) rest none = cc

module _ (f : ℕ → ℕ) where
  -- they rise
  pub pairs-are : (p n a least : ℕ) → least ≤ a → a + n ≤ suc max_number → ((k : ℕ) → a ≤ k → k < a + n → f k < p)
      → are_pairs p least (pairs_of f (numbers_from a n)) ≡ true
  pairs-are p zero a least l m below = refl
  pairs-are p (suc n) a least l m below =
      pairs-one p a least (f a) (pairs_of f (numbers_from (suc a) n)) l (omega arith) (below a (omega arith) (omega arith))
      (λ start h. pairs-are p n (suc a) start h (omega arith) (λ k g t. below k (omega arith) (omega arith)))

  -- they are at most the last number
  pub pairs-at_most : (m n a : ℕ) → a + n ≤ suc m → are_at_most m (pairs_of f (numbers_from a n)) ≡ true
  pairs-at_most m zero a l = refl
  pairs-at_most m (suc n) a l =
      at_most-one m a (f a) (pairs_of f (numbers_from (suc a) n)) (omega arith) (pairs-at_most m n (suc a) (omega arith))

  -- they are below a tail and have no line, where this holds of each number whose coefficient isn't 0
  pub pairs-kept : (lines : List TailLine) (t n a : ℕ)
      → ((k : ℕ) → a ≤ k → k < a + n → f k ≢ 0 → (k < t) × (has_line lines k ≡ false))
      → are_kept_below lines t (pairs_of f (numbers_from a n)) ≡ true
  pairs-kept lines t zero a kept = refl
  pairs-kept lines t (suc n) a kept =
      kept-one lines t a (f a) (pairs_of f (numbers_from (suc a) n)) (kept a (omega arith) (omega arith))
      (pairs-kept lines t n (suc a) (λ k h l some. kept k (omega arith) (omega arith) some))

  -- where there is no pair, each coefficient is 0
  pub no_pair : (n a : ℕ) → pairs_of f (numbers_from a n) ≡ [] → (k : ℕ) → a ≤ k → k < a + n → f k ≡ 0
  no_pair zero a none k l m = absurd (omega arith)
  no_pair (suc n) a none k l m =
      let one = no_pair-one a (f a) (pairs_of f (numbers_from (suc a) n)) none in
      elim (cases_eq a k) [
        | inl here ↦ subst (λ (j : ℕ). f j ≡ 0) here one.0
        | inr other ↦ no_pair n (suc a) one.1 k (at_least_next a k l other) (omega arith)
      ]
