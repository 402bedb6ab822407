-- A text is split at a byte in one way only, where what stands before the byte has none of its kind. So decimal numbers
-- that a byte ends are told apart.
use Rattle.std.proofs.Common.{◌≡◌, ◌≢◌, ◌<◌, ◌+◌, ◌%◌, ◌^◌, ℕ, suc, true, false, cond, eqb, List, [], ◌∷◌, ◌++◌, get_or, length, drop}
use Rattle.std.proofs.Common.{decimal, refl, ap, ap₂, sym, arith}
use Rattle.std.proofs.lemmas.List.{length-append}
use Rattle.std.proofs.lemmas.Fmt.{decimal_injective, decimal_by_steps}
use borrow.Author.Tests.{eqb-true, eqb-false}
pub use Rattle.answer_text.specs.Lines.{avoids}

pub first-same : {X : Type 0} (x y : X) (xs ys : List X) → x ∷ xs ≡ y ∷ ys → x ≡ y
first-same {X} x y xs ys h = ap (λ (l : List X). get_or l 0 x) h

pub rest-same : {X : Type 0} (x y : X) (xs ys : List X) → x ∷ xs ≡ y ∷ ys → xs ≡ ys
rest-same {X} x y xs ys h = ap (λ (l : List X). drop 1 l) h

-- a text with a byte in it isn't empty
pub nil-split : (c : ℕ) (xs us : List ℕ) → [] ≡ xs ++ c ∷ us → ⊥
nil-split c xs us h =
    let none : 0 ≡ length (xs ++ c ∷ us) = ap (λ (l : List ℕ). length l) h in
    let some : length (xs ++ c ∷ us) ≡ length xs + suc (length us) = length-append xs (c ∷ us) in
    omega arith

-- texts with different first bytes differ
pub first-apart : (a b : ℕ) (xs ys : List ℕ) → eqb a b ≡ false → a ∷ xs ≡ b ∷ ys → ⊥
first-apart a b xs ys other h = eqb-false a b other (first-same a b xs ys h)

pub avoids-parts : (c b : ℕ) (bs : List ℕ) → avoids c (b ∷ bs) ≡ true → (b ≢ c) × (avoids c bs ≡ true)
avoids-parts c b bs = elim (eqb b c) as (λ t. eqb b c ≡ t → cond t false (avoids c bs) ≡ true → (b ≢ c) × (avoids c bs ≡ true)) [
  | true ↦ λ e h. cc
  | false ↦ λ e h. (eqb-false b c e, h)
] refl

pub avoids-cons : (c b : ℕ) (bs : List ℕ) → b ≢ c → avoids c bs ≡ true → avoids c (b ∷ bs) ≡ true
avoids-cons c b bs other rest = elim (eqb b c) as (λ t. eqb b c ≡ t → cond t false (avoids c bs) ≡ true) [
  | true ↦ λ e. absurd (other (eqb-true b c e))
  | false ↦ λ e. rest
] refl

pub avoids-append : (c : ℕ) (xs ys : List ℕ) → avoids c xs ≡ true → avoids c ys ≡ true → avoids c (xs ++ ys) ≡ true
avoids-append c [] ys h g = g
avoids-append c (x ∷ xs) ys h g =
    let parts = avoids-parts c x xs h in
    avoids-cons c x (xs ++ ys) parts.0 (avoids-append c xs ys parts.1 g)

pub split-same : (c : ℕ) (xs ys us vs : List ℕ) → avoids c xs ≡ true → avoids c ys ≡ true → xs ++ c ∷ us ≡ ys ++ c ∷ vs
    → (xs ≡ ys) × (us ≡ vs)
split-same c [] [] us vs a b h = (refl, rest-same c c us vs h)
split-same c [] (y ∷ ys) us vs a b h = absurd ((avoids-parts c y ys b).0 (sym (first-same c y us (ys ++ c ∷ vs) h)))
split-same c (x ∷ xs) [] us vs a b h = absurd ((avoids-parts c x xs a).0 (first-same x c (xs ++ c ∷ us) vs h))
split-same c (x ∷ xs) (y ∷ ys) us vs a b h =
    let more =
    split-same c xs ys us vs (avoids-parts c x xs a).1 (avoids-parts c y ys b).1 (rest-same x y (xs ++ c ∷ us) (ys ++ c ∷ vs) h) in
    let first : x ≡ y = first-same x y (xs ++ c ∷ us) (ys ++ c ∷ vs) h in
    (ap₂ (λ (z : ℕ) (zs : List ℕ). z ∷ zs) first more.0, more.1)

-- the byte is no digit
abbrev pub IsNoDigit : ℕ → Type 0
IsNoDigit c = (d : ℕ) → d < 10 → 48 + d ≢ c

wide : (n : ℕ) → n < 1000 → n < 2 ^ 64
wide n h = omega arith

pub avoids-decimal : (c n : ℕ) → IsNoDigit c → n < 1000 → avoids c (decimal n) ≡ true
avoids-decimal c n none h =
    decimal_by_steps (λ (m : ℕ) (ds : List ℕ). avoids c ds ≡ true)
    (λ m l. avoids-cons c (48 + m) [] (none m l) refl)
    (λ m ds l before. avoids-append c ds ((48 + m % 10) ∷ []) before (avoids-cons c (48 + m % 10) [] (none (m % 10) (omega arith)) refl))
    n (wide n h)

pub decimal-same : (c m n : ℕ) (us vs : List ℕ) → IsNoDigit c → m < 1000 → n < 1000 → decimal m ++ c ∷ us ≡ decimal n ++ c ∷ vs
    → (m ≡ n) × (us ≡ vs)
decimal-same c m n us vs none h g same =
    let parts = split-same c (decimal m) (decimal n) us vs (avoids-decimal c m none h) (avoids-decimal c n none g) same in
    (decimal_injective m n (wide m h) (wide n g) parts.0, parts.1)
