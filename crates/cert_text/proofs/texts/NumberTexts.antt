-- Decimal numbers are told apart by what no digit follows, and so are lists of them.
use Rattle.std.proofs.Common.{◌≡◌, ◌<◌, ◌+◌, ◌%◌, ◌/◌, ℕ, zero, suc, Bool, true, false, List, [], ◌∷◌, ◌++◌, drop, decimal, refl, ap, ap₂}
use Rattle.std.proofs.Common.{sym, subst, ◌∙◌, arith}
use Rattle.std.specs.Prelude.{◌==◌, if◌then◌else◌}
use Rattle.std.proofs.lemmas.Bool.{le-leb, lt-ltb}
use Rattle.std.proofs.lemmas.Fmt.{decimal_injective}
use Rattle.std.specs.Fmt.{digits, digits_onto, digit_glyph}
use Rattle.pq_base.specs.Table.{AllBelow}
use Rattle.answer_text.proofs.Splits.{first-same, rest-same, avoids, avoids-append, avoids-cons}
pub use Rattle.cert_text.specs.NumberFronts.{is_no_digit, AllFail, StartsWell}
use Rattle.cert_text.specs.CertificateText.{numbers_text}

-- a list is cut in one way in front of a member that passes a test, where those before it fail the test
module _ {X : Type 0} (test : X → Bool) where
  no_start : (y : X) (ys us : List X) → test y ≡ false → StartsWell test us → us ≡ y ∷ ys → ⊥
  no_start y ys us fails starts e = let bad : true ≡ false = sym (subst (StartsWell test) e starts) ∙ fails in cc

  pub cut-same : (xs ys us vs : List X) → AllFail test xs → AllFail test ys → StartsWell test us → StartsWell test vs → xs ++ us ≡ ys ++ vs
      → (xs ≡ ys) × (us ≡ vs)
  cut-same [] [] us vs a b s t e = (refl, e)
  cut-same [] (y ∷ ys) us vs a b s t e = absurd (no_start y (ys ++ vs) us b.0 s e)
  cut-same (x ∷ xs) [] us vs a b s t e = absurd (no_start x (xs ++ us) vs a.0 t (sym e))
  cut-same (x ∷ xs) (y ∷ ys) us vs a b s t e =
      let more = cut-same xs ys us vs a.1 b.1 s t (rest-same x y (xs ++ us) (ys ++ vs) e) in
      (ap₂ (λ (z : X) (zs : List X). z ∷ zs) (first-same x y (xs ++ us) (ys ++ vs) e) more.0, more.1)

digit : (d : ℕ) → d < 10 → is_no_digit (48 + d) ≡ false
digit d h = rw (le-leb 48 (48 + d) (omega arith), le-leb (48 + d) 57 (omega arith)) refl

glyph : (n : ℕ) → is_no_digit (digit_glyph false (n % 10)) ≡ false
glyph n = rw (lt-ltb (n % 10) 10 (omega arith)) (digit (n % 10) (omega arith))

all_digits : (k n : ℕ) (more : List ℕ) → AllFail is_no_digit more → AllFail is_no_digit (digits_onto k 10 false n more)
all_digits zero n more h = h
all_digits (suc k) n more h =
    let g : ℕ = digit_glyph false (n % 10) in
    elim (n / 10 == 0) as (λ (b : Bool). AllFail is_no_digit (if b then g ∷ more else digits_onto k 10 false (n / 10) (g ∷ more))) [
      | true ↦ (glyph n, h)
      | false ↦ all_digits k (n / 10) (g ∷ more) (glyph n, h)
    ]

-- whatever the number
pub AllFail-decimal : (n : ℕ) → AllFail is_no_digit (decimal n)
unfolding digits
AllFail-decimal n = all_digits 64 n [] tt

avoids-digits : (c : ℕ) (ds : List ℕ) → is_no_digit c ≡ true → AllFail is_no_digit ds → avoids c ds ≡ true
avoids-digits c [] none h = refl
avoids-digits c (d ∷ ds) none h =
    avoids-cons c d ds (λ e. let bad : true ≡ false = sym none ∙ ap is_no_digit (sym e) ∙ h.0 in cc) (avoids-digits c ds none h.1)

pub avoids-any_decimal : (c n : ℕ) → is_no_digit c ≡ true → avoids c (decimal n) ≡ true
avoids-any_decimal c n none = avoids-digits c (decimal n) none (AllFail-decimal n)

-- numbers that a text holds
abbrev pub greatest : ℕ
greatest = 65536

-- a number is told by its digits where none follows
pub decimal-told : (m n : ℕ) (us vs : List ℕ) → m < greatest → n < greatest → StartsWell is_no_digit us → StartsWell is_no_digit vs
    → decimal m ++ us ≡ decimal n ++ vs → (m ≡ n) × (us ≡ vs)
decimal-told m n us vs a b s t e =
    let parts = cut-same is_no_digit (decimal m) (decimal n) us vs (AllFail-decimal m) (AllFail-decimal n) s t e in
    (decimal_injective m n (omega arith) (omega arith) parts.0, parts.1)

-- where one text has a number in front and the other has none
pub no-number : (n : ℕ) (us vs : List ℕ) → StartsWell is_no_digit us → StartsWell is_no_digit vs → us ≡ decimal n ++ vs → us ≡ vs
no-number n us vs s t e = (cut-same is_no_digit [] (decimal n) us vs tt (AllFail-decimal n) s t e).1

pub numbers-start : (ns : List ℕ) → StartsWell is_no_digit (numbers_text ns)
numbers-start [] = tt
numbers-start (n ∷ ns) = refl

pub numbers_text-same : (ms ns : List ℕ) → AllBelow greatest ms → AllBelow greatest ns → numbers_text ms ≡ numbers_text ns → ms ≡ ns
numbers_text-same [] [] a b e = refl
numbers_text-same [] (n ∷ ns) a b e = cc
numbers_text-same (m ∷ ms) [] a b e = cc
numbers_text-same (m ∷ ms) (n ∷ ns) a b e =
    let parts = decimal-told m n (numbers_text ms) (numbers_text ns) a.0 b.0 (numbers-start ms) (numbers-start ns)
    (ap (λ (t : List ℕ). drop 1 t) e) in
    ap₂ (λ (x : ℕ) (xs : List ℕ). x ∷ xs) parts.0 (numbers_text-same ms ns a.1 b.1 parts.1)

pub avoids-numbers : (ns : List ℕ) → avoids 10 (numbers_text ns) ≡ true
avoids-numbers [] = refl
avoids-numbers (n ∷ ns) = avoids-append 10 (decimal n) (numbers_text ns) (avoids-any_decimal 10 n refl) (avoids-numbers ns)
