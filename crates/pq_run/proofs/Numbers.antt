-- A text in canonical digits is parsed to the number whose digits it is, and no other text is.
use Rattle.std.proofs.Common.{◌≡◌, ◌^◌, ◌<◌, ℕ, zero, suc, List, [], ◌∷◌, get_or, decimal, refl, sym, ap, ◌∙◌, subst, arith, Result, Ok}
use Rattle.std.proofs.Common.{Err}
use Rattle.std.specs.Str.Parse.{ParsesUnsigned, IsNumeral, digits_value, without_leading_plus}
use Rattle.std.specs.Result.{OkIff}
use Rattle.std.proofs.lemmas.Str.Parse.{without_leading_plus_none, numerals_by_value, tells_digits}
use Rattle.std.proofs.lemmas.Fmt.{parse-decimal, decimal-digits_value, first_decimal, decimal_digit, decimal_injective}
use Rattle.pq_run.specs.Number.{BeginsCanonically}

pub canonical_parsed : {E : Type 0} (text : List ℕ) (n : ℕ) (r : Result ℕ E) → BeginsCanonically text → r ≡ Ok n
    → ParsesUnsigned 32 10 text r → text ≡ decimal n
canonical_parsed {E} text n r begins is parsed =
    let at_ok : ParsesUnsigned {E = E} 32 10 text (Ok n) = rw is at parsed in
    let plain : without_leading_plus text ≡ text = without_leading_plus_none text begins.no_sign in
    let here = subst (λ (t : List ℕ). OkIff {T = ℕ} {E = E} (Ok n) (IsNumeral 10 t × (digits_value 10 t < 2 ^ 32)) (digits_value 10 t))
    plain at_ok in
    let spelled : decimal (digits_value 10 text) ≡ text =
    decimal-digits_value (numerals_by_value _ tells_digits) text here.0.0.1 here.0.0.0 begins.no_zero (omega (arith, here.0.1)) in
    sym (ap decimal here.1 ∙ spelled)

begins_at_zero : BeginsCanonically (48 ∷ [])
begins_at_zero = record { no_sign = λ e. omega arith; no_zero = λ e. refl }

pub begins-decimal : (n : ℕ) → n < 2 ^ 32 → BeginsCanonically (decimal n)
begins-decimal zero small = subst BeginsCanonically (sym (decimal_digit 0 (omega arith))) begins_at_zero
begins-decimal (suc n) small =
    let first : 48 < get_or (decimal (suc n)) 0 0 = first_decimal (suc n) (omega arith) (omega arith) in
    record { no_sign = λ e. omega arith; no_zero = λ e. absurd (omega arith) }

pub canonical_refused : {E : Type 0} (text : List ℕ) (r : Result ℕ E) (e : E) → r ≡ Err e → ParsesUnsigned 32 10 text r → (n : ℕ)
    → n < 2 ^ 32 → text ≡ decimal n → ⊥
canonical_refused {E} text r e is parsed n small spelled =
    let ok : r ≡ Ok n = parse-decimal 32 n text r small (omega arith) spelled parsed in
    absurd (differ (sym is ∙ ok))
  where
    differ : Err e ≡ Ok n → ⊥
    differ h = cc

pub same_number : (text : List ℕ) (m n : ℕ) → m < 2 ^ 32 → n < 2 ^ 32 → text ≡ decimal n → text ≡ decimal m → m ≡ n
same_number text m n small_m small_n at_n at_m = decimal_injective m n (omega arith) (omega arith) (sym at_m ∙ at_n)
