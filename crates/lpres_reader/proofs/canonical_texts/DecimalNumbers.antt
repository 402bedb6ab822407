-- A number in decimal digits is the text of a number, and means that number.
use Rattle.std.proofs.Common.{◌≡◌, ◌<◌, ◌+◌, ◌%◌, ◌^◌, ℕ, true, List, [], ◌∷◌, ◌++◌, decimal, refl, ◌∙◌, arith}
use Rattle.std.specs.Char.{is_ascii_digit, digit_value}
use Rattle.std.specs.List.{list_all}
use Rattle.std.specs.Str.Parse.{digits_value}
use Rattle.std.proofs.lemmas.Bool.{and_parts, and_from}
use Rattle.std.proofs.lemmas.Bool.Decides.{nat_tests}
use Rattle.std.proofs.lemmas.Fmt.{decimal_by_steps}
use Rattle.std.proofs.lemmas.Int.Digits.{digits_value_push}
use Rattle.std.proofs.lemmas.List.Folds.{list_all-append}
use Rattle.lpres_reader.specs.Tokens.{is_number_text, IsNumberText}

digit_is_digit : (n : ℕ) → n < 10 → is_ascii_digit (48 + n) ≡ true
digit_is_digit n h = grind (arith, nat_tests)

digit_value-is : (n : ℕ) → n < 10 → digit_value (48 + n) ≡ n
digit_value-is n h = grind (arith, nat_tests)

number_text-push : (ds : List ℕ) (b : ℕ) → is_number_text ds ≡ true → is_ascii_digit b ≡ true → is_number_text (ds ++ b ∷ []) ≡ true
number_text-push [] b h d = and_from (is_ascii_digit b) true d refl
number_text-push (c ∷ ds) b h d =
    let parts = and_parts (is_ascii_digit c) (list_all is_ascii_digit ds) h in
    and_from (is_ascii_digit c) _ parts.0
    (list_all-append is_ascii_digit ds (b ∷ []) ∙ and_from (list_all is_ascii_digit ds) _ parts.1 (and_from (is_ascii_digit b) true d refl))

pub IsNumberText-decimal : (n : ℕ) → n < 2 ^ 64 → IsNumberText (decimal n)
IsNumberText-decimal n h =
    decimal_by_steps (λ (m : ℕ) (ds : List ℕ). is_number_text ds ≡ true)
    (λ m l. and_from (is_ascii_digit (48 + m)) true (digit_is_digit m l) refl)
    (λ m ds l before. number_text-push ds (48 + m % 10) before (digit_is_digit (m % 10) (omega arith)))
    n h

pub digits_value-decimal : (n : ℕ) → n < 2 ^ 64 → digits_value 10 (decimal n) ≡ n
digits_value-decimal n h =
    decimal_by_steps (λ (m : ℕ) (ds : List ℕ). digits_value 10 ds ≡ m)
    (λ m l. omega (arith, digit_value-is m l))
    (λ m ds l before.
    let last : digit_value (48 + m % 10) ≡ m % 10 = digit_value-is (m % 10) (omega arith) in
    digits_value_push 10 ds (48 + m % 10) ∙ omega arith)
    n h
