-- A number below 1000 is read from its decimal digits, and from no other text.
use Rattle.std.proofs.Common.{◌≡◌, ◌<◌, ◌≤◌, ◌+◌, ◌-◌, ◌*◌, ◌/◌, ◌%◌, ℕ, true, false, cond, ◌&&◌, List, [], ◌∷◌, decimal, refl, ap, sym}
use Rattle.std.proofs.Common.{◌∙◌, arith}
use Rattle.std.specs.Prelude.{nat_le, nat_lt, Option, Some, None, IfSome, IfNone}
use Rattle.std.proofs.lemmas.Bool.{leb-true, le-leb, and_parts}
use Rattle.std.proofs.lemmas.Fmt.{decimal_digit, decimal_step}
use native.Mathlib.Decide.{dec_lt}
use Rattle.answer_text.specs.Numbers.{is_digit, number_of}
use Rattle.answer_text.proofs.Splits.{IsNoDigit}

digit-is : (d : ℕ) → d < 10 → is_digit (48 + d) ≡ true
digit-is d h = rw (le-leb 48 (48 + d) (omega arith), le-leb (48 + d) 57 (omega arith)) refl

pub is_digit_within : (b : ℕ) → is_digit b ≡ true → (48 ≤ b) × (b ≤ 57)
is_digit_within b h = let parts = and_parts (nat_le 48 b) (nat_le b 57) h in (leb-true 48 b parts.0, leb-true b 57 parts.1)

pub IsNoDigit-is_digit : (c : ℕ) → is_digit c ≡ false → IsNoDigit c
IsNoDigit-is_digit c h d l e = let bad : true ≡ false = sym (digit-is d l) ∙ ap (λ (x : ℕ). is_digit x) e ∙ h in cc

one : (x : ℕ) → x < 10 → number_of ((48 + x) ∷ []) ≡ Some x
one x h = rw (digit-is x h) (ap (λ (y : ℕ). Some y) (omega arith))

two : (x y : ℕ) → 1 ≤ x → x < 10 → y < 10 → number_of ((48 + x) ∷ (48 + y) ∷ []) ≡ Some (10 * x + y)
two x y some h g =
    let first : nat_lt 48 (48 + x) ≡ true = le-leb 49 (48 + x) (omega arith) in
    rw (first, digit-is x h, digit-is y g) (ap (λ (z : ℕ). Some z) (omega arith))

three : (x y z : ℕ) → 1 ≤ x → x < 10 → y < 10 → z < 10 → number_of ((48 + x) ∷ (48 + y) ∷ (48 + z) ∷ []) ≡ Some (100 * x + (10 * y + z))
three x y z some h g k =
    let first : nat_lt 48 (48 + x) ≡ true = le-leb 49 (48 + x) (omega arith) in
    rw (first, digit-is x h, digit-is y g, digit-is z k) (ap (λ (w : ℕ). Some w) (omega arith))

decimal-two : (x y : ℕ) → 1 ≤ x → x < 10 → y < 10 → decimal (10 * x + y) ≡ (48 + x) ∷ (48 + y) ∷ []
decimal-two x y some h g =
    let high : (10 * x + y) / 10 ≡ x = omega arith in
    let low : (10 * x + y) % 10 ≡ y = omega arith in
    rw (decimal_step (10 * x + y) (omega arith) (omega arith), high, low, decimal_digit x h) refl

decimal-three : (x y z : ℕ) → 1 ≤ x → x < 10 → y < 10 → z < 10 → decimal (100 * x + (10 * y + z)) ≡ (48 + x) ∷ (48 + y) ∷ (48 + z) ∷ []
decimal-three x y z some h g k =
    let high : (100 * x + (10 * y + z)) / 10 ≡ 10 * x + y = omega arith in
    let low : (100 * x + (10 * y + z)) % 10 ≡ z = omega arith in
    rw (decimal_step (100 * x + (10 * y + z)) (omega arith) (omega arith), high, low, decimal-two x y some h g) refl

pub number_of_decimal : (n : ℕ) → n < 1000 → number_of (decimal n) ≡ Some n
number_of_decimal n h = elim (dec_lt n 10) [
  | yes small ↦ ap (λ (t : List ℕ). number_of t) (decimal_digit n small) ∙ one n small
  | no more ↦ elim (dec_lt n 100) [
    | yes middle ↦
        let same : 10 * (n / 10) + n % 10 ≡ n = omega arith in
        ap (λ (m : ℕ). number_of (decimal m)) (sym same)
        ∙ ap (λ (t : List ℕ). number_of t) (decimal-two (n / 10) (n % 10) (omega arith) (omega arith) (omega arith))
        ∙ two (n / 10) (n % 10) (omega arith) (omega arith) (omega arith) ∙ ap (λ (m : ℕ). Some m) same
    | no large ↦
        let same : 100 * (n / 100) + (10 * (n / 10 % 10) + n % 10) ≡ n = omega arith in
        ap (λ (m : ℕ). number_of (decimal m)) (sym same)
        ∙ ap (λ (t : List ℕ). number_of t)
        (decimal-three (n / 100) (n / 10 % 10) (n % 10) (omega arith) (omega arith) (omega arith) (omega arith))
        ∙ three (n / 100) (n / 10 % 10) (n % 10) (omega arith) (omega arith) (omega arith) (omega arith) ∙ ap (λ (m : ℕ). Some m) same
  ]
]

abbrev value_or : Option ℕ → ℕ
value_or None = 0
value_or (Some n) = n

-- these are the digits of the number
abbrev IsText : List ℕ → ℕ → Type 0
IsText t n = (n < 1000) × (t ≡ decimal n)

pub number_of_is : (t : List ℕ) (n : ℕ) → number_of t ≡ Some n → IsText t n
number_of_is [] n = λ h. cc
number_of_is (c ∷ []) n = elim (is_digit c) as (λ t. is_digit c ≡ t → cond t (Some (c - 48)) None ≡ Some n → IsText (c ∷ []) n) [
  | false ↦ λ e h. cc
  | true ↦ λ e h.
      let within = is_digit_within c e in
      let low : 48 ≤ c = within.0 in
      let high : c ≤ 57 = within.1 in
      let value : c - 48 ≡ n = ap value_or h in
      let byte : c ≡ 48 + n = omega arith in
      (omega arith, ap (λ (x : ℕ). x ∷ []) byte ∙ sym (decimal_digit n (omega arith)))
] refl
number_of_is (b ∷ c ∷ []) n = elim (nat_lt 48 b && (is_digit b && is_digit c)) as
    (λ t. (nat_lt 48 b && (is_digit b && is_digit c)) ≡ t → cond t (Some (10 * (b - 48) + (c - 48))) None ≡ Some n
    → IsText (b ∷ c ∷ []) n) [
      | false ↦ λ e h. cc
      | true ↦ λ e h.
          let parts = and_parts (nat_lt 48 b) (is_digit b && is_digit c) e in
          let digits = and_parts (is_digit b) (is_digit c) parts.1 in
          let some : 49 ≤ b = leb-true 49 b parts.0 in
          let first = is_digit_within b digits.0 in
          let second = is_digit_within c digits.1 in
          let high : b ≤ 57 = first.1 in
          let low : 48 ≤ c = second.0 in
          let top : c ≤ 57 = second.1 in
          let value : 10 * (b - 48) + (c - 48) ≡ n = ap value_or h in
          let byte : b ≡ 48 + (b - 48) = omega arith in
          let last : c ≡ 48 + (c - 48) = omega arith in (
            omega arith,
            ap (λ (x : ℕ). x ∷ c ∷ []) byte ∙ ap (λ (x : ℕ). (48 + (b - 48)) ∷ x ∷ []) last
                ∙ sym (decimal-two (b - 48) (c - 48) (omega arith) (omega arith) (omega arith)) ∙ ap (λ (x : ℕ). decimal x) value,
          )
    ] refl
number_of_is (a ∷ b ∷ c ∷ []) n = elim (nat_lt 48 a && (is_digit a && (is_digit b && is_digit c))) as
    (λ t. (nat_lt 48 a && (is_digit a && (is_digit b && is_digit c))) ≡ t
    → cond t (Some (100 * (a - 48) + (10 * (b - 48) + (c - 48)))) None ≡ Some n → IsText (a ∷ b ∷ c ∷ []) n) [
      | false ↦ λ e h. cc
      | true ↦ λ e h.
          let parts = and_parts (nat_lt 48 a) (is_digit a && (is_digit b && is_digit c)) e in
          let digits = and_parts (is_digit a) (is_digit b && is_digit c) parts.1 in
          let others = and_parts (is_digit b) (is_digit c) digits.1 in
          let some : 49 ≤ a = leb-true 49 a parts.0 in
          let first = is_digit_within a digits.0 in
          let second = is_digit_within b others.0 in
          let third = is_digit_within c others.1 in
          let high : a ≤ 57 = first.1 in
          let low : 48 ≤ b = second.0 in
          let top : b ≤ 57 = second.1 in
          let least : 48 ≤ c = third.0 in
          let most : c ≤ 57 = third.1 in
          let value : 100 * (a - 48) + (10 * (b - 48) + (c - 48)) ≡ n = ap value_or h in
          let byte : a ≡ 48 + (a - 48) = omega arith in
          let middle : b ≡ 48 + (b - 48) = omega arith in
          let last : c ≡ 48 + (c - 48) = omega arith in (
            omega arith,
            ap (λ (x : ℕ). x ∷ b ∷ c ∷ []) byte
                ∙ ap (λ (x : ℕ). (48 + (a - 48)) ∷ x ∷ c ∷ []) middle ∙ ap (λ (x : ℕ). (48 + (a - 48)) ∷ (48 + (b - 48)) ∷ x ∷ []) last
                ∙ sym (decimal-three (a - 48) (b - 48) (c - 48) (omega arith) (omega arith) (omega arith) (omega arith))
                ∙ ap (λ (x : ℕ). decimal x) value,
          )
    ] refl
number_of_is (a ∷ b ∷ c ∷ d ∷ more) n = λ h. cc

pub number-some : (t : List ℕ) (o : Option ℕ) → o ≡ number_of t → IfSome o (λ n. (n < 1000) × (t ≡ decimal n))
number-some t None h = tt
number-some t (Some n) h = number_of_is t n (sym h)

pub number-none : (t : List ℕ) (o : Option ℕ) → o ≡ number_of t → IfNone o ((n : ℕ) → n < 1000 → ¬ (t ≡ decimal n))
number-none t None h = λ n l e. let bad : None ≡ Some n = h ∙ ap (λ (x : List ℕ). number_of x) e ∙ number_of_decimal n l in cc
number-none t (Some n) h = tt
