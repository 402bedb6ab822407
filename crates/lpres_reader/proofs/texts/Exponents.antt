-- The size of a written exponent that is told is found digit by digit, and never passes the greatest that is told.
use Rattle.std.proofs.Common.{◌≡◌, ◌≤◌, ◌<◌, ◌+◌, ◌*◌, ℕ, suc, drop, get_or, length, List, [], ◌∷◌, ap, sym, ◌∙◌, drop-cons, arith}
use Rattle.std.proofs.lemmas.List.{drop_all}
use Rattle.std.specs.Char.{digit_value}
use Rattle.std.specs.Str.Parse.{digits_value_after}
use Rattle.lpres_reader.specs.Values.{told}

-- what is told of a number goes on as the number does
told_digit : (n d : ℕ) → told (told n * 10 + d) ≡ told (n * 10 + d)
told_digit n d = omega arith

pub told_after : (n : ℕ) (digits : List ℕ) → told (digits_value_after 10 (told n) digits) ≡ told (digits_value_after 10 n digits)
told_after n [] = omega arith
told_after n (d ∷ digits) =
    sym (told_after (told n * 10 + digit_value d) digits)
    ∙ ap (λ (m : ℕ). told (digits_value_after 10 m digits)) (told_digit n (digit_value d))
    ∙ told_after (n * 10 + digit_value d) digits

pub told_next : (n d m : ℕ) → m ≡ told (n * 10 + digit_value d) → m ≤ 999999999999999999
told_next n d m e = omega arith

pub told_on : (n : ℕ) (digits : List ℕ) (i m : ℕ) → i < length digits → m ≡ told (n * 10 + digit_value (get_or digits i 0))
    → told (digits_value_after 10 m (drop (i + 1) digits)) ≡ told (digits_value_after 10 n (drop i digits))
told_on n digits i m lt e =
    let here : drop i digits ≡ get_or digits i 0 ∷ drop (suc i) digits = drop-cons digits i 0 lt in
    let one : suc i ≡ i + 1 = omega arith in
    ap (λ (k : ℕ). told (digits_value_after 10 k (drop (i + 1) digits))) e
    ∙ told_after (n * 10 + digit_value (get_or digits i 0)) (drop (i + 1) digits)
    ∙ ap (λ (k : ℕ). told (digits_value_after 10 (n * 10 + digit_value (get_or digits i 0)) (drop k digits))) (sym one)
    ∙ ap (λ (l : List ℕ). told (digits_value_after 10 n l)) (sym here)

pub told_end : (n : ℕ) (digits : List ℕ) (i : ℕ) → length digits ≤ i → n ≤ 999999999999999999
    → n ≡ told (digits_value_after 10 n (drop i digits))
told_end n digits i end small =
    let none : drop i digits ≡ [] = drop_all i digits end in
    let same : n ≡ told n = omega arith in
    same ∙ ap (λ (l : List ℕ). told (digits_value_after 10 n l)) (sym none)
