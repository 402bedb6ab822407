-- A line of tokens without opening brackets has neither an opening bracket nor a newline byte in it, so it is shallow and
-- stays one line.
use Rattle.std.proofs.Common.{◌≡◌, ℕ, zero, suc, Bool, true, false, cond, not, ◌||◌, List, [], ◌∷◌, ◌++◌, take, All, refl, ap, ◌∙◌, arith}
use Rattle.std.specs.Prelude.{count_by, ◌==◌}
use Rattle.std.specs.Char.{is_ascii_digit}
use Rattle.std.specs.List.{list_all}
use Rattle.std.proofs.lemmas.Bool.{and_parts, and_from, or_left, cond-false}
use Rattle.std.proofs.lemmas.Bool.Decides.{nat_tests}
use Rattle.std.proofs.lemmas.List.Elements.{All-nil, All-cons}
use Rattle.std.proofs.lemmas.List.Folds.{list_all-append}
use Rattle.std.proofs.lemmas.List.Sums.{sum_by-cons}
use Rattle.pq_base.specs.Name.{is_letter, is_name_byte, IsNameText}
use Rattle.lpres_reader.specs.declared.token.Symbol.{Symbol}
use Rattle.lpres_reader.specs.declared.token.Symbol.TheVariants.{Arrow, Star, Caret, Minus, Equals, Comma, OpenRound, CloseRound}
use Rattle.lpres_reader.specs.declared.token.Symbol.TheVariants.{OpenSquare, CloseSquare}
use Rattle.lpres_reader.specs.Lines.{is_blank, is_opening, IsShallow}
use Rattle.lpres_reader.specs.Tokens.{Token, name, number, symbol, symbol_bytes, IsNumberText, ReadsTokens, no_more, blank_first}
use Rattle.lpres_reader.specs.Tokens.{name_first, number_first, symbol_first}

-- neither a newline nor an opening bracket
abbrev pub is_plain : ℕ → Bool
is_plain b = not (b == 10 || is_opening b)

abbrev is_plain_symbol : Symbol → Bool
is_plain_symbol Arrow = true
is_plain_symbol Star = true
is_plain_symbol Caret = true
is_plain_symbol Minus = true
is_plain_symbol Equals = true
is_plain_symbol Comma = true
is_plain_symbol OpenRound = false
is_plain_symbol CloseRound = true
is_plain_symbol OpenSquare = false
is_plain_symbol CloseSquare = true

-- no opening bracket
abbrev pub is_plain_token : Token → Bool
is_plain_token (name n) = true
is_plain_token (number n) = true
is_plain_token (symbol s) = is_plain_symbol s

plain_blank : (b : ℕ) → is_blank b ≡ true → is_plain b ≡ true
plain_blank b e = grind (arith, nat_tests)

plain_name_byte : (b : ℕ) → is_name_byte b ≡ true → is_plain b ≡ true
plain_name_byte b e = grind (arith, nat_tests)

plain_digit : (b : ℕ) → is_ascii_digit b ≡ true → is_plain b ≡ true
plain_digit b e = grind (arith, nat_tests)

plain_run : (test : ℕ → Bool) → ((b : ℕ) → test b ≡ true → is_plain b ≡ true) → (bytes : List ℕ) → list_all test bytes ≡ true
    → list_all is_plain bytes ≡ true
plain_run test plain [] h = refl
plain_run test plain (b ∷ bytes) h =
    let parts = and_parts (test b) (list_all test bytes) h in
    and_from (is_plain b) _ (plain b parts.0) (plain_run test plain bytes parts.1)

plain_name : (text : List ℕ) → IsNameText text → list_all is_plain text ≡ true
plain_name [] h = refl
plain_name (b ∷ text) h =
    let parts = and_parts (is_letter b) (list_all is_name_byte text) h in
    plain_run is_name_byte plain_name_byte (b ∷ text) (and_from (is_name_byte b) _ (or_left (is_letter b) _ parts.0) parts.1)

plain_number : (text : List ℕ) → IsNumberText text → list_all is_plain text ≡ true
plain_number [] h = refl
plain_number (b ∷ text) h = plain_run is_ascii_digit plain_digit (b ∷ text) h

plain_symbol : (s : Symbol) → is_plain_symbol s ≡ true → list_all is_plain (symbol_bytes s) ≡ true
plain_symbol Arrow h = refl
plain_symbol Star h = refl
plain_symbol Caret h = refl
plain_symbol Minus h = refl
plain_symbol Equals h = refl
plain_symbol Comma h = refl
plain_symbol OpenRound h = absurd cc
plain_symbol CloseRound h = refl
plain_symbol OpenSquare h = absurd cc
plain_symbol CloseSquare h = refl

-- a token and what is behind it
plain_parts : (text rest : List ℕ) → list_all is_plain text ≡ true → list_all is_plain rest ≡ true → list_all is_plain (text ++ rest) ≡ true
plain_parts text rest h g = list_all-append is_plain text rest ∙ and_from (list_all is_plain text) _ h g

pub line_is_plain : {line : List ℕ} {ts : List Token} → ReadsTokens line ts → list_all is_plain_token ts ≡ true
    → list_all is_plain line ≡ true
line_is_plain no_more h = refl
line_is_plain (blank_first b rest e blank d) h =
    ap (list_all is_plain) e ∙ and_from (is_plain b) _ (plain_blank b blank) (line_is_plain d h)
line_is_plain (name_first text rest e is stops d) h =
    ap (list_all is_plain) e ∙ plain_parts text rest (plain_name text is) (line_is_plain d h)
line_is_plain (number_first text rest e is stops d) h =
    ap (list_all is_plain) e ∙ plain_parts text rest (plain_number text is) (line_is_plain d h)
line_is_plain (symbol_first {ts = us} s rest e d) h =
    let parts = and_parts (is_plain_symbol s) (list_all is_plain_token us) h in
    ap (list_all is_plain) e ∙ plain_parts (symbol_bytes s) rest (plain_symbol s parts.0) (line_is_plain d parts.1)

plain_opens_nothing : (b : ℕ) → is_plain b ≡ true → is_opening b ≡ false
plain_opens_nothing b e = grind (arith, nat_tests)

plain_no_newline : (b : ℕ) → is_plain b ≡ true → (b == 10) ≡ false
plain_no_newline b e = grind (arith, nat_tests)

none_open : (n : ℕ) (line : List ℕ) → list_all is_plain line ≡ true → count_by is_opening (take n line) ≡ 0
none_open zero line h = refl
none_open (suc n) [] h = refl
none_open (suc n) (b ∷ line) h =
    let parts = and_parts (is_plain b) (list_all is_plain line) h in
    let one : cond {A = ℕ} (is_opening b) 1 0 ≡ 0 = cond-false {A = ℕ} (is_opening b) 1 0 (plain_opens_nothing b parts.0) in
    sum_by-cons (λ (x : ℕ). cond {A = ℕ} (is_opening x) 1 0) b (take n line) ∙ omega (arith, one, none_open n line parts.1)

pub plain_is_shallow : (line : List ℕ) → list_all is_plain line ≡ true → IsShallow line
plain_is_shallow line h n = let none = none_open n line h in omega arith

pub plain_is_one_line : (line : List ℕ) → list_all is_plain line ≡ true → All (λ b. (b == 10) ≡ false) line
plain_is_one_line [] h = All-nil (λ b. (b == 10) ≡ false)
plain_is_one_line (b ∷ line) h =
    let parts = and_parts (is_plain b) (list_all is_plain line) h in
    All-cons (λ b. (b == 10) ≡ false) b line (plain_no_newline b parts.0) (plain_is_one_line line parts.1)
