-- Tokens: names, numbers and symbols, as they stand in a line. A name and a number go as far as they can, and blanks
-- may stand between tokens.
use Rattle.std.specs.Prelude.{◌≡◌, ℕ, Bool, true, false, ◌&&◌, IsTrue, List, [], ◌∷◌, ◌++◌, codes}
use Rattle.std.specs.List.{list_all}
use Rattle.std.specs.Char.{is_ascii_digit}
use Rattle.pq_base.specs.Name.{is_name_byte, IsNameText}
use Rattle.lpres_reader.specs.declared.token.Symbol.{Symbol}
use Rattle.lpres_reader.specs.declared.token.Symbol.TheVariants.{Arrow, Star, Caret, Minus, Equals, Comma, OpenRound, CloseRound}
use Rattle.lpres_reader.specs.declared.token.Symbol.TheVariants.{OpenSquare, CloseSquare}
use Rattle.lpres_reader.specs.Lines.{is_blank}

-- the bytes of a symbol
abbrev pub symbol_bytes : Symbol → List ℕ
symbol_bytes Arrow = codes "->"
symbol_bytes Star = codes "*"
symbol_bytes Caret = codes "^"
symbol_bytes Minus = codes "-"
symbol_bytes Equals = codes "="
symbol_bytes Comma = codes ","
symbol_bytes OpenRound = codes "("
symbol_bytes CloseRound = codes ")"
symbol_bytes OpenSquare = codes "["
symbol_bytes CloseSquare = codes "]"

-- a name and a number are their bytes
pub data Token : Type 0 where
  name : List ℕ → Token
  number : List ℕ → Token
  symbol : Symbol → Token

-- one digit or more
abbrev pub is_number_text : List ℕ → Bool
is_number_text [] = false
is_number_text (b ∷ bytes) = is_ascii_digit b && list_all is_ascii_digit bytes

abbrev pub IsNumberText : List ℕ → Type 0
IsNumberText bytes = IsTrue (is_number_text bytes)

-- the bytes do not begin with one that passes the test
abbrev pub StopsBefore : (ℕ → Bool) → List ℕ → Type 0
StopsBefore test [] = Unit {0}
StopsBefore test (b ∷ bytes) = test b ≡ false

-- the line is these tokens
pub data ReadsTokens : List ℕ → List Token → Type 0 where
  no_more : ReadsTokens [] []
  blank_first : {line : List ℕ} {ts : List Token} (b : ℕ) (rest : List ℕ)
      → line ≡ b ∷ rest → is_blank b ≡ true → ReadsTokens rest ts → ReadsTokens line ts
  name_first : {line : List ℕ} {ts : List Token} (text rest : List ℕ)
      → line ≡ text ++ rest → IsNameText text → StopsBefore is_name_byte rest → ReadsTokens rest ts → ReadsTokens line (name text ∷ ts)
  number_first : {line : List ℕ} {ts : List Token} (text rest : List ℕ)
      → line ≡ text ++ rest → IsNumberText text → StopsBefore is_ascii_digit rest → ReadsTokens rest ts
      → ReadsTokens line (number text ∷ ts)
  symbol_first : {line : List ℕ} {ts : List Token} (s : Symbol) (rest : List ℕ)
      → line ≡ symbol_bytes s ++ rest → ReadsTokens rest ts → ReadsTokens line (symbol s ∷ ts)

-- the first token of the line is this name, whatever follows: the name does not go on behind the token's bytes
pub record BeginsWithName (n line : List ℕ) : Type 0 where
  pub front : List ℕ
  pub rest : List ℕ
  pub is : line ≡ front ++ rest
  pub token : ReadsTokens front (name n ∷ [])
  pub stops : StopsBefore is_name_byte rest
