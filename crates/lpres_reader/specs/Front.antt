-- What the reader finds at the front of a line, for its own functions: the text's meaning is in Reads.
use Rattle.std.specs.Prelude.{ℕ, List, [], ◌∷◌, ◌==◌, if◌then◌else◌, Bool, take, drop, Option, Some, None}
use Rattle.std.specs.List.{prefix_len}
use Rattle.std.specs.Char.{is_ascii_digit}
use Rattle.pq_base.specs.Name.{is_letter, is_name_byte}
use Rattle.lpres_reader.specs.declared.token.Symbol.{Symbol}
use Rattle.lpres_reader.specs.declared.token.Symbol.TheVariants.{Arrow, Star, Caret, Minus, Equals, Comma, OpenRound, CloseRound}
use Rattle.lpres_reader.specs.declared.token.Symbol.TheVariants.{OpenSquare, CloseSquare}
use Rattle.lpres_reader.specs.declared.token.Token as read
use Rattle.lpres_reader.specs.declared.token.Token.TheVariants as read_variants
use Rattle.lpres_reader.specs.Lines.{is_blank}
use Rattle.lpres_reader.specs.Tokens.{Token, name, number, symbol}

-- a token, seen as its bytes
abbrev pub token_of : read.Token → Token
token_of (read_variants.Name text) = name text.now
token_of (read_variants.Number text) = number text.now
token_of (read_variants.Symbol s) = symbol s

-- nothing but blanks, a token and what is after it, or bytes that begin no token
pub data Front : Type 0 where
  line_end : Front
  no_token : Front
  token_first : Token → List ℕ → Front

-- the symbols of one byte, but for the minus
abbrev pub symbols : List (ℕ × Symbol)
symbols =
    (42, Star) ∷ (94, Caret) ∷ (61, Equals) ∷ (44, Comma) ∷ (40, OpenRound) ∷ (41, CloseRound) ∷ (91, OpenSquare) ∷ (93, CloseSquare) ∷ []

abbrev pub symbol_among : List (ℕ × Symbol) → ℕ → Option Symbol
symbol_among [] b = None
symbol_among (s ∷ others) b = if b == s.0 then Some s.1 else symbol_among others b

abbrev pub symbol_of : ℕ → Option Symbol
symbol_of b = symbol_among symbols b

abbrev pub front_at_symbol : Option Symbol → List ℕ → Front
front_at_symbol None rest = no_token
front_at_symbol (Some s) rest = token_first (symbol s) rest

-- behind a minus, which may begin an arrow
abbrev pub front_at_minus : List ℕ → Front
front_at_minus [] = token_first (symbol Minus) []
front_at_minus (b ∷ rest) = if b == 62 then token_first (symbol Arrow) rest else token_first (symbol Minus) (b ∷ rest)

-- the token of all bytes at the front that pass the test
abbrev pub front_at_run : (List ℕ → Token) → (ℕ → Bool) → List ℕ → Front
front_at_run token test line = token_first (token (take (prefix_len test line) line)) (drop (prefix_len test line) line)

-- at the byte b, which is no blank, with the rest behind it
abbrev pub front_at : ℕ → List ℕ → Front
front_at b rest =
    if is_letter b then front_at_run name is_name_byte (b ∷ rest)
    else if is_ascii_digit b then front_at_run number is_ascii_digit (b ∷ rest)
    else if b == 45 then front_at_minus rest
    else front_at_symbol (symbol_of b) rest

abbrev pub front_of : List ℕ → Front
front_of [] = line_end
front_of (b ∷ rest) = if is_blank b then front_of rest else front_at b rest

-- a name comes first
abbrev pub IsNamed : Front → Type 0
IsNamed (token_first (name n) rest) = Unit {0}
IsNamed (token_first (number n) rest) = ⊥
IsNamed (token_first (symbol n) rest) = ⊥
IsNamed no_token = ⊥
IsNamed line_end = ⊥
