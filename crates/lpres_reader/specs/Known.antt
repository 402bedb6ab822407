-- Whether the names of a line are generators, as the reader asks it.
use Rattle.std.specs.Prelude.{◌≡◌, ℕ, Bool, true, false, List, is_some}
use Rattle.lpres_reader.specs.Tokens.{Token, name, number, symbol, ReadsTokens}
use Rattle.lpres_reader.specs.Front.{token_first, front_of}
use Rattle.lpres_reader.specs.Trees.{place_of, AreKnown}
use Rattle.lpres_reader.specs.Faults.{ItemForm}

-- a token is no name, or that of a generator
abbrev pub is_known : List (List ℕ) → Token → Bool
is_known names (name n) = is_some (place_of names n)
is_known names (number digits) = true
is_known names (symbol s) = true

-- what is told of whether all names among tokens are generators
abbrev pub TellsKnown : List (List ℕ) → List Token → Bool → Type 0
TellsKnown names ts true = AreKnown names ts
TellsKnown names ts false = ¬ AreKnown names ts

-- the line has the form of an item, and this is told of the names behind its first token
pub record IsChecked (names : List (List ℕ)) (line : List ℕ) (known : Bool) : Type 0 where
  pub form : ItemForm line
  pub keyword : List ℕ
  pub rest : List ℕ
  pub front : front_of line ≡ token_first (name keyword) rest
  pub tells : (ts : List Token) → ReadsTokens rest ts → TellsKnown names ts known
