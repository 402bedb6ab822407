-- Factors that are generators' names alone, with a star behind each.
use Rattle.std.specs.Prelude.{◌≡◌, ◌<◌, ℕ, List, Some}
use Rattle.lpres_reader.specs.declared.token.Symbol.TheVariants.{Star}
use Rattle.lpres_reader.specs.declared.syntax.Stage.{Stage}
use Rattle.lpres_reader.specs.declared.syntax.Stage.TheVariants.{Before}
use Rattle.lpres_reader.specs.Tokens.{name, symbol}
use Rattle.lpres_reader.specs.Front.{token_first, front_of}
use Rattle.lpres_reader.specs.Trees.{place_of}

-- at the front of a line stands the generator at this place, then a star
pub record BeginsPlainly (names : List (List ℕ)) (line : List ℕ) (place : ℕ) (rest : List ℕ) : Type 0 where
  pub text : List ℕ
  pub behind : List ℕ
  pub named : front_of line ≡ token_first (name text) behind
  pub starred : front_of behind ≡ token_first (symbol Star) rest
  pub is : place_of names text ≡ Some place
  pub within : place < 32

-- the line is such factors, none or more, and then the rest
pub data GoesPlainly (names : List (List ℕ)) : List ℕ → List ℕ → Type 0 where
  nowhere : {line : List ℕ} → GoesPlainly names line line
  further : {line after : List ℕ} (rest : List ℕ) (place : ℕ)
      → GoesPlainly names line rest → BeginsPlainly names rest place after → GoesPlainly names line after

-- behind this stage of a line's form nothing of the line is passed over, or such factors where a factor comes next
pub data PassesOver (names : List (List ℕ)) (stage : Stage) (line rest : List ℕ) : Type 0 where
  nothing : rest ≡ line → PassesOver names stage line rest
  factors : stage ≡ Before → GoesPlainly names line rest → PassesOver names stage line rest
