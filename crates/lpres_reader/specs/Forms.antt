-- The form of a line, whatever its names and numbers are: what the tokens so far leave to be said of the next one.
use Rattle.std.specs.Prelude.{◌≡◌, ℕ, Bool, true, false, List, [], ◌∷◌, codes, bytes_eq, if◌then◌else◌, Option, Some, None, Result, Ok, Err}
use Rattle.lpres_reader.specs.declared.fault.Stop.{Stop}
use Rattle.lpres_reader.specs.declared.fault.Stop.TheVariants.{Fault, NoMemory}
use Rattle.lpres_reader.specs.declared.fault.Kind.TheVariants.{Syntax}
use Rattle.lpres_reader.specs.declared.token.Symbol.{Symbol}
use Rattle.lpres_reader.specs.declared.token.Symbol.TheVariants.{Arrow, Star, Caret, Minus, Equals, Comma, OpenRound, CloseRound}
use Rattle.lpres_reader.specs.declared.token.Symbol.TheVariants.{OpenSquare, CloseSquare}
use Rattle.lpres_reader.specs.declared.syntax.Stage.{Stage}
use Rattle.lpres_reader.specs.declared.syntax.Stage.TheVariants as at
use Rattle.lpres_reader.specs.declared.brackets.Bracket.{Bracket}
use Rattle.lpres_reader.specs.declared.brackets.Bracket.TheVariants.{Round, Square}
use Rattle.lpres_reader.specs.declared.syntax.Outer.{Outer}
use Rattle.lpres_reader.specs.declared.syntax.Outer.TheVariants.{Relators, Arrows}
use Rattle.lpres_reader.specs.declared.syntax.Form.{Form}
use Rattle.lpres_reader.specs.Tokens.{Token, name, number, symbol}

-- what a call answers that gives a value, or finds none and stops with a syntax fault; want of memory may come in place of either
abbrev pub Found : {X : Type 0} → Result X Stop → Option X → Type 0
Found (Ok x) o = o ≡ Some x
Found (Err NoMemory) o = Unit {0}
Found (Err (Fault k)) o = (k ≡ Syntax) × (o ≡ None)

abbrev pub form : Stage → Outer → List Bracket → Form
form stage outer brackets = record { stage = stage; outer = outer; brackets = brackets }

abbrev pub unit_form : Outer → List Bracket → Token → Option Form
unit_form outer brackets (name n) = Some (form at.Behind outer brackets)
unit_form outer brackets (number digits) = None
unit_form outer brackets (symbol OpenRound) = Some (form at.Before outer (Round ∷ brackets))
unit_form outer brackets (symbol OpenSquare) = Some (form at.Before outer (Square false ∷ brackets))
unit_form outer brackets (symbol s) = None

abbrev pub outer_form : Outer → Symbol → Option Form
outer_form (Relators false) Equals = Some (form at.Before (Relators true) [])
outer_form (Relators b) Comma = Some (form at.Before (Relators false) [])
outer_form Arrows Comma = Some (form at.Start Arrows [])
outer_form outer s = None

abbrev pub bracket_form : Bracket → Outer → List Bracket → Symbol → Option Form
bracket_form Round outer brackets CloseRound = Some (form at.Behind outer brackets)
bracket_form (Square b) outer brackets Comma = Some (form at.Before outer (Square true ∷ brackets))
bracket_form (Square true) outer brackets CloseSquare = Some (form at.Behind outer brackets)
bracket_form bracket outer brackets s = None

abbrev pub word_form : Outer → List Bracket → Symbol → Option Form
word_form outer [] s = outer_form outer s
word_form outer (bracket ∷ brackets) s = bracket_form bracket outer brackets s

abbrev pub behind_form : Outer → List Bracket → Token → Option Form
behind_form outer brackets (symbol Caret) = Some (form at.Caret outer brackets)
behind_form outer brackets (symbol Star) = Some (form at.Before outer brackets)
behind_form outer brackets (symbol s) = word_form outer brackets s
behind_form outer brackets t = None

abbrev pub factor_form : Outer → List Bracket → Token → Option Form
factor_form outer brackets (number digits) = if bytes_eq digits (codes "1") then Some (form at.Behind outer brackets) else None
factor_form outer brackets t = unit_form outer brackets t

abbrev pub exponent_form : Outer → List Bracket → Token → Option Form
exponent_form outer brackets (number digits) = Some (form at.Behind outer brackets)
exponent_form outer brackets (symbol Minus) = Some (form at.Minus outer brackets)
exponent_form outer brackets t = unit_form outer brackets t

abbrev pub start_form : Outer → List Bracket → Token → Option Form
start_form outer brackets (name n) = Some (form at.From outer brackets)
start_form outer brackets t = None

abbrev pub from_form : Outer → List Bracket → Token → Option Form
from_form outer brackets (symbol Arrow) = Some (form at.Before outer brackets)
from_form outer brackets t = None

abbrev pub minus_form : Outer → List Bracket → Token → Option Form
minus_form outer brackets (number digits) = Some (form at.Behind outer brackets)
minus_form outer brackets t = None

abbrev pub form_at : Stage → Outer → List Bracket → Token → Option Form
form_at at.Start outer brackets t = start_form outer brackets t
form_at at.From outer brackets t = from_form outer brackets t
form_at at.Before outer brackets t = factor_form outer brackets t
form_at at.Caret outer brackets t = exponent_form outer brackets t
form_at at.Minus outer brackets t = minus_form outer brackets t
form_at at.Behind outer brackets t = behind_form outer brackets t

-- the form with one token more
abbrev pub form_step : Form → Token → Option Form
form_step f t = form_at f.stage f.outer f.brackets t

abbrev pub first_form : List ℕ → Option Form
first_form n =
    if bytes_eq n (codes "fixed") then Some (form at.Before (Relators false) [])
    else if bytes_eq n (codes "iterated") then Some (form at.Before (Relators false) [])
    else if bytes_eq n (codes "endo") then Some (form at.Start Arrows [])
    else None

abbrev pub is_behind : Stage → Bool
is_behind at.Behind = true
is_behind stage = false

abbrev pub nothing_open : List Bracket → Bool
nothing_open [] = true
nothing_open (b ∷ brackets) = false
