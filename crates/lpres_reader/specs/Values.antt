-- What a line means, token by token, as the reader takes it: each token gives what is meant so far or stops the line at a
-- syntax fault or a limit. That this is what the trees of a line mean is proved.
use Rattle.std.specs.Prelude.{◌≡◌, ◌≤◌, ℕ, ◌+◌, min, ltb, leb, Bool, true, false, ℤ, List, [], ◌∷◌, ◌++◌, length, codes, bytes_eq}
use Rattle.std.specs.Prelude.{if◌then◌else◌, Option, Some, None, Result, Ok, Err}
use Rattle.pq_base.specs.SignedWord.{inv, pow, comm, conj}
use Rattle.lpres_reader.specs.declared.fault.Stop.{Stop}
use Rattle.lpres_reader.specs.declared.fault.Stop.TheVariants.{Fault, NoMemory}
use Rattle.lpres_reader.specs.declared.fault.Kind.{Kind}
use Rattle.lpres_reader.specs.declared.fault.Kind.TheVariants.{Syntax, Limit}
use Rattle.lpres_reader.specs.declared.fault.Which.{Which}
use Rattle.lpres_reader.specs.declared.fault.Which.TheVariants.{Exponent, Letters, Total}
use Rattle.lpres_reader.specs.declared.token.Symbol.{Symbol}
use Rattle.lpres_reader.specs.declared.token.Symbol.TheVariants as symbols
use Rattle.lpres_reader.specs.declared.value.Place.{Place}
use Rattle.lpres_reader.specs.declared.value.Bracket.{Bracket}
use Rattle.lpres_reader.specs.declared.value.Bracket.TheVariants.{Round, Square}
use Rattle.lpres_reader.specs.declared.value.Opened.{Opened}
use Rattle.lpres_reader.specs.declared.value.Stage.{Stage}
use Rattle.lpres_reader.specs.declared.value.Stage.TheVariants.{Start, From, Before, Caret, Minus, Behind}
use Rattle.lpres_reader.specs.declared.value.Outer.{Outer}
use Rattle.lpres_reader.specs.declared.value.Outer.TheVariants.{Relators, Arrows}
use Rattle.lpres_reader.specs.declared.value.Around.{Around}
use Rattle.lpres_reader.specs.declared.value.Value.{Value}
use Rattle.lpres_reader.specs.Gatherings.{Gathering}
use Rattle.lpres_reader.specs.Tokens.{Token, name, number, symbol, ReadsTokens}
use Rattle.lpres_reader.specs.Words.{letter_limit, exponent_limit}
use Rattle.lpres_reader.specs.Trees as trees
use Rattle.lpres_reader.specs.Trees.{place_of, letter_at, exponent_size, exponent_value, known_place}

-- what a call answers, but for want of memory, which may come in place of it
abbrev pub Given : {X : Type 0} → Result X Stop → Result X Stop → Type 0
Given (Ok x) expected = expected ≡ Ok x
Given (Err NoMemory) expected = Unit {0}
Given (Err (Fault k)) expected = expected ≡ Err (Fault k)

abbrev pub followed : {X Y : Type 0} → Result X Stop → (X → Result Y Stop) → Result Y Stop
followed (Ok x) f = f x
followed (Err e) f = Err e

abbrev pub no_form : {X : Type 0} → Result X Stop
no_form = Err (Fault Syntax)

-- words that parts of a line make
abbrev pub fits : List ℤ → Result (List ℤ) Stop
fits w = if leb (length w) letter_limit then Ok w else Err (Fault (Limit Letters (length w)))

abbrev pub told : ℕ → ℕ
told size = min size 999999999999999999

abbrev pub raised : List ℤ → trees.Exponent → Result (List ℤ) Stop
raised base e =
    if ltb exponent_limit (exponent_size e) then Err (Fault (Limit Exponent (told (exponent_size e)))) else fits
    (pow base (exponent_value e))

abbrev pub signed : Bool → List ℕ → trees.Exponent
signed true digits = trees.minus digits
signed false digits = trees.plus digits

-- relators and arrows
abbrev pub nothing_gathered : Which → ℕ → ℕ → Gathering
nothing_gathered which count total = record { which = which; count = count; total = total; relators = []; arrows = [] }

abbrev pub more_letters : ℕ → List ℤ → Result ℕ Stop
more_letters total w = if leb (total + length w) 4194304 then Ok (total + length w) else Err (Fault (Limit Total (total + length w)))

abbrev pub with_relator : Gathering → List ℤ → Result Gathering Stop
with_relator g w =
    if leb (g.count + 1) 4096
    then followed (more_letters g.total w)
    (λ total. Ok (record { which = g.which; count = g.count + 1; total = total; relators = g.relators ++ w ∷ []; arrows = g.arrows }))
    else Err (Fault (Limit g.which (g.count + 1)))

abbrev pub with_arrow : Gathering → ℕ → List ℤ → Result Gathering Stop
with_arrow g from w =
    followed (more_letters g.total w)
    (λ total. Ok (record {
      which = g.which;
      count = g.count;
      total = total;
      relators = g.relators;
      arrows = g.arrows ++ record { from = from; to = w } ∷ [];
    }))

abbrev pub value : Stage → Around → Value
value stage around = record { stage = stage; around = around }

abbrev pub around : List Opened → Outer → Gathering → Around
around stack outer gathered = record { stack = stack; outer = outer; gathered = gathered }

abbrev pub behind_base : Option (List ℤ) → List ℤ → List ℤ → Result Stage Stop
behind_base None before unit = Ok (Behind before unit)
behind_base (Some base) before unit = followed (fits (conj base unit)) (λ w. Ok (Behind before w))

abbrev pub behind_unit : Place → List ℤ → Result Stage Stop
behind_unit place unit = behind_base place.base place.before unit

abbrev pub entered : Option (List ℤ) → List ℤ → Result (List ℤ) Stop
entered None w = Ok w
entered (Some u) w = fits (comm u w)

abbrev pub relator : Option (List ℤ) → List ℤ → Result (List ℤ) Stop
relator None w = Ok w
relator (Some u) w = fits (u ++ inv w)

abbrev pub with_bracket : Around → Place → Bracket → Value
with_bracket a place bracket = value (Before []) (around (record { place = place; bracket = bracket } ∷ a.stack) a.outer a.gathered)

abbrev pub unit_step : List (List ℕ) → Around → Place → Token → Result Value Stop
unit_step names a place (name n) = followed (behind_unit place (letter_at (place_of names n))) (λ stage. Ok (value stage a))
unit_step names a place (number digits) = no_form
unit_step names a place (symbol symbols.OpenRound) = Ok (with_bracket a place Round)
unit_step names a place (symbol symbols.OpenSquare) = Ok (with_bracket a place (Square None))
unit_step names a place (symbol s) = no_form

abbrev pub relators_step : Option (List ℤ) → Gathering → List ℤ → Symbol → Result Value Stop
relators_step None g w symbols.Equals = Ok (value (Before []) (around [] (Relators (Some w)) g))
relators_step left g w symbols.Comma =
    followed (relator left w) (λ r. followed (with_relator g r) (λ more. Ok (value (Before []) (around [] (Relators None) more))))
relators_step left g w s = no_form

abbrev pub arrows_step : ℕ → Gathering → List ℤ → Symbol → Result Value Stop
arrows_step from g w symbols.Comma = followed (with_arrow g from w) (λ more. Ok (value Start (around [] (Arrows 0) more)))
arrows_step from g w s = no_form

abbrev pub outer_step : Outer → Gathering → List ℤ → Symbol → Result Value Stop
outer_step (Relators left) g w s = relators_step left g w s
outer_step (Arrows from) g w s = arrows_step from g w s

abbrev pub round_step : Place → Around → List ℤ → Symbol → Result Value Stop
round_step place a w symbols.CloseRound = followed (behind_unit place w) (λ stage. Ok (value stage a))
round_step place a w s = no_form

abbrev pub square_step : Place → Option (List ℤ) → Around → List ℤ → Symbol → Result Value Stop
square_step place entries a w symbols.Comma = followed (entered entries w) (λ e. Ok (with_bracket a place (Square (Some e))))
square_step place (Some u) a w symbols.CloseSquare =
    followed (fits (comm u w)) (λ e. followed (behind_unit place e) (λ stage. Ok (value stage a)))
square_step place entries a w s = no_form

abbrev pub bracket_step : Bracket → Place → Around → List ℤ → Symbol → Result Value Stop
bracket_step Round place a w s = round_step place a w s
bracket_step (Square entries) place a w s = square_step place entries a w s

abbrev pub stack_step : List Opened → Outer → Gathering → List ℤ → Symbol → Result Value Stop
stack_step [] outer g w s = outer_step outer g w s
stack_step (o ∷ stack) outer g w s = bracket_step o.bracket o.place (around stack outer g) w s

abbrev pub word_step : Around → List ℤ → Symbol → Result Value Stop
word_step a w s = stack_step a.stack a.outer a.gathered w s

abbrev pub behind_step : Around → List ℤ → List ℤ → Token → Result Value Stop
behind_step a before factor (symbol symbols.Caret) = Ok (value (Caret before factor) a)
behind_step a before factor (symbol symbols.Star) = followed (fits (before ++ factor)) (λ w. Ok (value (Before w) a))
behind_step a before factor (symbol s) = followed (fits (before ++ factor)) (λ w. word_step a w s)
behind_step a before factor t = no_form

abbrev pub place : List ℤ → Option (List ℤ) → Place
place before base = record { before = before; base = base }

abbrev pub factor_step : List (List ℕ) → Around → List ℤ → Token → Result Value Stop
factor_step names a before (number digits) = if bytes_eq digits (codes "1") then Ok (value (Behind before []) a) else no_form
factor_step names a before t = unit_step names a (place before None) t

abbrev pub raised_step : Around → List ℤ → List ℤ → trees.Exponent → Result Value Stop
raised_step a before base e = followed (raised base e) (λ factor. Ok (value (Behind before factor) a))

abbrev pub exponent_step : List (List ℕ) → Around → List ℤ → List ℤ → Token → Result Value Stop
exponent_step names a before base (number digits) = raised_step a before base (trees.plus digits)
exponent_step names a before base (symbol symbols.Minus) = Ok (value (Minus before base) a)
exponent_step names a before base t = unit_step names a (place before (Some base)) t

abbrev pub minus_step : Around → List ℤ → List ℤ → Token → Result Value Stop
minus_step a before base (number digits) = raised_step a before base (trees.minus digits)
minus_step a before base t = no_form

abbrev pub start_step : List (List ℕ) → Around → Token → Result Value Stop
start_step names a (name n) = Ok (value From (around a.stack (Arrows (known_place (place_of names n))) a.gathered))
start_step names a t = no_form

abbrev pub from_step : Around → Token → Result Value Stop
from_step a (symbol symbols.Arrow) = Ok (value (Before []) a)
from_step a t = no_form

abbrev pub stage_step : List (List ℕ) → Stage → Around → Token → Result Value Stop
stage_step names Start a t = start_step names a t
stage_step names From a t = from_step a t
stage_step names (Before before) a t = factor_step names a before t
stage_step names (Caret before base) a t = exponent_step names a before base t
stage_step names (Minus before base) a t = minus_step a before base t
stage_step names (Behind before factor) a t = behind_step a before factor t

-- what is meant with one token more
abbrev pub value_step : List (List ℕ) → Value → Token → Result Value Stop
value_step names v t = stage_step names v.stage v.around t

abbrev pub outer_end : Outer → Gathering → List ℤ → Result Gathering Stop
outer_end (Relators left) g w = followed (relator left w) (λ r. with_relator g r)
outer_end (Arrows from) g w = with_arrow g from w

abbrev pub stack_end : List Opened → Outer → Gathering → List ℤ → Result Gathering Stop
stack_end [] outer g w = outer_end outer g w
stack_end (o ∷ stack) outer g w = no_form

abbrev pub stage_end : Stage → Around → Result Gathering Stop
stage_end (Behind before factor) a = followed (fits (before ++ factor)) (λ w. stack_end a.stack a.outer a.gathered w)
stage_end stage a = no_form

-- what a line gives that ends here
abbrev pub value_end : Value → Result Gathering Stop
value_end v = stage_end v.stage v.around

abbrev pub at_relators : Gathering → Value
at_relators g = value (Before []) (around [] (Relators None) g)

abbrev pub at_arrows : Gathering → Value
at_arrows g = value Start (around [] (Arrows 0) g)

-- what tokens give behind what is meant so far
abbrev pub value_run : List (List ℕ) → Value → List Token → Result Gathering Stop
value_run names v [] = value_end v
value_run names v (t ∷ ts) = followed (value_step names v t) (λ next. value_run names next ts)

-- what a call answers that reads the tokens of a line behind what is meant so far
abbrev pub RunsTo : List (List ℕ) → Value → List ℕ → Result Gathering Stop → Type 0
RunsTo names v line result = (ts : List Token) → ReadsTokens line ts → Given result (value_run names v ts)

-- the tokens of the line behind the first value give what those of the rest give behind the last one
pub record RunsOn (names : List (List ℕ)) (line rest : List ℕ) (first last : Value) : Type 0 where
  pub on : (ts : List Token) → ReadsTokens line ts
      → (us : List Token) × ReadsTokens rest us × (value_run names first ts ≡ value_run names last us)
  pub within : length rest ≤ length line

-- what is meant so far stops the line at this fault
abbrev pub StopsAt : List (List ℕ) → Value → List ℕ → Kind → Type 0
StopsAt names first line k = (ts : List Token) → ReadsTokens line ts → value_run names first ts ≡ Err (Fault k)

-- the product of factors goes over to another one and leaves the rest of the line, whatever is around it
abbrev pub FactorsRunOn : List (List ℕ) → List ℕ → List ℕ → List ℤ → List ℤ → Type 0
FactorsRunOn names line rest before w = (a : Around) → RunsOn names line rest (value (Before before) a) (value (Before w) a)

abbrev pub FactorsStopAt : List (List ℕ) → List ℤ → List ℕ → Kind → Type 0
FactorsStopAt names before line k = (a : Around) → StopsAt names (value (Before before) a) line k
