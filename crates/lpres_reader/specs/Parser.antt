-- Reading tokens from the left, one at a time, for the reader's own functions and proofs: what the tokens of a line so
-- far make, and what the next token makes of it. What trees a line has is said by their tokens, in Trees.
use Rattle.std.specs.Prelude.{ℕ, List, [], ◌∷◌, ◌++◌, codes, bytes_eq, if◌then◌else◌, Option, Some, None, option_and_then}
use Rattle.lpres_reader.specs.declared.token.Symbol.TheVariants.{Arrow, Star, Caret, Minus, Equals, Comma, OpenRound, CloseRound}
use Rattle.lpres_reader.specs.declared.token.Symbol.TheVariants.{OpenSquare, CloseSquare}
use Rattle.lpres_reader.specs.Tokens.{Token, name, number, symbol}
use Rattle.lpres_reader.specs.Trees.{plus, minus, WordTree, alone, times, FactorTree, one, unit, to_power, conjugated, UnitTree, named}
use Rattle.lpres_reader.specs.Trees.{round, square, EntriesTree, two, and_one, RelatorTree, word, equation, ArrowTree, Sort, fixed_sort}
use Rattle.lpres_reader.specs.Trees.{iterated_sort, ItemTree, relators, arrows}

-- where a unit stands: as a factor behind `w *`, or at the front of its word, or as an exponent behind such a factor
pub data Place : Type 0 where
  as_factor : Option WordTree → Place
  as_exponent : Option WordTree → FactorTree → Place

-- the entries of a bracket so far
pub data Entered : Type 0 where
  none : Entered
  first : WordTree → Entered
  several : EntriesTree → Entered

-- what stands in front of a word that stands in no brackets: relators with the left side of an equation, if it is the
-- right side of one, or arrows and the name from which the arrow goes
pub data Outer : Type 0 where
  in_relators : Sort → List RelatorTree → Option WordTree → Outer
  in_arrows : List ArrowTree → List ℕ → Outer

-- the brackets that are open around a word
pub data Around : Type 0 where
  outside : Outer → Around
  in_round : Place → Around → Around
  in_square : Place → Entered → Around → Around

pub data State : Type 0 where
  at_name : List ArrowTree → State
  at_arrow : List ArrowTree → List ℕ → State
  at_factor : Around → Option WordTree → State
  at_exponent : Around → Option WordTree → FactorTree → State
  at_digits : Around → Option WordTree → FactorTree → State
  behind : Around → Option WordTree → FactorTree → State

abbrev pub joined : Option WordTree → FactorTree → WordTree
joined None f = alone f
joined (Some w) f = times w f

abbrev pub behind_unit : Around → Place → UnitTree → State
behind_unit a (as_factor s) u = behind a s (unit u)
behind_unit a (as_exponent s f) u = behind a s (conjugated f u)

abbrev pub entered : Entered → WordTree → Entered
entered none v = first v
entered (first u) v = several (two u v)
entered (several e) v = several (and_one e v)

abbrev pub relator_of : Option WordTree → WordTree → RelatorTree
relator_of None w = word w
relator_of (Some u) v = equation u v

-- a token that begins a unit
abbrev pub unit_step : Around → Place → Token → Option State
unit_step a p (name n) = Some (behind_unit a p (named n))
unit_step a p (symbol OpenRound) = Some (at_factor (in_round p a) None)
unit_step a p (symbol OpenSquare) = Some (at_factor (in_square p none a) None)
unit_step a p t = None

-- the end of a bracket of entries
abbrev pub square_end : Around → Place → Entered → Option State
square_end a p none = None
square_end a p (first u) = None
square_end a p (several e) = Some (behind_unit a p (square e))

-- a token behind a word, which ends it
abbrev pub word_step : Around → WordTree → Token → Option State
word_step (outside (in_relators s rs None)) w (symbol Equals) = Some (at_factor (outside (in_relators s rs (Some w))) None)
word_step (outside (in_relators s rs left)) w (symbol Comma) =
    Some (at_factor (outside (in_relators s (rs ++ relator_of left w ∷ []) None)) None)
word_step (outside (in_arrows qs n)) w (symbol Comma) = Some (at_name (qs ++ record { from = n; to = w } ∷ []))
word_step (in_round p a) w (symbol CloseRound) = Some (behind_unit a p (round w))
word_step (in_square p e a) w (symbol Comma) = Some (at_factor (in_square p (entered e w) a) None)
word_step (in_square p e a) w (symbol CloseSquare) = square_end a p (entered e w)
word_step a w t = None

abbrev pub step : State → Token → Option State
step (at_name qs) (name n) = Some (at_arrow qs n)
step (at_name qs) t = None
step (at_arrow qs n) (symbol Arrow) = Some (at_factor (outside (in_arrows qs n)) None)
step (at_arrow qs n) t = None
step (at_factor a s) (number digits) = if bytes_eq digits (codes "1") then Some (behind a s one) else None
step (at_factor a s) t = unit_step a (as_factor s) t
step (at_exponent a s f) (number digits) = Some (behind a s (to_power f (plus digits)))
step (at_exponent a s f) (symbol Minus) = Some (at_digits a s f)
step (at_exponent a s f) t = unit_step a (as_exponent s f) t
step (at_digits a s f) (number digits) = Some (behind a s (to_power f (minus digits)))
step (at_digits a s f) t = None
step (behind a s f) (symbol Caret) = Some (at_exponent a s f)
step (behind a s f) (symbol Star) = Some (at_factor a (Some (joined s f)))
step (behind a s f) t = word_step a (joined s f) t

-- what a line is that ends here
abbrev pub outer_end : Outer → WordTree → ItemTree
outer_end (in_relators s rs left) w = relators s rs (relator_of left w)
outer_end (in_arrows qs n) w = arrows qs (record { from = n; to = w })

abbrev pub line_end : State → Option ItemTree
line_end (behind (outside o) s f) = Some (outer_end o (joined s f))
line_end state = None

abbrev pub run : State → List Token → Option ItemTree
run state [] = line_end state
run state (t ∷ ts) = option_and_then (λ next. run next ts) (step state t)

-- the state behind the first token of a line
abbrev pub begin : List ℕ → Option State
begin n =
    if bytes_eq n (codes "fixed") then Some (at_factor (outside (in_relators fixed_sort [] None)) None)
    else if bytes_eq n (codes "iterated") then Some (at_factor (outside (in_relators iterated_sort [] None)) None)
    else if bytes_eq n (codes "endo") then Some (at_name [])
    else None

abbrev pub parse_item : List Token → Option ItemTree
parse_item [] = None
parse_item (name n ∷ ts) = option_and_then (λ state. run state ts) (begin n)
parse_item (t ∷ ts) = None
