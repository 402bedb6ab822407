-- What is meant by what is parsed: the value at a state of the parser.
use Rattle.std.specs.Prelude.{ℕ, ℤ, List, [], ◌∷◌, Option, Some, None}
use Rattle.pq_base.specs.LPresentation.{LPresentation}
use Rattle.lpres_reader.specs.declared.value.Place.{Place}
use Rattle.lpres_reader.specs.declared.value.Bracket.TheVariants.{Round, Square}
use Rattle.lpres_reader.specs.declared.value.Opened.{Opened}
use Rattle.lpres_reader.specs.declared.value.Stage.TheVariants.{Start, From, Before, Caret, Minus, Behind}
use Rattle.lpres_reader.specs.declared.value.Outer.{Outer}
use Rattle.lpres_reader.specs.declared.value.Outer.TheVariants.{Relators, Arrows}
use Rattle.lpres_reader.specs.declared.value.Around.{Around}
use Rattle.lpres_reader.specs.declared.value.Value.{Value}
use Rattle.lpres_reader.specs.Gatherings.{Gathering}
use Rattle.lpres_reader.specs.Trees.{WordTree, known_place, place_of, word_meaning, factor_meaning, entries_meaning}
use Rattle.lpres_reader.specs.Parser as parser
use Rattle.lpres_reader.specs.Values.{value, around, place}
use Rattle.lpres_reader.specs.Meanings.{relators_gathered, arrows_gathered}

abbrev pub start_value : List (List ℕ) → Option WordTree → List ℤ
start_value names None = []
start_value names (Some w) = word_meaning names w

abbrev pub left_value : List (List ℕ) → Option WordTree → Option (List ℤ)
left_value names None = None
left_value names (Some w) = Some (word_meaning names w)

abbrev pub place_value : List (List ℕ) → parser.Place → Place
place_value names (parser.as_factor s) = place (start_value names s) None
place_value names (parser.as_exponent s f) = place (start_value names s) (Some (factor_meaning names f))

abbrev pub entered_value : List (List ℕ) → parser.Entered → Option (List ℤ)
entered_value names parser.none = None
entered_value names (parser.first u) = Some (word_meaning names u)
entered_value names (parser.several e) = Some (entries_meaning names e)

abbrev pub outer_value : LPresentation → parser.Outer → Outer
outer_value M (parser.in_relators s rs left) = Relators (left_value M.names left)
outer_value M (parser.in_arrows qs n) = Arrows (known_place (place_of M.names n))

abbrev pub outer_gathered : LPresentation → parser.Outer → Gathering
outer_gathered M (parser.in_relators s rs left) = relators_gathered M s rs
outer_gathered M (parser.in_arrows qs n) = arrows_gathered M qs

abbrev pub stack_of : LPresentation → parser.Around → List Opened
stack_of M (parser.outside o) = []
stack_of M (parser.in_round p a) = record { place = place_value M.names p; bracket = Round } ∷ stack_of M a
stack_of M (parser.in_square p e a) = record { place = place_value M.names p; bracket = Square (entered_value M.names e) } ∷ stack_of M a

abbrev pub outermost : parser.Around → parser.Outer
outermost (parser.outside o) = o
outermost (parser.in_round p a) = outermost a
outermost (parser.in_square p e a) = outermost a

abbrev pub around_of : LPresentation → parser.Around → Around
around_of M a = around (stack_of M a) (outer_value M (outermost a)) (outer_gathered M (outermost a))

abbrev pub value_of : LPresentation → parser.State → Value
value_of M (parser.at_name qs) = value Start (around [] (Arrows 0) (arrows_gathered M qs))
value_of M (parser.at_arrow qs n) = value From (around [] (Arrows (known_place (place_of M.names n))) (arrows_gathered M qs))
value_of M (parser.at_factor a s) = value (Before (start_value M.names s)) (around_of M a)
value_of M (parser.at_exponent a s f) = value (Caret (start_value M.names s) (factor_meaning M.names f)) (around_of M a)
value_of M (parser.at_digits a s f) = value (Minus (start_value M.names s) (factor_meaning M.names f)) (around_of M a)
value_of M (parser.behind a s f) = value (Behind (start_value M.names s) (factor_meaning M.names f)) (around_of M a)
