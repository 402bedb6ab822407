-- The forms of what is parsed.
use Rattle.std.specs.Prelude.{Bool, true, false, List, [], ◌∷◌, is_some}
use Rattle.lpres_reader.specs.declared.syntax.Stage.TheVariants as at
use Rattle.lpres_reader.specs.declared.brackets.Bracket.{Bracket}
use Rattle.lpres_reader.specs.declared.brackets.Bracket.TheVariants.{Round, Square}
use Rattle.lpres_reader.specs.declared.syntax.Outer.{Outer}
use Rattle.lpres_reader.specs.declared.syntax.Outer.TheVariants.{Relators, Arrows}
use Rattle.lpres_reader.specs.declared.syntax.Form.{Form}
use Rattle.lpres_reader.specs.Forms.{form}
use Rattle.lpres_reader.specs.Parser as parser

abbrev pub outer_of : parser.Outer → Outer
outer_of (parser.in_relators s rs left) = Relators (is_some left)
outer_of (parser.in_arrows qs n) = Arrows

abbrev pub has_entry : parser.Entered → Bool
has_entry parser.none = false
has_entry (parser.first u) = true
has_entry (parser.several e) = true

abbrev pub outer_around : parser.Around → Outer
outer_around (parser.outside o) = outer_of o
outer_around (parser.in_round p a) = outer_around a
outer_around (parser.in_square p e a) = outer_around a

abbrev pub brackets_around : parser.Around → List Bracket
brackets_around (parser.outside o) = []
brackets_around (parser.in_round p a) = Round ∷ brackets_around a
brackets_around (parser.in_square p e a) = Square (has_entry e) ∷ brackets_around a

abbrev pub form_of : parser.State → Form
form_of (parser.at_name qs) = form at.Start Arrows []
form_of (parser.at_arrow qs n) = form at.From Arrows []
form_of (parser.at_factor a s) = form at.Before (outer_around a) (brackets_around a)
form_of (parser.at_exponent a s f) = form at.Caret (outer_around a) (brackets_around a)
form_of (parser.at_digits a s f) = form at.Minus (outer_around a) (brackets_around a)
form_of (parser.behind a s f) = form at.Behind (outer_around a) (brackets_around a)
