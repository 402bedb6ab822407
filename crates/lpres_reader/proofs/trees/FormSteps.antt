-- The form of a line goes along with what is parsed: a token may come next exactly where it may in the form.
use Rattle.std.proofs.Common.{◌≡◌, ℕ, Bool, true, false, ◌&&◌, is_some, cond, List, [], Some, None, option_map, refl, ap, sym}
use Rattle.std.proofs.lemmas.Bool.{cond_both}
use Rattle.std.specs.Prelude.{codes, bytes_eq}
use Rattle.lpres_reader.specs.declared.token.Symbol.{Symbol}
use Rattle.lpres_reader.specs.declared.token.Symbol.TheVariants.{Arrow, Star, Caret, Minus, Equals, Comma, OpenRound, CloseRound}
use Rattle.lpres_reader.specs.declared.token.Symbol.TheVariants.{OpenSquare, CloseSquare}
use Rattle.lpres_reader.specs.Tokens.{Token, name, number, symbol}
use Rattle.lpres_reader.specs.Trees.{WordTree, UnitTree, one, fixed_sort, iterated_sort}
use Rattle.lpres_reader.specs.Parser.{Place, as_factor, as_exponent, none, first, several, in_relators, in_arrows, Around, outside}
use Rattle.lpres_reader.specs.Parser.{in_round, in_square, State, at_name, at_arrow, at_factor, at_exponent, at_digits, behind, joined}
use Rattle.lpres_reader.specs.Parser.{behind_unit, unit_step, word_step, step, line_end, begin}
use Rattle.lpres_reader.specs.declared.syntax.Form.{Form}
use Rattle.lpres_reader.specs.declared.syntax.Stage.TheVariants as at
use Rattle.lpres_reader.specs.declared.syntax.Outer.TheVariants.{Relators, Arrows}
use Rattle.lpres_reader.specs.Forms.{form, unit_form, word_form, form_step, first_form, is_behind, nothing_open}
use Rattle.lpres_reader.proofs.trees.ParsedForms.{form_of, outer_around, brackets_around}

behind_unit-form : (a : Around) (p : Place) (u : UnitTree)
    → form_of (behind_unit a p u) ≡ form at.Behind (outer_around a) (brackets_around a)
behind_unit-form a (as_factor s) u = refl
behind_unit-form a (as_exponent s f) u = refl

unit_goes : (a : Around) (p : Place) (t : Token) → unit_form (outer_around a) (brackets_around a) t ≡ option_map form_of (unit_step a p t)
unit_goes a p (name n) = ap Some (sym (behind_unit-form a p _))
unit_goes a p (number digits) = refl
unit_goes a p (symbol OpenRound) = refl
unit_goes a p (symbol OpenSquare) = refl
unit_goes a p (symbol s) = refl

word_goes : (a : Around) (w : WordTree) (s : Symbol)
    → word_form (outer_around a) (brackets_around a) s ≡ option_map form_of (word_step a w (symbol s))
word_goes (outside (in_relators s rs None)) w Equals = refl
word_goes (outside (in_relators s rs None)) w Comma = refl
word_goes (outside (in_relators s rs None)) w t = refl
word_goes (outside (in_relators s rs (Some u))) w Comma = refl
word_goes (outside (in_relators s rs (Some u))) w t = refl
word_goes (outside (in_arrows qs n)) w Comma = refl
word_goes (outside (in_arrows qs n)) w t = refl
word_goes (in_round p a) w CloseRound = ap Some (sym (behind_unit-form a p _))
word_goes (in_round p a) w t = refl
word_goes (in_square p none a) w Comma = refl
word_goes (in_square p none a) w CloseSquare = refl
word_goes (in_square p none a) w t = refl
word_goes (in_square p (first u) a) w Comma = refl
word_goes (in_square p (first u) a) w CloseSquare = ap Some (sym (behind_unit-form a p _))
word_goes (in_square p (first u) a) w t = refl
word_goes (in_square p (several e) a) w Comma = refl
word_goes (in_square p (several e) a) w CloseSquare = ap Some (sym (behind_unit-form a p _))
word_goes (in_square p (several e) a) w t = refl

pub word_ends : (a : Around) (w : WordTree) (n : List ℕ) → word_step a w (name n) ≡ None
word_ends (outside (in_relators s rs None)) w n = refl
word_ends (outside (in_relators s rs (Some u))) w n = refl
word_ends (outside (in_arrows qs m)) w n = refl
word_ends (in_round p a) w n = refl
word_ends (in_square p e a) w n = refl

pub word_ends_number : (a : Around) (w : WordTree) (n : List ℕ) → word_step a w (number n) ≡ None
word_ends_number (outside (in_relators s rs None)) w n = refl
word_ends_number (outside (in_relators s rs (Some u))) w n = refl
word_ends_number (outside (in_arrows qs m)) w n = refl
word_ends_number (in_round p a) w n = refl
word_ends_number (in_square p e a) w n = refl

pub form_goes : (state : State) (t : Token) → form_step (form_of state) t ≡ option_map form_of (step state t)
form_goes (at_name qs) (name n) = refl
form_goes (at_name qs) (number n) = refl
form_goes (at_name qs) (symbol n) = refl
form_goes (at_arrow qs n) (symbol Arrow) = refl
form_goes (at_arrow qs n) t = refl
form_goes (at_factor a s) (number digits) = cond_both (bytes_eq digits (codes "1")) (Some (behind a s one)) None
    (λ o. cond (bytes_eq digits (codes "1")) (Some (form at.Behind (outer_around a) (brackets_around a))) None ≡ option_map form_of o)
    (λ e. rw e refl) (λ e. rw e refl)
form_goes (at_factor a s) (name n) = unit_goes a (as_factor s) (name n)
form_goes (at_factor a s) (symbol n) = unit_goes a (as_factor s) (symbol n)
form_goes (at_exponent a s f) (number digits) = refl
form_goes (at_exponent a s f) (symbol Minus) = refl
form_goes (at_exponent a s f) (name n) = unit_goes a (as_exponent s f) (name n)
form_goes (at_exponent a s f) (symbol n) = unit_goes a (as_exponent s f) (symbol n)
form_goes (at_digits a s f) (number digits) = refl
form_goes (at_digits a s f) t = refl
form_goes (behind a s f) (symbol Caret) = refl
form_goes (behind a s f) (symbol Star) = refl
form_goes (behind a s f) (name n) = ap (option_map form_of) (sym (word_ends a (joined s f) n))
form_goes (behind a s f) (number n) = ap (option_map form_of) (sym (word_ends_number a (joined s f) n))
form_goes (behind a s f) (symbol t) = word_goes a (joined s f) t

begins : (b c d : Bool)
    → cond b (Some (form at.Before (Relators false) []))
    (cond c (Some (form at.Before (Relators false) [])) (cond d (Some (form at.Start Arrows [])) None))
    ≡ option_map form_of (cond b (Some (at_factor (outside (in_relators fixed_sort [] None)) None))
    (cond c (Some (at_factor (outside (in_relators iterated_sort [] None)) None)) (cond d (Some (at_name [])) None)))
begins true c d = refl
begins false true d = refl
begins false false true = refl
begins false false false = refl

pub form_begins : (n : List ℕ) → first_form n ≡ option_map form_of (begin n)
form_begins n = begins (bytes_eq n (codes "fixed")) (bytes_eq n (codes "iterated")) (bytes_eq n (codes "endo"))

-- a line may end where its form is whole
abbrev pub is_whole_form : Form → Bool
is_whole_form f = is_behind f.stage && nothing_open f.brackets

pub form_ends : (state : State) → is_whole_form (form_of state) ≡ is_some (line_end state)
form_ends (at_name qs) = refl
form_ends (at_arrow qs n) = refl
form_ends (at_factor a s) = refl
form_ends (at_exponent a s f) = refl
form_ends (at_digits a s f) = refl
form_ends (behind (outside o) s f) = refl
form_ends (behind (in_round p a) s f) = refl
form_ends (behind (in_square p e a) s f) = refl
