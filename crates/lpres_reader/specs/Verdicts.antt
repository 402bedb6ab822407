-- What Reads and FirstFault say, computed: for the reader's own functions and for examples. That the verdicts are right is
-- a law.
use Rattle.std.specs.Prelude.{ℕ, zero, suc, ◌+◌, Bool, true, false, ◌&&◌, nat_le, if◌then◌else◌, is_some, is_none, ℤ, List, [], ◌∷◌, ◌++◌}
use Rattle.std.specs.Prelude.{map, length, codes, bytes_eq, Option, Some, None, option_map, option_and_then, Result, Ok, Err}
use Rattle.std.specs.List.{list_any}
use Rattle.pq_base.specs.LPresentation.{LPresentation}
use Rattle.lpres_reader.specs.declared.token.Symbol.TheVariants.{Comma}
use Rattle.lpres_reader.specs.Lines.{is_skipped, lines_of, is_opening, is_closing}
use Rattle.lpres_reader.specs.Tokens.{Token, name, number, symbol}
use Rattle.lpres_reader.specs.Front.{Front, line_end, no_token, token_first, front_of}
use Rattle.lpres_reader.specs.Items.{Mapping, words_from, endo}
use Rattle.lpres_reader.specs.Trees.{ItemTree, relators, arrows, body_tokens, place_of, relator_meaning, arrow_meaning, sort_item}
use Rattle.lpres_reader.specs.Parser.{State, run, parse_item}
use Rattle.lpres_reader.specs.Trials.{Trial, most, reported, item_trials, names_trials, added}
use Rattle.lpres_reader.specs.Faults.{Kind, Deep, Syntax, UnknownName, RepeatedName, Limit, NotAllImages}

abbrev pub one_if : Bool → ℕ
one_if true = 1
one_if false = 0

-- behind `opened` brackets, of which `allowed` may be open
abbrev pub shallow_from : ℕ → ℕ → List ℕ → Bool
shallow_from opened allowed [] = nat_le opened allowed
shallow_from opened allowed (b ∷ line) =
    nat_le opened allowed && shallow_from (one_if (is_opening b) + opened) (one_if (is_closing b) + allowed) line

abbrev pub is_shallow : List ℕ → Bool
is_shallow line = shallow_from 0 64 line

-- the tokens of a line
abbrev pub tokens_at : (List ℕ → Option (List Token)) → Front → Option (List Token)
tokens_at more line_end = Some []
tokens_at more no_token = None
tokens_at more (token_first t rest) = option_map (λ ts. t ∷ ts) (more rest)

-- of a line of at most n bytes
abbrev pub tokens_within : ℕ → List ℕ → Option (List Token)
tokens_within zero line = tokens_at (λ rest. None) (front_of line)
tokens_within (suc n) line = tokens_at (tokens_within n) (front_of line)

abbrev pub tokens_of : List ℕ → Option (List Token)
tokens_of line = tokens_within (length line) line

-- what the line is whose tokens so far lead to the state, where this is left of it
abbrev pub rest_of_line : State → List ℕ → Option ItemTree
rest_of_line state line = option_and_then (run state) (tokens_of line)

-- the names that tokens are
abbrev pub names_of : List Token → Option (List (List ℕ))
names_of [] = None
names_of (name n ∷ []) = Some (n ∷ [])
names_of (name n ∷ symbol Comma ∷ ts) = option_map (λ ns. n ∷ ns) (names_of ts)
names_of (name n ∷ ts) = option_map (λ ns. n ∷ ns) (names_of ts)
names_of (number digits ∷ ts) = None
names_of (symbol s ∷ ts) = None

abbrev pub generator_names : List Token → Option (List (List ℕ))
generator_names [] = None
generator_names (name n ∷ ts) = if bytes_eq n (codes "generators") then names_of ts else None
generator_names (number digits ∷ ts) = None
generator_names (symbol s ∷ ts) = None

abbrev pub are_known : List (List ℕ) → List Token → Bool
are_known names [] = true
are_known names (name n ∷ ts) = is_some (place_of names n) && are_known names ts
are_known names (number digits ∷ ts) = are_known names ts
are_known names (symbol s ∷ ts) = are_known names ts

abbrev pub are_distinct : List (List ℕ) → Bool
are_distinct [] = true
are_distinct (n ∷ names) = is_none (place_of names n) && are_distinct names

abbrev pub first_passed : List Trial → Option Trial
first_passed [] = None
first_passed (t ∷ ts) = if nat_le t.size (most t.limit) then first_passed ts else Some t

-- the one word of a list, behind the images before it
abbrev pub image_behind : List (List ℤ) → List (List ℤ) → Option (List (List ℤ))
image_behind [] f = None
image_behind (w ∷ []) f = Some (f ++ w ∷ [])
image_behind (w ∷ v ∷ ws) f = None

-- the images of the first n generators
abbrev pub images_of : ℕ → List Mapping → Option (List (List ℤ))
images_of zero ms = Some []
images_of (suc n) ms = option_and_then (image_behind (words_from n ms)) (images_of n ms)

-- lines
abbrev pub bare : List (List ℕ) → LPresentation
bare names = record { names = names; fixed = []; iterated = []; endos = [] }

abbrev pub limit_verdict : Option Trial → Result LPresentation Kind → Result LPresentation Kind
limit_verdict None next = next
limit_verdict (Some t) next = Err (Limit t.limit (reported t.limit t.size))

abbrev pub names_verdict : Option (List (List ℕ)) → Result LPresentation Kind
names_verdict None = Err Syntax
names_verdict (Some names) =
    if are_distinct names then limit_verdict (first_passed (names_trials 0 names)) (Ok (bare names)) else Err RepeatedName

abbrev pub images_verdict : LPresentation → Option (List (List ℤ)) → Result LPresentation Kind
images_verdict M None = Err NotAllImages
images_verdict M (Some f) = Ok (added M (endo f))

abbrev pub item_end : LPresentation → ItemTree → Result LPresentation Kind
item_end M (relators s rs r) = Ok (added M (sort_item s (map (relator_meaning M.names) (rs ++ r ∷ []))))
item_end M (arrows qs q) = images_verdict M (images_of (length M.names) (map (arrow_meaning M.names) (qs ++ q ∷ [])))

abbrev pub item_verdict : LPresentation → Option ItemTree → Result LPresentation Kind
item_verdict M None = Err Syntax
item_verdict M (Some i) =
    if are_known M.names (body_tokens i) then limit_verdict (first_passed (item_trials M i)) (item_end M i) else Err UnknownName

-- a line that is not skipped, behind nothing or behind a presentation
abbrev pub line_verdict : Option LPresentation → List ℕ → Result LPresentation Kind
line_verdict None line = if is_shallow line then names_verdict (option_and_then generator_names (tokens_of line)) else Err Deep
line_verdict (Some M) line = if is_shallow line then item_verdict M (option_and_then parse_item (tokens_of line)) else Err Deep

-- lines from line n on
abbrev pub next_verdict : ℕ → Result LPresentation Kind → (Option LPresentation → Result (Option LPresentation) (ℕ × Kind))
    → Result (Option LPresentation) (ℕ × Kind)
next_verdict n (Ok L) more = more (Some L)
next_verdict n (Err kind) more = Err (n, kind)

abbrev pub kept_verdict : Bool → ℕ → Option LPresentation → List ℕ → (Option LPresentation → Result (Option LPresentation) (ℕ × Kind))
    → Result (Option LPresentation) (ℕ × Kind)
kept_verdict true n m line more = more m
kept_verdict false n m line more = next_verdict n (line_verdict m line) more

abbrev pub lines_verdict : ℕ → Option LPresentation → List (List ℕ) → Result (Option LPresentation) (ℕ × Kind)
lines_verdict n m [] = Ok m
lines_verdict n m (line ∷ lines) = kept_verdict (is_skipped line) n m line (λ k. lines_verdict (suc n) k lines)

abbrev pub is_generators : Front → Bool
is_generators line_end = false
is_generators no_token = false
is_generators (token_first (name n) rest) = bytes_eq n (codes "generators")
is_generators (token_first (number digits) rest) = false
is_generators (token_first (symbol s) rest) = false

-- texts: a presentation, or the number of a line and a kind
abbrev pub end_verdict : ℕ → Result (Option LPresentation) (ℕ × Kind) → Result LPresentation (ℕ × Kind)
end_verdict n (Ok (Some L)) = Ok L
end_verdict n (Ok None) = Err (n, Syntax)
end_verdict n (Err fault) = Err fault

abbrev pub text_verdict : List ℕ → Result LPresentation (ℕ × Kind)
text_verdict text =
    if list_any (λ line. is_generators (front_of line)) (lines_of text)
    then end_verdict (length (lines_of text)) (lines_verdict 1 None (lines_of text))
    else Err (length (lines_of text), Syntax)
