-- What is left of a line of generators, as names, and whether they keep their limits, for the reader's own functions.
use Rattle.std.specs.Prelude.{◌≡◌, ℕ, List, [], ◌∷◌, map, Option, Some, None, option_map, option_and_then}
use Rattle.std.specs.Borrow.{Bor}
use Rattle.lpres_reader.specs.declared.token.Symbol.TheVariants.{Comma}
use Rattle.lpres_reader.specs.Tokens.{Token, name, symbol}
use Rattle.lpres_reader.specs.Presentations.{AreGenerators}
use Rattle.lpres_reader.specs.Trials.{Trial, reported, names_trials}
use Rattle.lpres_reader.specs.Faults.{Limit}
use Rattle.lpres_reader.specs.Verdicts.{tokens_of, names_of, generator_names, first_passed}
use Rattle.lpres_reader.specs.Stops.{kind_of}

-- the names of a whole line of generators
abbrev pub line_names : List ℕ → Option (List (List ℕ))
line_names line = option_and_then generator_names (tokens_of line)

-- a line, or what is left of one, as names
abbrev pub names_at : List ℕ → Option (List (List ℕ))
names_at line = option_and_then names_of (tokens_of line)

-- the names that tokens behind a name are
abbrev pub names_behind : List Token → Option (List (List ℕ))
names_behind [] = Some []
names_behind (symbol Comma ∷ ts) = names_of ts
names_behind ts = names_of ts

abbrev pub names_on : List ℕ → Option (List (List ℕ))
names_on line = option_and_then names_behind (tokens_of line)

-- a name, and more behind it
abbrev pub named_first : List ℕ → Option (List (List ℕ)) → Option (List (List ℕ))
named_first n more = option_map (λ ns. n ∷ ns) more

-- a line that begins with this token, behind a name
abbrev pub names_from : Token → List ℕ → Option (List (List ℕ))
names_from (name n) rest = named_first n (names_on rest)
names_from (symbol Comma) rest = names_at rest
names_from t rest = None

-- texts that lie in a line
abbrev pub texts_of : List (Bor (List ℕ)) → List (List ℕ)
texts_of texts = map (λ t. t.now) texts

-- the fault is the first limit that names pass
abbrev pub PassesFirst : List (List ℕ) → Rattle.lpres_reader.specs.declared.fault.Kind.Kind → Type 0
PassesFirst names k = (t : Trial) × (first_passed (names_trials 0 names) ≡ Some t) × (kind_of k ≡ Limit t.limit (reported t.limit t.size))

-- generators that keep all limits
pub record AreWithin (names keys : List (List ℕ)) : Type 0 where
  pub same : keys ≡ names
  pub generators : AreGenerators keys
  pub kept : first_passed (names_trials 0 names) ≡ None
