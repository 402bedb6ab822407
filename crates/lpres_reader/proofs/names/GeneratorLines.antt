-- The names on a line of generators, by its tokens from the left.
use Rattle.std.proofs.Common.{◌≡◌, ℕ, false, Bool, if◌then◌else◌, List, [], ◌∷◌, length, bytes_eq, codes, All, MatchOption, ◌≤◌, Option}
use Rattle.std.proofs.Common.{Some, None, option_map, option_and_then, refl, ap, subst, ◌∙◌}
use Rattle.lpres_reader.specs.declared.token.Symbol.{Symbol}
use Rattle.lpres_reader.specs.declared.token.Symbol.TheVariants.{Comma}
use Rattle.std.specs.List.{AllByRecursion}
use Rattle.std.proofs.lemmas.List.Elements.{All-from_recursion}
use Rattle.pq_base.specs.Name.{IsNameText}
use Rattle.lpres_reader.specs.Tokens.{Token, name, number, symbol, ReadsTokens, no_more, blank_first, name_first, number_first}
use Rattle.lpres_reader.specs.Tokens.{symbol_first}
use Rattle.lpres_reader.specs.Items.{ReadsNames, last_name, next_name, next_name_after_comma}
use Rattle.lpres_reader.specs.Reads.{IsGenerators}
use Rattle.lpres_reader.specs.Front.{Front, line_end, no_token, token_first, front_of, IsNamed}
use Rattle.lpres_reader.specs.Verdicts.{tokens_of, names_of, generator_names}
use Rattle.lpres_reader.specs.GeneratorNames.{line_names, names_at, names_behind, names_on, named_first, names_from}
use Rattle.lpres_reader.proofs.names.NamesLaws.{names_some, generator_names_right}
use Rattle.lpres_reader.proofs.faults.Decisions.{AreTokens, tokens_of-found}
use Rattle.lpres_reader.proofs.texts.LineSteps.{tokens_of-line_end, tokens_of-no_token, tokens_of-token_first}

names_of-name : (n : List ℕ) (ts : List Token) → names_of (name n ∷ ts) ≡ named_first n (names_behind ts)
names_of-name n [] = refl
names_of-name n (symbol Comma ∷ ts) = refl
names_of-name n (name m ∷ ts) = refl
names_of-name n (number m ∷ ts) = refl
names_of-name n (symbol s ∷ ts) = refl

-- tokens with a first one
first_token : {X : Type 0} (f : List Token → Option X) (line rest : List ℕ) (t : Token) (g : List Token → Option X)
    → ((ts : List Token) → f (t ∷ ts) ≡ g ts)
    → front_of line ≡ token_first t rest → option_and_then f (tokens_of line) ≡ option_and_then g (tokens_of rest)
first_token f line rest t g e front = ap (option_and_then f) (tokens_of-token_first line t rest front) ∙ by (tokens_of rest)
  where
    by : (o : Option (List Token)) → option_and_then f (option_map (λ ts. t ∷ ts) o) ≡ option_and_then g o
    by None = refl
    by (Some ts) = e ts

nothing_first : {X : Type 0} (o : Option X) → option_and_then (λ (x : X). let nothing : Option (List (List ℕ)) = None in nothing) o ≡ None
nothing_first None = refl
nothing_first (Some x) = refl

nowhere : (f : List Token → Option (List (List ℕ))) (line rest : List ℕ) (t : Token) → ((ts : List Token) → f (t ∷ ts) ≡ None)
    → front_of line ≡ token_first t rest → option_and_then f (tokens_of line) ≡ None
nowhere f line rest t e front = first_token f line rest t (λ ts. None) e front ∙ nothing_first (tokens_of rest)

later_names : (n : List ℕ) (o : Option (List Token))
    → option_and_then (λ ts. named_first n (names_behind ts)) o ≡ named_first n (option_and_then names_behind o)
later_names n None = refl
later_names n (Some ts) = refl

pub line_names-keyword : (line rest : List ℕ) → front_of line ≡ token_first (name (codes "generators")) rest
    → line_names line ≡ names_at rest
line_names-keyword line rest front = first_token generator_names line rest (name (codes "generators")) names_of (λ ts. refl) front

pub line_names-other : (line rest n : List ℕ) → bytes_eq n (codes "generators") ≡ false → front_of line ≡ token_first (name n) rest
    → line_names line ≡ None
line_names-other line rest n other front =
    nowhere generator_names line rest (name n) (λ ts. ap (λ (b : Bool). if b then names_of ts else None) other) front

pub names_at-name : (line rest n : List ℕ) → front_of line ≡ token_first (name n) rest → names_at line ≡ named_first n (names_on rest)
names_at-name line rest n front =
    first_token names_of line rest (name n) (λ ts. named_first n (names_behind ts)) (names_of-name n) front ∙ later_names n (tokens_of rest)

pub names_on-line_end : (line : List ℕ) → front_of line ≡ line_end → names_on line ≡ Some []
names_on-line_end line front = ap (option_and_then names_behind) (tokens_of-line_end line front)

-- lines that do not go on
pub names_on-no_token : (line : List ℕ) → front_of line ≡ no_token → names_on line ≡ None
names_on-no_token line front = ap (option_and_then names_behind) (tokens_of-no_token line front)

pub names_on-token_first : (line rest : List ℕ) (t : Token) → front_of line ≡ token_first t rest → names_on line ≡ names_from t rest
names_on-token_first line rest (name n) front =
    first_token names_behind line rest (name n) (λ ts. named_first n (names_behind ts)) (names_of-name n) front
    ∙ later_names n (tokens_of rest)
names_on-token_first line rest (number n) front = nowhere names_behind line rest (number n) (λ ts. refl) front
names_on-token_first line rest (symbol Comma) front = first_token names_behind line rest (symbol Comma) names_of (λ ts. refl) front
names_on-token_first line rest (symbol s) front = nowhere names_behind line rest (symbol s) (λ ts. refl) front

pub names_from-symbol : (s : Symbol) (rest : List ℕ) → (s ≡ Comma → ⊥) → names_from (symbol s) rest ≡ None
names_from-symbol Comma rest other = absurd (other refl)
names_from-symbol s rest other = refl

-- no name comes first
unnamed : (f : List Token → Option (List (List ℕ))) → f [] ≡ None → ((n : List ℕ) (ts : List Token) → f (number n ∷ ts) ≡ None)
    → ((s : Symbol) (ts : List Token) → f (symbol s ∷ ts) ≡ None)
    → (line : List ℕ) → ¬ IsNamed (front_of line) → option_and_then f (tokens_of line) ≡ None
unnamed f empty numbers symbols line other = by (front_of line) refl other
  where
    by : (front : Front) → front_of line ≡ front → ¬ IsNamed front → option_and_then f (tokens_of line) ≡ None
    by line_end e h = ap (option_and_then f) (tokens_of-line_end line e) ∙ empty
    by no_token e h = ap (option_and_then f) (tokens_of-no_token line e)
    by (token_first (name n) rest) e h = absurd (h tt)
    by (token_first (number n) rest) e h = nowhere f line rest (number n) (numbers n) e
    by (token_first (symbol s) rest) e h = nowhere f line rest (symbol s) (symbols s) e

pub names_at-unnamed : (line : List ℕ) → ¬ IsNamed (front_of line) → names_at line ≡ None
names_at-unnamed line other = unnamed names_of refl (λ n ts. refl) (λ s ts. refl) line other

pub line_names-unnamed : (line : List ℕ) → ¬ IsNamed (front_of line) → line_names line ≡ None
line_names-unnamed line other = unnamed generator_names refl (λ n ts. refl) (λ s ts. refl) line other

-- all names have the form of one
abbrev AreNameTexts : List Token → Type 0
AreNameTexts [] = Unit {0}
AreNameTexts (name n ∷ ts) = IsNameText n × AreNameTexts ts
AreNameTexts (number n ∷ ts) = AreNameTexts ts
AreNameTexts (symbol s ∷ ts) = AreNameTexts ts

token_texts : {line : List ℕ} {ts : List Token} → ReadsTokens line ts → AreNameTexts ts
token_texts no_more = tt
token_texts (blank_first b rest e blank d) = token_texts d
token_texts (name_first text rest e is stops d) = (is, token_texts d)
token_texts (number_first text rest e is stops d) = token_texts d
token_texts (symbol_first s rest e d) = token_texts d

name_texts : {ts : List Token} {ns : List (List ℕ)} → ReadsNames ts ns → AreNameTexts ts → AllByRecursion IsNameText ns
name_texts (last_name n) h = (h.0, tt)
name_texts (next_name n d) h = (h.0, name_texts d h.1)
name_texts (next_name_after_comma n d) h = (h.0, name_texts d h.1)

-- what names that are found are
pub record AreLineNames (line : List ℕ) (names : List (List ℕ)) : Type 0 where
  pub texts : All IsNameText names
  pub some : 1 ≤ length names

line_found : (line : List ℕ) (names : List (List ℕ)) (o : Option (List Token)) → AreTokens line o
    → option_and_then generator_names o ≡ Some names → AreLineNames line names
line_found line names None d e = absurd (cc e)
line_found line names (Some ts) d e =
    let formed =
    subst (λ (p : Option (List (List ℕ))). MatchOption p ((ns : List (List ℕ)) → IsGenerators ns ts → ⊥) (λ ns. IsGenerators ns ts)) e
    (generator_names_right ts) in
    let texts = subst AreNameTexts formed.1 (token_texts d) in
    record { texts = All-from_recursion IsNameText names (name_texts formed.2 texts.1); some = names_some formed.2 }

pub line_names-are : (line : List ℕ) (names : List (List ℕ)) → line_names line ≡ Some names → AreLineNames line names
line_names-are line names e = line_found line names (tokens_of line) (tokens_of-found line) e
