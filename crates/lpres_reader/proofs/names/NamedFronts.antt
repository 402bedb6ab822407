-- A line has a name as its first token exactly where its front is this token.
use Rattle.std.proofs.Common.{◌≡◌, ℕ, cond, eqb, List, [], ◌∷◌, ◌++◌, take, drop, Option, Some, None, refl, ap, sym, subst, ◌∙◌}
use Rattle.std.proofs.Common.{append_assoc}
use Rattle.std.specs.List.{prefix_len}
use Rattle.std.specs.Char.{is_ascii_digit}
use Rattle.std.proofs.lemmas.Bool.{cond-true, cond_both}
use Rattle.std.proofs.lemmas.List.{append-nil, take-append-drop}
use Rattle.pq_base.specs.Name.{is_letter, is_name_byte}
use Rattle.lpres_reader.specs.declared.token.Symbol.{Symbol}
use Rattle.lpres_reader.specs.declared.token.Symbol.TheVariants.{Arrow, Minus}
use Rattle.lpres_reader.specs.Lines.{is_blank}
use Rattle.lpres_reader.specs.Tokens.{Token, name, number, symbol, StopsBefore, BeginsWithName, ReadsTokens, no_more, blank_first}
use Rattle.lpres_reader.specs.Tokens.{name_first, number_first, symbol_first}
use Rattle.lpres_reader.specs.Front.{Front, token_first, symbol_of, front_at_symbol, front_at_minus, front_at_run, front_at, front_of}
use Rattle.lpres_reader.proofs.texts.FrontLemmas.{name_front, name_text, StopsBefore-prefix}

stops_behind : (more rest : List ℕ) → StopsBefore is_name_byte more → StopsBefore is_name_byte rest
    → StopsBefore is_name_byte (more ++ rest)
stops_behind [] rest h k = k
stops_behind (b ∷ more) rest h k = h

front_behind : (n rest : List ℕ) {front : List ℕ} {ts : List Token} → ReadsTokens front ts → ts ≡ name n ∷ []
    → StopsBefore is_name_byte rest
    → (more : List ℕ) × (front_of (front ++ rest) ≡ token_first (name n) more)
front_behind n rest no_more e stops = absurd cc
front_behind n rest (blank_first b others is blank d) e stops =
    let found = front_behind n rest d e stops in
    (found.0, ap (λ (l : List ℕ). front_of (l ++ rest)) is ∙ cond-true (is_blank b) _ _ blank ∙ found.1)
front_behind n rest (name_first text others is formed ends d) e stops =
    let same : text ≡ n = cc in (
      others ++ rest,
      ap (λ (l : List ℕ). front_of (l ++ rest)) is ∙ ap front_of (append_assoc text others rest)
          ∙ name_front text (others ++ rest) formed (stops_behind others rest ends stops)
          ∙ ap (λ (m : List ℕ). token_first (name m) (others ++ rest)) same,
    )
front_behind n rest (number_first text others is formed ends d) e stops = absurd cc
front_behind n rest (symbol_first s others is d) e stops = absurd cc

pub front_of-named : (n line : List ℕ) → BeginsWithName n line → (rest : List ℕ) × (front_of line ≡ token_first (name n) rest)
front_of-named n line b =
    let found = front_behind n b.rest b.token refl b.stops in
    (found.0, ap front_of b.is ∙ found.1)

-- the front tells of the line that it begins with the name
abbrev Told : List ℕ → List ℕ → Front → Type 0
Told n line f = (rest : List ℕ) → f ≡ token_first (name n) rest → BeginsWithName n line

told_symbol : (n line : List ℕ) (o : Option Symbol) (behind : List ℕ) → Told n line (front_at_symbol o behind)
told_symbol n line None behind rest e = absurd cc
told_symbol n line (Some s) behind rest e = absurd cc

told_minus : (n line : List ℕ) (behind : List ℕ) → Told n line (front_at_minus behind)
told_minus n line [] = λ rest e. absurd cc
told_minus n line (b ∷ behind) =
    cond_both (eqb b 62) (token_first (symbol Arrow) behind) (token_first (symbol Minus) (b ∷ behind)) (Told n line) (λ _ rest e. absurd cc)
    (λ _ rest e. absurd cc)

told_at : (n : List ℕ) (b : ℕ) (behind : List ℕ) → Told n (b ∷ behind) (front_at b behind)
told_at n b behind =
    let line = b ∷ behind in
    let k = prefix_len is_name_byte line in
    let at_symbol = front_at_symbol (symbol_of b) behind in
    let at_minus = cond (eqb b 45) (front_at_minus behind) at_symbol in
    let at_digit = cond (is_ascii_digit b) (front_at_run number is_ascii_digit line) at_minus in
    cond_both (is_letter b) (front_at_run name is_name_byte line) at_digit (Told n line)
    (λ letter rest e.
    let is : take k line ≡ n = cc in
    let whole : take k line ≡ take k line ++ [] = sym (append-nil (take k line)) in
    let alone : ReadsTokens (take k line) (name (take k line) ∷ []) =
    name_first (take k line) [] whole (name_text b behind letter) tt no_more in
    record {
      front = take k line;
      rest = drop k line;
      is = sym (take-append-drop k line);
      token = subst (λ (m : List ℕ). ReadsTokens (take k line) (name m ∷ [])) is alone;
      stops = StopsBefore-prefix is_name_byte line;
    })
    (λ _. cond_both (is_ascii_digit b) (front_at_run number is_ascii_digit line) at_minus (Told n line)
    (λ _ rest e. absurd cc)
    (λ _. cond_both (eqb b 45) (front_at_minus behind) at_symbol (Told n line) (λ _. told_minus n line behind)
    (λ _. told_symbol n line (symbol_of b) behind)))

pub named_front : (n line : List ℕ) → Told n line (front_of line)
named_front n [] = λ rest e. absurd cc
named_front n (b ∷ line) =
    cond_both (is_blank b) (front_of line) (front_at b line) (Told n (b ∷ line))
    (λ blank rest e.
    let m = named_front n line rest e in
    record {
      front = b ∷ m.front;
      rest = m.rest;
      is = ap (λ (l : List ℕ). b ∷ l) m.is;
      token = blank_first b m.front refl blank m.token;
      stops = m.stops;
    })
    (λ _. told_at n b line)
