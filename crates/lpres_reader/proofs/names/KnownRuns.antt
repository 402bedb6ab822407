-- The names of a line are known exactly where each is, one after the other.
use Rattle.std.proofs.Common.{◌≡◌, ◌<◌, ℕ, Bool, true, false, ◌&&◌, List, [], ◌∷◌, length, get_or, Option, Some, None, is_some, refl, sym}
use Rattle.std.proofs.Common.{subst}
use Rattle.lpres_reader.specs.Tokens.{Token, name, number, symbol, ReadsTokens}
use Rattle.lpres_reader.specs.Front.{line_end, token_first, front_of}
use Rattle.lpres_reader.specs.Trees.{place_of, AreKnown}
use Rattle.lpres_reader.specs.Known.{is_known, TellsKnown}
use Rattle.lpres_reader.proofs.texts.FrontLemmas.{tokens_behind}
use Rattle.lpres_reader.proofs.texts.LineTokens.{end_only}
use Rattle.lpres_reader.proofs.names.Places.{place_of-Some, place_of-None}

name_known : (names : List (List ℕ)) (n : List ℕ) (o : Option ℕ) → place_of names n ≡ o → is_some o ≡ true
    → (k : ℕ) × (k < length names) × (get_or names k [] ≡ n)
name_known names n None e t = absurd (cc t)
name_known names n (Some k) e t = let at = place_of-Some names n k e in (k, at.0, at.1)

token_known : (names : List (List ℕ)) (t : Token) (ts : List Token) → is_known names t ≡ true → AreKnown names ts → AreKnown names (t ∷ ts)
token_known names (name n) ts e h = (name_known names n (place_of names n) refl e, h)
token_known names (number d) ts e h = h
token_known names (symbol s) ts e h = h

tail_known : (names : List (List ℕ)) (t : Token) (ts : List Token) → AreKnown names (t ∷ ts) → AreKnown names ts
tail_known names (name n) ts h = h.1
tail_known names (number d) ts h = h
tail_known names (symbol s) ts h = h

name_unknown : (names : List (List ℕ)) (n : List ℕ) (o : Option ℕ) → place_of names n ≡ o → is_some o ≡ false
    → (k : ℕ) × (k < length names) × (get_or names k [] ≡ n) → ⊥
name_unknown names n None e f h = place_of-None names n h.0 e h.1 h.2
name_unknown names n (Some k) e f h = cc

token_unknown : (names : List (List ℕ)) (t : Token) (ts : List Token) → is_known names t ≡ false → AreKnown names (t ∷ ts) → ⊥
token_unknown names (name n) ts e h = name_unknown names n (place_of names n) refl e h.0
token_unknown names (number d) ts e h = cc
token_unknown names (symbol s) ts e h = cc

-- the tokens of the line are known exactly where those of the rest are
pub record KnownRest (names : List (List ℕ)) (line rest : List ℕ) (ts : List Token) : Type 0 where
  pub left : List Token
  pub spelled : ReadsTokens rest left
  pub to : AreKnown names ts → AreKnown names left
  pub from : AreKnown names left → AreKnown names ts

pub record KnowsOn (names : List (List ℕ)) (line rest : List ℕ) : Type 0 where
  pub on : (ts : List Token) → ReadsTokens line ts → KnownRest names line rest ts

pub knows_first : (names : List (List ℕ)) (line : List ℕ) → KnowsOn names line line
knows_first names line = record { on = λ ts d. record { left = ts; spelled = d; to = λ h. h; from = λ h. h } }

knows_next : (names : List (List ℕ)) (line rest after : List ℕ) (t : Token) → KnowsOn names line rest → front_of rest ≡ token_first t after
    → is_known names t ≡ true → KnowsOn names line after
knows_next names line rest after t k front e = record {
  on = λ ts d.
      let a = k.on ts d in
      let b = tokens_behind rest after t a.left front a.spelled in
      record {
        left = b.0;
        spelled = b.2;
        to = λ h. tail_known names t b.0 (subst (AreKnown names) b.1 (a.to h));
        from = λ h. a.from (subst (AreKnown names) (sym b.1) (token_known names t b.0 e h));
      };
}

knows_not : (names : List (List ℕ)) (line rest after : List ℕ) (t : Token) → KnowsOn names line rest → front_of rest ≡ token_first t after
    → is_known names t ≡ false
    → (ts : List Token) → ReadsTokens line ts → ¬ AreKnown names ts
knows_not names line rest after t k front e ts d h =
    let a = k.on ts d in
    let b = tokens_behind rest after t a.left front a.spelled in
    token_unknown names t b.0 e (subst (AreKnown names) b.1 (a.to h))

knows_all : (names : List (List ℕ)) (line rest : List ℕ) → KnowsOn names line rest → front_of rest ≡ line_end → (ts : List Token)
    → ReadsTokens line ts → AreKnown names ts
knows_all names line rest k front ts d =
    let a = k.on ts d in
    a.from (subst (AreKnown names) (sym (end_only rest a.left front a.spelled)) tt)

-- what is told of the tokens before the rest
abbrev pub KnownSoFar : List (List ℕ) → List ℕ → List ℕ → Bool → Type 0
KnownSoFar names line rest true = KnowsOn names line rest
KnownSoFar names line rest false = (ts : List Token) → ReadsTokens line ts → ¬ AreKnown names ts

pub known_next : (names : List (List ℕ)) (line rest after : List ℕ) (t : Token) (known b : Bool) → KnownSoFar names line rest known
    → front_of rest ≡ token_first t after → is_known names t ≡ b → KnownSoFar names line after (known && b)
known_next names line rest after t true true k front e = knows_next names line rest after t k front e
known_next names line rest after t true false k front e = knows_not names line rest after t k front e
known_next names line rest after t false b k front e = k

pub known_end : (names : List (List ℕ)) (line rest : List ℕ) (known : Bool) → KnownSoFar names line rest known → front_of rest ≡ line_end
    → (ts : List Token) → ReadsTokens line ts → TellsKnown names ts known
known_end names line rest true k end = knows_all names line rest k end
known_end names line rest false k end = k
