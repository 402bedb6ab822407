-- A line is a list of tokens exactly where its front is the first of them and what is behind it is the others. So a
-- line is at most one list of tokens.
use Rattle.std.proofs.Common.{◌≡◌, ℕ, suc, ◌+◌, ◌-◌, ◌<◌, Bool, true, false, cond, eqb, List, [], ◌∷◌, ◌++◌, length, take, drop, refl, sym}
use Rattle.std.proofs.Common.{ap, subst, ◌∙◌, arith, Option, Some, None}
use Rattle.std.specs.List.{list_all, prefix_len, AllByRecursion}
use Rattle.std.specs.Char.{is_ascii_digit}
use Rattle.std.proofs.lemmas.Bool.{and_parts, and_from, or_left, cond-true, cond-false, cond_both, false_from_ne_true, eqb-true}
use Rattle.std.proofs.lemmas.Bool.Decides.{nat_tests}
use Rattle.std.proofs.lemmas.List.{take_at, drop_at, take-append-drop, length-drop}
use Rattle.pq_base.specs.Name.{is_letter, is_name_byte, IsNameText}
use Rattle.lpres_reader.specs.declared.token.Symbol.{Symbol}
use Rattle.lpres_reader.specs.declared.token.Symbol.TheVariants.{Arrow, Star, Caret, Minus, Equals, Comma, OpenRound, CloseRound}
use Rattle.lpres_reader.specs.declared.token.Symbol.TheVariants.{OpenSquare, CloseSquare}
use Rattle.lpres_reader.specs.Lines.{is_blank}
use Rattle.lpres_reader.specs.Tokens.{Token, name, number, symbol, symbol_bytes, IsNumberText, StopsBefore, ReadsTokens, no_more}
use Rattle.lpres_reader.specs.Tokens.{blank_first, name_first, number_first, symbol_first}
use Rattle.lpres_reader.specs.Front.{Front, line_end, no_token, token_first, symbols, symbol_among, symbol_of, front_at_symbol}
use Rattle.lpres_reader.specs.Front.{front_at_minus, front_at_run, front_at, front_of}

-- the line with this front is these tokens
abbrev pub Follows : Front → List Token → Type 0
Follows line_end ts = ts ≡ []
Follows no_token ts = ⊥
Follows (token_first t rest) ts = (us : List Token) × (ts ≡ t ∷ us) × ReadsTokens rest us

-- a run of bytes that pass a test, where it stops
pub prefix_len-run : (test : ℕ → Bool) (run rest : List ℕ) → list_all test run ≡ true → StopsBefore test rest
    → prefix_len test (run ++ rest) ≡ length run
prefix_len-run test [] [] all stops = refl
prefix_len-run test [] (b ∷ rest) all stops = cond-false (test b) _ _ stops
prefix_len-run test (b ∷ run) rest all stops =
    let parts = and_parts (test b) (list_all test run) all in
    cond-true (test b) _ _ parts.0 ∙ omega (arith, prefix_len-run test run rest parts.1 stops)

pub list_all-prefix : (test : ℕ → Bool) (line : List ℕ) → list_all test (take (prefix_len test line) line) ≡ true
list_all-prefix test [] = refl
list_all-prefix test (b ∷ line) =
    let Good : ℕ → Type 0 = λ n. list_all test (take n (b ∷ line)) ≡ true in
    cond_both (test b) (1 + prefix_len test line) 0 Good
    (λ e. let one : suc (prefix_len test line) ≡ 1 + prefix_len test line = omega arith in
    subst Good one (and_from (test b) _ e (list_all-prefix test line)))
    (λ e. refl)

pub StopsBefore-prefix : (test : ℕ → Bool) (line : List ℕ) → StopsBefore test (drop (prefix_len test line) line)
StopsBefore-prefix test [] = tt
StopsBefore-prefix test (b ∷ line) =
    let Good : ℕ → Type 0 = λ n. StopsBefore test (drop n (b ∷ line)) in
    cond_both (test b) (1 + prefix_len test line) 0 Good
    (λ e. let one : suc (prefix_len test line) ≡ 1 + prefix_len test line = omega arith in
    subst Good one (StopsBefore-prefix test line))
    (λ e. e)

-- what a byte is, it is alone
letter_only : (b : ℕ) → is_letter b ≡ true → is_blank b ≡ false
letter_only b e = grind (arith, nat_tests)

digit_only : (b : ℕ) → is_ascii_digit b ≡ true → (is_blank b ≡ false) × (is_letter b ≡ false)
digit_only b e = (grind (arith, nat_tests), grind (arith, nat_tests))

letter_in_name : (b : ℕ) → is_letter b ≡ true → is_name_byte b ≡ true
letter_in_name b e = or_left (is_letter b) _ e

-- the front of a run of bytes
run_is : (token : List ℕ → Token) (test : ℕ → Bool) (run rest : List ℕ) → list_all test run ≡ true → StopsBefore test rest
    → front_at_run token test (run ++ rest) ≡ token_first (token run) rest
run_is token test run rest all stops =
    let long = prefix_len-run test run rest all stops in
    ap (λ (n : ℕ). token_first (token (take n (run ++ rest))) (drop n (run ++ rest))) long
    ∙ ap (λ (r : List ℕ). token_first (token r) (drop (length run) (run ++ rest))) (take_at run rest (length run) refl)
    ∙ ap (λ (r : List ℕ). token_first (token run) r) (drop_at run rest (length run) refl)

pub name_front : (text rest : List ℕ) → IsNameText text → StopsBefore is_name_byte rest
    → front_of (text ++ rest) ≡ token_first (name text) rest
name_front [] rest h stops = absurd cc
name_front (b ∷ text) rest h stops =
    let parts = and_parts (is_letter b) (list_all is_name_byte text) h in
    cond-false (is_blank b) _ _ (letter_only b parts.0)
    ∙ cond-true (is_letter b) _ _ parts.0
    ∙ run_is name is_name_byte (b ∷ text) rest (and_from (is_name_byte b) _ (letter_in_name b parts.0) parts.1) stops

number_front : (text rest : List ℕ) → IsNumberText text → StopsBefore is_ascii_digit rest
    → front_of (text ++ rest) ≡ token_first (number text) rest
number_front [] rest h stops = absurd cc
number_front (b ∷ text) rest h stops =
    let parts = and_parts (is_ascii_digit b) (list_all is_ascii_digit text) h in
    let only = digit_only b parts.0 in
    cond-false (is_blank b) _ _ only.0
    ∙ cond-false (is_letter b) _ _ only.1
    ∙ cond-true (is_ascii_digit b) _ _ parts.0
    ∙ run_is number is_ascii_digit (b ∷ text) rest h stops

-- a minus is no arrow where tokens follow
minus_front : (rest : List ℕ) (ts : List Token) → Follows (front_of rest) ts → front_at_minus rest ≡ token_first (symbol Minus) rest
minus_front [] ts f = refl
minus_front (b ∷ rest) ts f = cond-false (eqb b 62) _ _ (false_from_ne_true (eqb b 62) (λ e.
    let is : b ≡ 62 = eqb-true b 62 e in
    subst (λ (c : ℕ). Follows (front_of (c ∷ rest)) ts) is f))

symbol_front : (s : Symbol) (rest : List ℕ) (ts : List Token) → Follows (front_of rest) ts
    → front_of (symbol_bytes s ++ rest) ≡ token_first (symbol s) rest
symbol_front Arrow rest ts f = refl
symbol_front Star rest ts f = refl
symbol_front Caret rest ts f = refl
symbol_front Minus rest ts f = minus_front rest ts f
symbol_front Equals rest ts f = refl
symbol_front Comma rest ts f = refl
symbol_front OpenRound rest ts f = refl
symbol_front CloseRound rest ts f = refl
symbol_front OpenSquare rest ts f = refl
symbol_front CloseSquare rest ts f = refl

found_first : (line rest : List ℕ) (t : Token) (ts : List Token) → front_of line ≡ token_first t rest → ReadsTokens rest ts
    → Follows (front_of line) (t ∷ ts)
found_first line rest t ts e d = subst (λ (f : Front). Follows f (t ∷ ts)) (sym e) (ts, refl, d)

-- the tokens of a line follow its front
pub follows : {line : List ℕ} {ts : List Token} → ReadsTokens line ts → Follows (front_of line) ts
follows no_more = refl
follows {ts = ts} (blank_first b rest e blank d) =
    let here : front_of (b ∷ rest) ≡ front_of rest = cond-true (is_blank b) _ _ blank in
    subst (λ (f : Front). Follows f ts) (sym (ap front_of e ∙ here)) (follows d)
follows {line = line} (name_first {ts = us} text rest e is stops d) =
    found_first line rest (name text) us (ap front_of e ∙ name_front text rest is stops) d
follows {line = line} (number_first {ts = us} text rest e is stops d) =
    found_first line rest (number text) us (ap front_of e ∙ number_front text rest is stops) d
follows {line = line} (symbol_first {ts = us} s rest e d) =
    found_first line rest (symbol s) us (ap front_of e ∙ symbol_front s rest us (follows d)) d

-- the front of a run has the form of its token
pub name_text : (b : ℕ) (rest : List ℕ) → is_letter b ≡ true → IsNameText (take (prefix_len is_name_byte (b ∷ rest)) (b ∷ rest))
name_text b rest letter =
    let long : suc (prefix_len is_name_byte rest) ≡ prefix_len is_name_byte (b ∷ rest) =
    omega arith ∙ sym (cond-true (is_name_byte b) (1 + prefix_len is_name_byte rest) 0 (letter_in_name b letter)) in
    subst (λ (n : ℕ). IsNameText (take n (b ∷ rest))) long (and_from (is_letter b) _ letter (list_all-prefix is_name_byte rest))

number_text : (b : ℕ) (rest : List ℕ) → is_ascii_digit b ≡ true → IsNumberText (take (prefix_len is_ascii_digit (b ∷ rest)) (b ∷ rest))
number_text b rest digit =
    let long : suc (prefix_len is_ascii_digit rest) ≡ prefix_len is_ascii_digit (b ∷ rest) =
    omega arith ∙ sym (cond-true (is_ascii_digit b) (1 + prefix_len is_ascii_digit rest) 0 digit) in
    subst (λ (n : ℕ). IsNumberText (take n (b ∷ rest))) long (and_from (is_ascii_digit b) _ digit (list_all-prefix is_ascii_digit rest))

-- a line and tokens, of which the front says that the line is these tokens
abbrev Tells : List ℕ → List Token → Front → Type 0
Tells line ts f = Follows f ts → ReadsTokens line ts

tells_symbol : (b : ℕ) (rest : List ℕ) (ts : List Token) (table : List (ℕ × Symbol))
    → AllByRecursion (λ s. symbol_bytes s.1 ≡ s.0 ∷ []) table
    → Tells (b ∷ rest) ts (front_at_symbol (symbol_among table b) rest)
tells_symbol b rest ts [] all = λ f. absurd f
tells_symbol b rest ts (s ∷ table) all =
    let Good : Option Symbol → Type 0 = λ o. Tells (b ∷ rest) ts (front_at_symbol o rest) in
    cond_both (eqb b s.0) (Some s.1) (symbol_among table b) Good
    (λ e f. let bytes : b ∷ rest ≡ symbol_bytes s.1 ++ rest =
    ap (λ (c : ℕ). c ∷ rest) (eqb-true b s.0 e) ∙ ap (λ (t : List ℕ). t ++ rest) (sym all.0) in
    subst (ReadsTokens (b ∷ rest)) (sym f.1) (symbol_first s.1 rest bytes f.2))
    (λ _. tells_symbol b rest ts table all.1)

tells_minus : (rest : List ℕ) (ts : List Token) → Tells (45 ∷ rest) ts (front_at_minus rest)
tells_minus [] ts = λ f. subst (ReadsTokens (45 ∷ [])) (sym f.1) (symbol_first Minus [] refl f.2)
tells_minus (b ∷ rest) ts =
    cond_both (eqb b 62) (token_first (symbol Arrow) rest) (token_first (symbol Minus) (b ∷ rest)) (Tells (45 ∷ b ∷ rest) ts)
    (λ e f. subst (ReadsTokens (45 ∷ b ∷ rest)) (sym f.1) (symbol_first Arrow rest (ap (λ (c : ℕ). 45 ∷ c ∷ rest) (eqb-true b 62 e)) f.2))
    (λ _ f. subst (ReadsTokens (45 ∷ b ∷ rest)) (sym f.1) (symbol_first Minus (b ∷ rest) refl f.2))

tells_at : (b : ℕ) (rest : List ℕ) (ts : List Token) → Tells (b ∷ rest) ts (front_at b rest)
tells_at b rest ts =
    let line = b ∷ rest in
    let letters = prefix_len is_name_byte line in
    let digits = prefix_len is_ascii_digit line in
    let at_symbol = front_at_symbol (symbol_of b) rest in
    let at_minus = cond (eqb b 45) (front_at_minus rest) at_symbol in
    let at_digit = cond (is_ascii_digit b) (front_at_run number is_ascii_digit line) at_minus in
    cond_both (is_letter b) (front_at_run name is_name_byte line) at_digit (Tells line ts)
    (λ e f. subst (ReadsTokens line) (sym f.1)
    (name_first (take letters line) (drop letters line) (sym (take-append-drop letters line)) (name_text b rest e)
    (StopsBefore-prefix is_name_byte line) f.2))
    (λ _. cond_both (is_ascii_digit b) (front_at_run number is_ascii_digit line) at_minus (Tells line ts)
    (λ e f. subst (ReadsTokens line) (sym f.1)
    (number_first (take digits line) (drop digits line) (sym (take-append-drop digits line)) (number_text b rest e)
    (StopsBefore-prefix is_ascii_digit line) f.2))
    (λ _. cond_both (eqb b 45) (front_at_minus rest) at_symbol (Tells line ts)
    (λ e. subst (λ (c : ℕ). Tells (c ∷ rest) ts (front_at_minus rest)) (sym (eqb-true b 45 e)) (tells_minus rest ts))
    (λ _. tells_symbol b rest ts symbols (refl, (refl, (refl, (refl, (refl, (refl, (refl, (refl, tt)))))))))))

-- what follows the front of a line is its tokens
pub tells : (line : List ℕ) (ts : List Token) → Follows (front_of line) ts → ReadsTokens line ts
tells [] ts = λ f. subst (ReadsTokens []) (sym f) no_more
tells (b ∷ rest) ts =
    cond_both (is_blank b) (front_of rest) (front_at b rest) (Tells (b ∷ rest) ts)
    (λ e f. blank_first b rest refl e (tells rest ts f))
    (λ _. tells_at b rest ts)

ends_alike : (f : Front) (us : List Token) → Follows f [] → Follows f us → [] ≡ us
ends_alike line_end us e f = sym f
ends_alike no_token us e f = absurd e
ends_alike (token_first t rest) us e f = absurd (cc e.1)

goes_on_alike : (f : Front) (t : Token) (ts us : List Token)
    → ((rest : List ℕ) (vs : List Token) → ReadsTokens rest ts → ReadsTokens rest vs → ts ≡ vs)
    → Follows f (t ∷ ts) → Follows f us → t ∷ ts ≡ us
goes_on_alike line_end t ts us alike e f = absurd (cc e)
goes_on_alike no_token t ts us alike e f = absurd e
goes_on_alike (token_first s rest) t ts us alike e f =
    let tail : e.0 ≡ ts = cc in
    let others = alike rest f.0 (subst (ReadsTokens rest) tail e.2) f.2 in
    cc

-- a line is one list of tokens at most
pub tokens_unique : (ts us : List Token) (line : List ℕ) → ReadsTokens line ts → ReadsTokens line us → ts ≡ us
tokens_unique [] us line d e = ends_alike (front_of line) us (follows d) (follows e)
tokens_unique (t ∷ ts) us line d e = goes_on_alike (front_of line) t ts us (λ rest vs. tokens_unique ts vs rest) (follows d) (follows e)

-- what is behind a token is shorter
abbrev pub IsShorter : ℕ → Front → Type 0
IsShorter n line_end = Unit {0}
IsShorter n no_token = Unit {0}
IsShorter n (token_first t rest) = length rest < n

shorter_than_more : (f : Front) (n : ℕ) → IsShorter n f → IsShorter (suc n) f
shorter_than_more line_end n h = tt
shorter_than_more no_token n h = tt
shorter_than_more (token_first t rest) n h = omega arith

shorter_symbol : (o : Option Symbol) (rest : List ℕ) → IsShorter (suc (length rest)) (front_at_symbol o rest)
shorter_symbol None rest = tt
shorter_symbol (Some s) rest = omega arith

shorter_minus : (rest : List ℕ) → IsShorter (suc (length rest)) (front_at_minus rest)
shorter_minus [] = omega arith
shorter_minus (b ∷ rest) =
    cond_both (eqb b 62) (token_first (symbol Arrow) rest) (token_first (symbol Minus) (b ∷ rest)) (IsShorter (suc (suc (length rest))))
    (λ e. omega arith) (λ e. omega arith)

shorter_run : (token : List ℕ → Token) (test : ℕ → Bool) (b : ℕ) (rest : List ℕ) → test b ≡ true
    → IsShorter (suc (length rest)) (front_at_run token test (b ∷ rest))
shorter_run token test b rest e =
    let long : 1 + prefix_len test rest ≡ prefix_len test (b ∷ rest) = sym (cond-true (test b) (1 + prefix_len test rest) 0 e) in
    let less : length (drop (prefix_len test (b ∷ rest)) (b ∷ rest)) ≡ suc (length rest) - prefix_len test (b ∷ rest) =
    length-drop (prefix_len test (b ∷ rest)) (b ∷ rest) in
    omega arith

shorter_at : (b : ℕ) (rest : List ℕ) → IsShorter (suc (length rest)) (front_at b rest)
shorter_at b rest =
    let line = b ∷ rest in
    let Good = IsShorter (suc (length rest)) in
    let at_symbol = front_at_symbol (symbol_of b) rest in
    let at_minus = cond (eqb b 45) (front_at_minus rest) at_symbol in
    let at_digit = cond (is_ascii_digit b) (front_at_run number is_ascii_digit line) at_minus in
    cond_both (is_letter b) (front_at_run name is_name_byte line) at_digit Good
    (λ e. shorter_run name is_name_byte b rest (letter_in_name b e))
    (λ _. cond_both (is_ascii_digit b) (front_at_run number is_ascii_digit line) at_minus Good
    (λ e. shorter_run number is_ascii_digit b rest e)
    (λ _. cond_both (eqb b 45) (front_at_minus rest) at_symbol Good
    (λ _. shorter_minus rest)
    (λ _. shorter_symbol (symbol_of b) rest)))

pub front_is_shorter : (line : List ℕ) → IsShorter (length line) (front_of line)
front_is_shorter [] = tt
front_is_shorter (b ∷ rest) =
    cond_both (is_blank b) (front_of rest) (front_at b rest) (IsShorter (suc (length rest)))
    (λ _. shorter_than_more (front_of rest) (length rest) (front_is_shorter rest))
    (λ _. shorter_at b rest)

pub rest_is_shorter : (line rest : List ℕ) (t : Token) → front_of line ≡ token_first t rest → length rest < length line
rest_is_shorter line rest t e = subst (IsShorter (length line)) e (front_is_shorter line)

-- tokens behind a first one are those of the rest of the line
pub tokens_behind : (rest after : List ℕ) (t : Token) (us : List Token) → front_of rest ≡ token_first t after → ReadsTokens rest us
    → (vs : List Token) × (us ≡ t ∷ vs) × ReadsTokens after vs
tokens_behind rest after t us front d = subst (λ (f : Front). Follows f us) front (follows d)
