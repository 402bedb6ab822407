-- The tokens of a canonical word.
use Rattle.std.proofs.Common.{◌<◌, ◌≤◌, ◌^◌, ℕ, zero, suc, Bool, true, false, List, [], ◌∷◌, ◌++◌, All, get_or, length, decimal, codes}
use Rattle.std.proofs.Common.{refl, sym, subst, map, arith, append_assoc}
use Rattle.std.specs.Prelude.{ℤ, pos, negsuc, unsigned_abs, ◌==◌, if◌then◌else◌}
use Rattle.std.specs.Char.{is_ascii_digit}
use Rattle.std.proofs.lemmas.Bool.Decides.{nat_tests}
use Rattle.std.proofs.lemmas.List.Elements.{All-get_or}
use Rattle.pq_base.specs.Name.{is_name_byte, IsName, IsNameText}
use Rattle.pq_base.specs.SignedWord.{IsLetter, HasLetters}
use Rattle.pq_base.specs.Name.{name_text}
use Rattle.lpres_reader.specs.declared.canonical.Run.{Run}
use Rattle.lpres_reader.specs.declared.token.Symbol.TheVariants.{Star, Caret, Minus}
use Rattle.lpres_reader.specs.Runs.{runs_of}
use Rattle.lpres_reader.specs.CanonicalText.{preceded, exponent_text, run_text, runs_text, word_text}
use Rattle.lpres_reader.specs.Tokens.{Token, name, number, symbol, StopsBefore, ReadsTokens, name_first, number_first, symbol_first}
use Rattle.lpres_reader.proofs.canonical_texts.DecimalNumbers.{IsNumberText-decimal}
use Rattle.lpres_reader.proofs.canonical_texts.RunWords.{sizes, sizes-runs_of, AreRuns, AreRuns-runs_of}

abbrev pub exponent_tokens : ℤ → ℕ → List Token
exponent_tokens (pos k) n = if n == 1 then [] else symbol Caret ∷ number (decimal n) ∷ []
exponent_tokens (negsuc k) n = symbol Caret ∷ symbol Minus ∷ number (decimal n) ∷ []

abbrev pub run_tokens : List (List ℕ) → Run → List Token
run_tokens names r = name (name_text names (unsigned_abs r.letter)) ∷ exponent_tokens r.letter r.size

abbrev pub further_tokens : List (List ℕ) → List Run → List Token
further_tokens names [] = []
further_tokens names (r ∷ rs) = symbol Star ∷ (run_tokens names r ++ further_tokens names rs)

abbrev pub runs_tokens : List (List ℕ) → List Run → List Token
runs_tokens names [] = number (codes "1") ∷ []
runs_tokens names (r ∷ rs) = run_tokens names r ++ further_tokens names rs

-- what ends a name ends a number
number_stops : (rest : List ℕ) → StopsBefore is_name_byte rest → StopsBefore is_ascii_digit rest
number_stops [] h = tt
number_stops (b ∷ rest) h = grind (arith, nat_tests)

-- bytes in two parts, each with its tokens
both_parts : (a b c : List ℕ) (s t u : List Token) → ReadsTokens (a ++ (b ++ c)) (s ++ (t ++ u))
    → ReadsTokens ((a ++ b) ++ c) ((s ++ t) ++ u)
both_parts a b c s t u d =
    subst (λ (line : List ℕ). ReadsTokens line ((s ++ t) ++ u)) (sym (append_assoc a b c))
    (subst (λ (ts : List Token). ReadsTokens (a ++ (b ++ c)) ts) (sym (append_assoc s t u)) d)

exponent_reads : (k : ℤ) (n : ℕ) (rest : List ℕ) (ts : List Token) → n < 2 ^ 64 → StopsBefore is_name_byte rest → ReadsTokens rest ts
    → ReadsTokens (exponent_text k n ++ rest) (exponent_tokens k n ++ ts)
exponent_reads (negsuc k) n rest ts h stops d =
    symbol_first Caret (45 ∷ (decimal n ++ rest)) refl
    (symbol_first Minus (decimal n ++ rest) refl
    (number_first (decimal n) rest refl (IsNumberText-decimal n h) (number_stops rest stops) d))
exponent_reads (pos k) n rest ts h stops d = by (n == 1)
  where
    by : (b : Bool) → ReadsTokens ((if b then [] else codes "^" ++ decimal n) ++ rest)
        ((if b then [] else symbol Caret ∷ number (decimal n) ∷ []) ++ ts)
    by true = d
    by false =
        symbol_first Caret (decimal n ++ rest) refl
        (number_first (decimal n) rest refl (IsNumberText-decimal n h) (number_stops rest stops) d)

exponent_stops : (k : ℤ) (n : ℕ) (rest : List ℕ) → StopsBefore is_name_byte rest → StopsBefore is_name_byte (exponent_text k n ++ rest)
exponent_stops (negsuc k) n rest stops = refl
exponent_stops (pos k) n rest stops = by (n == 1)
  where
    by : (b : Bool) → StopsBefore is_name_byte ((if b then [] else codes "^" ++ decimal n) ++ rest)
    by true = stops
    by false = refl

further_stops : (names : List (List ℕ)) (rs : List Run) (rest : List ℕ) → StopsBefore is_name_byte rest
    → StopsBefore is_name_byte (preceded (codes "*") (map (run_text names) rs) ++ rest)
further_stops names [] rest stops = stops
further_stops names (r ∷ rs) rest stops = refl

module _ (names : List (List ℕ)) (are : All IsName names) where
  pub name_text-IsName : (i : ℕ) → i < length names → IsNameText (name_text names (suc i))
  name_text-IsName i h = let is : IsName (get_or names i []) = All-get_or IsName names i [] h are in is.text

  letter_name : (k : ℤ) → IsLetter (length names) k → IsNameText (name_text names (unsigned_abs k))
  letter_name (pos zero) h = absurd h
  letter_name (pos (suc k)) h = name_text-IsName k h
  letter_name (negsuc k) h = name_text-IsName k h

  run_reads : (r : Run) (rest : List ℕ) (ts : List Token) → IsLetter (length names) r.letter → r.size < 2 ^ 64
      → StopsBefore is_name_byte rest → ReadsTokens rest ts
      → ReadsTokens (run_text names r ++ rest) (run_tokens names r ++ ts)
  run_reads r rest ts letter size stops d =
      let text = name_text names (unsigned_abs r.letter) in
      name_first text (exponent_text r.letter r.size ++ rest) (append_assoc text (exponent_text r.letter r.size) rest)
      (letter_name r.letter letter)
      (exponent_stops r.letter r.size rest stops) (exponent_reads r.letter r.size rest ts size stops d)

  further_reads : (rs : List Run) (rest : List ℕ) (ts : List Token) → AreRuns (length names) rs → sizes rs ≤ 65536
      → StopsBefore is_name_byte rest → ReadsTokens rest ts
      → ReadsTokens (preceded (codes "*") (map (run_text names) rs) ++ rest) (further_tokens names rs ++ ts)
  further_reads [] rest ts h small stops d = d
  further_reads (r ∷ rs) rest ts h small stops d =
      let behind = preceded (codes "*") (map (run_text names) rs) in
      let here =
      run_reads r (behind ++ rest) (further_tokens names rs ++ ts) h.0 (omega arith) (further_stops names rs rest stops)
      (further_reads rs rest ts h.2 (omega arith) stops d) in
      symbol_first Star ((run_text names r ++ behind) ++ rest) refl
      (both_parts (run_text names r) behind rest (run_tokens names r) (further_tokens names rs) ts here)

  runs_read : (rs : List Run) (rest : List ℕ) (ts : List Token) → AreRuns (length names) rs → sizes rs ≤ 65536
      → StopsBefore is_name_byte rest → ReadsTokens rest ts
      → ReadsTokens (runs_text names rs ++ rest) (runs_tokens names rs ++ ts)
  runs_read [] rest ts h small stops d = number_first (codes "1") rest refl refl (number_stops rest stops) d
  runs_read (r ∷ rs) rest ts h small stops d =
      let behind = preceded (codes "*") (map (run_text names) rs) in
      let here =
      run_reads r (behind ++ rest) (further_tokens names rs ++ ts) h.0 (omega arith) (further_stops names rs rest stops)
      (further_reads rs rest ts h.2 (omega arith) stops d) in
      both_parts (run_text names r) behind rest (run_tokens names r) (further_tokens names rs) ts here

  pub word_reads : (w : List ℤ) (rest : List ℕ) (ts : List Token) → HasLetters (length names) w → length w ≤ 65536
      → StopsBefore is_name_byte rest → ReadsTokens rest ts
      → ReadsTokens (word_text names w ++ rest) (runs_tokens names (runs_of w) ++ ts)
  unfolding word_text
  word_reads w rest ts h small stops d =
      runs_read (runs_of w) rest ts (AreRuns-runs_of (length names) w h) (omega (arith, sizes-runs_of w)) stops d
