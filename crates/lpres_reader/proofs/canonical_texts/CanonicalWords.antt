-- The tokens of a canonical word are read as the word.
use Rattle.std.proofs.Common.{◌≡◌, ◌<◌, ◌≤◌, ◌+◌, ℕ, zero, suc, Bool, true, false, List, [], ◌∷◌, ◌++◌, get_or, length, decimal, refl, sym}
use Rattle.std.proofs.Common.{ap, subst, arith, append_assoc, append-nil, length-append}
use Rattle.std.specs.Prelude.{ℤ, pos, negsuc, neg_ℤ, unsigned_abs, ◌==◌, if◌then◌else◌}
use Rattle.std.specs.Str.Parse.{digits_value}
use Rattle.std.proofs.lemmas.Bool.{eqb-true}
use Rattle.pq_base.specs.SignedWord.{copies, IsLetter, HasLetters}
use Rattle.pq_base.specs.Name.{name_text}
use Rattle.lpres_reader.specs.declared.canonical.Run.{Run}
use Rattle.lpres_reader.specs.declared.token.Symbol.TheVariants.{Star, Caret, Minus}
use Rattle.lpres_reader.specs.Runs.{runs_of}
use Rattle.lpres_reader.specs.Tokens.{Token, name, number, symbol}
use Rattle.lpres_reader.specs.Words as words
use Rattle.lpres_reader.specs.Words.{ReadsWord, ReadsFactor, ReadsExponent}
use Rattle.lpres_reader.proofs.canonical_texts.DecimalNumbers.{digits_value-decimal}
use Rattle.lpres_reader.proofs.canonical_texts.RunWords.{spread, sizes, length-copies_of, spread-runs_of, sizes-runs_of, AreRuns}
use Rattle.lpres_reader.proofs.canonical_texts.RunWords.{AreRuns-runs_of}
use Rattle.lpres_reader.proofs.canonical_texts.CanonicalTokens.{exponent_tokens, run_tokens, further_tokens, runs_tokens}

module _ (names : List (List ℕ)) where
  generator_reads : (k : ℕ) → k < length names → ReadsFactor names (name (get_or names k []) ∷ []) (pos (suc k) ∷ [])
  generator_reads k h = words.one_atom (words.one_unit (words.generator k (get_or names k []) h refl))

  power_reads : (k n : ℕ) → k < length names → n ≤ 65536
      → ReadsFactor names (name (get_or names k []) ∷ symbol Caret ∷ number (decimal n) ∷ []) (copies (pos (suc k) ∷ []) n)
  power_reads k n h small =
      let value : digits_value 10 (decimal n) ≡ n = digits_value-decimal n (omega arith) in
      words.power (name (get_or names k []) ∷ []) (number (decimal n) ∷ []) (pos (suc k) ∷ []) (pos n) refl (generator_reads k h)
      (words.unsigned (decimal n) (omega arith) (ap (λ (m : ℕ). pos m) (sym value))) refl (omega (arith, length-copies_of (pos (suc k)) n))

  inverse_power_reads : (k n : ℕ) → k < length names → 1 ≤ n → n ≤ 65536
      → ReadsFactor names (name (get_or names k []) ∷ symbol Caret ∷ symbol Minus ∷ number (decimal n) ∷ []) (copies (negsuc k ∷ []) n)
  inverse_power_reads k zero h some small = absurd (omega arith)
  inverse_power_reads k (suc m) h some small =
      let value : digits_value 10 (decimal (suc m)) ≡ suc m = digits_value-decimal (suc m) (omega arith) in
      words.power (name (get_or names k []) ∷ []) (symbol Minus ∷ number (decimal (suc m)) ∷ []) (pos (suc k) ∷ []) (negsuc m) refl
      (generator_reads k h)
      (words.negative (decimal (suc m)) (omega arith) (ap (λ (n : ℕ). neg_ℤ (pos n)) (sym value))) refl
      (omega (arith, length-copies_of (negsuc k) (suc m)))

  factor_reads : (k : ℤ) (n : ℕ) → IsLetter (length names) k → 1 ≤ n → n ≤ 65536
      → ReadsFactor names (name (name_text names (unsigned_abs k)) ∷ exponent_tokens k n) (copies (k ∷ []) n)
  factor_reads (pos zero) n h some small = absurd h
  factor_reads (negsuc k) n h some small = inverse_power_reads k n h some small
  factor_reads (pos (suc k)) n h some small = by (n == 1) refl
    where
      by : (b : Bool) → (n == 1) ≡ b
          → ReadsFactor names (name (get_or names k []) ∷ (if b then [] else symbol Caret ∷ number (decimal n) ∷ []))
          (copies (pos (suc k) ∷ []) n)
      by true e =
          subst (λ (m : ℕ). ReadsFactor names (name (get_or names k []) ∷ []) (copies (pos (suc k) ∷ []) m)) (sym (eqb-true n 1 e))
          (generator_reads k h)
      by false e = power_reads k n h small

  further_read : (rs : List Run) (us : List Token) (u : List ℤ) → AreRuns (length names) rs → length u + sizes rs ≤ 65536
      → ReadsWord names us u
      → ReadsWord names (us ++ further_tokens names rs) (u ++ spread rs)
  further_read [] us u h small d =
      subst (λ (ts : List Token). ReadsWord names ts (u ++ [])) (sym (append-nil us))
      (subst (λ (w : List ℤ). ReadsWord names us w) (sym (append-nil u)) d)
  further_read (r ∷ rs) us u h small d =
      let v : List ℤ = copies (r.letter ∷ []) r.size in
      let long : length (u ++ v) ≡ length u + r.size = omega (arith, length-append u v, length-copies_of r.letter r.size) in
      let front : ReadsWord names (us ++ symbol Star ∷ run_tokens names r) (u ++ v) =
      words.product us (run_tokens names r) u v refl d (factor_reads r.letter r.size h.0 h.1 (omega arith)) refl (omega arith) in
      let all = further_read rs (us ++ symbol Star ∷ run_tokens names r) (u ++ v) h.2 (omega arith) front in
      subst (λ (ts : List Token). ReadsWord names ts (u ++ (v ++ spread rs)))
      (append_assoc us (symbol Star ∷ run_tokens names r) (further_tokens names rs))
      (subst (λ (w : List ℤ). ReadsWord names ((us ++ symbol Star ∷ run_tokens names r) ++ further_tokens names rs) w)
      (append_assoc u v (spread rs)) all)

  runs_are : (rs : List Run) → AreRuns (length names) rs → sizes rs ≤ 65536 → ReadsWord names (runs_tokens names rs) (spread rs)
  runs_are [] h small = words.one_factor (words.one_atom words.empty_word)
  runs_are (r ∷ rs) h small =
      further_read rs (run_tokens names r) (copies (r.letter ∷ []) r.size) h.2 (omega (arith, length-copies_of r.letter r.size))
      (words.one_factor (factor_reads r.letter r.size h.0 h.1 (omega arith)))

  pub word_means : (w : List ℤ) → HasLetters (length names) w → length w ≤ 65536 → ReadsWord names (runs_tokens names (runs_of w)) w
  word_means w h small =
      subst (λ (v : List ℤ). ReadsWord names (runs_tokens names (runs_of w)) v) (spread-runs_of w)
      (runs_are (runs_of w) (AreRuns-runs_of (length names) w h) (omega (arith, sizes-runs_of w)))
