-- Words as tokens, and the signed words that they mean. A product is built from the left and so is a chain of `^`,
-- which binds tighter. Nothing cancels. Each part and each partial product keeps the limit on letters.
use Rattle.std.specs.Prelude.{◌≡◌, ◌<◌, ◌≤◌, ℕ, suc, ℤ, pos, neg_ℤ, List, [], ◌∷◌, ◌++◌, get_or, length, codes}
use Rattle.std.specs.Str.Parse.{digits_value}
use Rattle.pq_base.specs.SignedWord.{pow, comm, conj}
use Rattle.lpres_reader.specs.declared.token.Symbol.TheVariants.{Minus, Star, Caret, Comma, OpenRound, CloseRound, OpenSquare, CloseSquare}
use Rattle.lpres_reader.specs.Tokens.{Token, name, number, symbol}

-- the letters that a word, a part of it or a partial product may have
abbrev pub letter_limit : ℕ
letter_limit = 65536

-- the size that a written exponent may have
abbrev pub exponent_limit : ℕ
exponent_limit = 65536

-- a number in decimal, which may have leading zeros, with or without a sign
pub data ReadsExponent : List Token → ℤ → Type 0 where
  unsigned : {n : ℤ} (digits : List ℕ) → digits_value 10 digits ≤ exponent_limit
      → n ≡ pos (digits_value 10 digits) → ReadsExponent (number digits ∷ []) n
  negative : {n : ℤ} (digits : List ℕ) → digits_value 10 digits ≤ exponent_limit
      → n ≡ neg_ℤ (pos (digits_value 10 digits)) → ReadsExponent (symbol Minus ∷ number digits ∷ []) n

-- the tokens are the word w over the generators with these names
mutual
  -- factors joined by `*`
  pub data ReadsWord (names : List (List ℕ)) : List Token → List ℤ → Type 0 where
    one_factor : {ts : List Token} {w : List ℤ} → ReadsFactor names ts w → ReadsWord names ts w
    product : {ts : List Token} {w : List ℤ} (us vs : List Token) (u v : List ℤ)
        → ts ≡ us ++ symbol Star ∷ vs → ReadsWord names us u → ReadsFactor names vs v
        → w ≡ u ++ v → length w ≤ letter_limit → ReadsWord names ts w

  -- an atom and then exponents, each behind a `^`: a number is a power, a part in brackets or a name a conjugation
  pub data ReadsFactor (names : List (List ℕ)) : List Token → List ℤ → Type 0 where
    one_atom : {ts : List Token} {w : List ℤ} → ReadsAtom names ts w → ReadsFactor names ts w
    power : {ts : List Token} {w : List ℤ} (us vs : List Token) (u : List ℤ) (n : ℤ)
        → ts ≡ us ++ symbol Caret ∷ vs → ReadsFactor names us u → ReadsExponent vs n
        → w ≡ pow u n → length w ≤ letter_limit → ReadsFactor names ts w
    conjugate : {ts : List Token} {w : List ℤ} (us vs : List Token) (u v : List ℤ)
        → ts ≡ us ++ symbol Caret ∷ vs → ReadsFactor names us u → ReadsUnit names vs v
        → w ≡ conj u v → length w ≤ letter_limit → ReadsFactor names ts w

  -- the single digit `1` is the empty word
  pub data ReadsAtom (names : List (List ℕ)) : List Token → List ℤ → Type 0 where
    empty_word : ReadsAtom names (number (codes "1") ∷ []) []
    one_unit : {ts : List Token} {w : List ℤ} → ReadsUnit names ts w → ReadsAtom names ts w

  -- a generator's name, a word in round brackets, or a commutator in square ones
  pub data ReadsUnit (names : List (List ℕ)) : List Token → List ℤ → Type 0 where
    generator : (k : ℕ) (n : List ℕ) → k < length names → get_or names k [] ≡ n → ReadsUnit names (name n ∷ []) (pos (suc k) ∷ [])
    group : {ts : List Token} {w : List ℤ} (us : List Token)
        → ts ≡ symbol OpenRound ∷ (us ++ symbol CloseRound ∷ []) → ReadsWord names us w → ReadsUnit names ts w
    commutator : {ts : List Token} {w : List ℤ} (us : List Token)
        → ts ≡ symbol OpenSquare ∷ (us ++ symbol CloseSquare ∷ []) → ReadsEntries names us w → ReadsUnit names ts w

  -- two words or more between commas: `[u,v,w]` is `[[u,v],w]`
  pub data ReadsEntries (names : List (List ℕ)) : List Token → List ℤ → Type 0 where
    two_entries : {ts : List Token} {w : List ℤ} (us vs : List Token) (u v : List ℤ)
        → ts ≡ us ++ symbol Comma ∷ vs → ReadsWord names us u → ReadsWord names vs v
        → w ≡ comm u v → length w ≤ letter_limit → ReadsEntries names ts w
    more_entries : {ts : List Token} {w : List ℤ} (us vs : List Token) (u v : List ℤ)
        → ts ≡ us ++ symbol Comma ∷ vs → ReadsEntries names us u → ReadsWord names vs v
        → w ≡ comm u v → length w ≤ letter_limit → ReadsEntries names ts w
