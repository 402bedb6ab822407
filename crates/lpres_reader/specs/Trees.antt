-- Syntax trees: how the tokens of a line hang together. A tree keeps every token but the commas between the names of a
-- `generators` line, so it is spelled in one way. Names and exponents stand in it as they are written. A tree means a
-- word over known names; names that are not known stand for the empty word.
use Rattle.std.specs.Prelude.{◌≡◌, ◌<◌, ℕ, suc, ℤ, pos, neg_ℤ, List, [], ◌∷◌, ◌++◌, map, get_or, length, codes, position, bytes_eq, Option}
use Rattle.std.specs.Prelude.{Some, None}
use Rattle.std.specs.Str.Parse.{digits_value}
use Rattle.pq_base.specs.SignedWord.{inv, pow, comm, conj}
use Rattle.lpres_reader.specs.declared.token.Symbol.TheVariants.{Arrow, Star, Caret, Minus, Equals, Comma, OpenRound, CloseRound}
use Rattle.lpres_reader.specs.declared.token.Symbol.TheVariants.{OpenSquare, CloseSquare}
use Rattle.lpres_reader.specs.Tokens.{Token, name, number, symbol}
use Rattle.lpres_reader.specs.Items.{Mapping, GivesEach, Item, fixed, iterated, endo}

-- digits as they are written, with or without a minus
pub data Exponent : Type 0 where
  plus : List ℕ → Exponent
  minus : List ℕ → Exponent

mutual
  -- factors joined by `*`, from the left
  pub data WordTree : Type 0 where
    alone : FactorTree → WordTree
    times : WordTree → FactorTree → WordTree

  -- the digit `1`, or a unit, and then exponents, from the left
  pub data FactorTree : Type 0 where
    one : FactorTree
    unit : UnitTree → FactorTree
    to_power : FactorTree → Exponent → FactorTree
    conjugated : FactorTree → UnitTree → FactorTree

  -- a name, or a part in brackets
  pub data UnitTree : Type 0 where
    named : List ℕ → UnitTree
    round : WordTree → UnitTree
    square : EntriesTree → UnitTree

  -- two words or more, from the left
  pub data EntriesTree : Type 0 where
    two : WordTree → WordTree → EntriesTree
    and_one : EntriesTree → WordTree → EntriesTree

pub data RelatorTree : Type 0 where
  word : WordTree → RelatorTree
  equation : WordTree → WordTree → RelatorTree

pub record ArrowTree : Type 0 where
  pub from : List ℕ
  pub to : WordTree

-- which relators a line has
pub data Sort : Type 0 where
  fixed_sort : Sort
  iterated_sort : Sort

-- relators or arrows: those before the last one, and the last one
pub data ItemTree : Type 0 where
  relators : Sort → List RelatorTree → RelatorTree → ItemTree
  arrows : List ArrowTree → ArrowTree → ItemTree

-- the tokens of trees
abbrev pub exponent_tokens : Exponent → List Token
exponent_tokens (plus digits) = number digits ∷ []
exponent_tokens (minus digits) = symbol Minus ∷ number digits ∷ []

abbrev mutual
  pub word_tokens : WordTree → List Token
  word_tokens (alone f) = factor_tokens f
  word_tokens (times w f) = word_tokens w ++ symbol Star ∷ factor_tokens f

  pub factor_tokens : FactorTree → List Token
  factor_tokens one = number (codes "1") ∷ []
  factor_tokens (unit u) = unit_tokens u
  factor_tokens (to_power f e) = factor_tokens f ++ symbol Caret ∷ exponent_tokens e
  factor_tokens (conjugated f u) = factor_tokens f ++ symbol Caret ∷ unit_tokens u

  pub unit_tokens : UnitTree → List Token
  unit_tokens (named n) = name n ∷ []
  unit_tokens (round w) = symbol OpenRound ∷ (word_tokens w ++ symbol CloseRound ∷ [])
  unit_tokens (square e) = symbol OpenSquare ∷ (entries_tokens e ++ symbol CloseSquare ∷ [])

  pub entries_tokens : EntriesTree → List Token
  entries_tokens (two u v) = word_tokens u ++ symbol Comma ∷ word_tokens v
  entries_tokens (and_one e v) = entries_tokens e ++ symbol Comma ∷ word_tokens v

abbrev pub relator_tokens : RelatorTree → List Token
relator_tokens (word w) = word_tokens w
relator_tokens (equation u v) = word_tokens u ++ symbol Equals ∷ word_tokens v

abbrev pub arrow_tokens : ArrowTree → List Token
arrow_tokens a = name a.from ∷ symbol Arrow ∷ word_tokens a.to

-- each tree of a list with a comma behind it, and then other tokens
abbrev pub with_commas : {X : Type 0} → (X → List Token) → List X → List Token → List Token
with_commas tokens [] rest = rest
with_commas tokens (x ∷ xs) rest = tokens x ++ symbol Comma ∷ with_commas tokens xs rest

abbrev pub sort_name : Sort → List ℕ
sort_name fixed_sort = codes "fixed"
sort_name iterated_sort = codes "iterated"

-- behind the first token of the line
abbrev pub body_tokens : ItemTree → List Token
body_tokens (relators s rs r) = with_commas relator_tokens rs (relator_tokens r)
body_tokens (arrows qs q) = with_commas arrow_tokens qs (arrow_tokens q)

abbrev pub item_tokens : ItemTree → List Token
item_tokens (relators s rs r) = name (sort_name s) ∷ body_tokens (relators s rs r)
item_tokens (arrows qs q) = name (codes "endo") ∷ body_tokens (arrows qs q)

-- the words that trees mean
abbrev pub place_of : List (List ℕ) → List ℕ → Option ℕ
place_of names n = position (bytes_eq n) names

abbrev pub letter_at : Option ℕ → List ℤ
letter_at None = []
letter_at (Some k) = pos (suc k) ∷ []

abbrev pub exponent_size : Exponent → ℕ
exponent_size (plus digits) = digits_value 10 digits
exponent_size (minus digits) = digits_value 10 digits

abbrev pub exponent_value : Exponent → ℤ
exponent_value (plus digits) = pos (digits_value 10 digits)
exponent_value (minus digits) = neg_ℤ (pos (digits_value 10 digits))

abbrev mutual
  pub word_meaning : List (List ℕ) → WordTree → List ℤ
  word_meaning names (alone f) = factor_meaning names f
  word_meaning names (times w f) = word_meaning names w ++ factor_meaning names f

  pub factor_meaning : List (List ℕ) → FactorTree → List ℤ
  factor_meaning names one = []
  factor_meaning names (unit u) = unit_meaning names u
  factor_meaning names (to_power f e) = pow (factor_meaning names f) (exponent_value e)
  factor_meaning names (conjugated f u) = conj (factor_meaning names f) (unit_meaning names u)

  pub unit_meaning : List (List ℕ) → UnitTree → List ℤ
  unit_meaning names (named n) = letter_at (place_of names n)
  unit_meaning names (round w) = word_meaning names w
  unit_meaning names (square e) = entries_meaning names e

  pub entries_meaning : List (List ℕ) → EntriesTree → List ℤ
  entries_meaning names (two u v) = comm (word_meaning names u) (word_meaning names v)
  entries_meaning names (and_one e v) = comm (entries_meaning names e) (word_meaning names v)

abbrev pub relator_meaning : List (List ℕ) → RelatorTree → List ℤ
relator_meaning names (word w) = word_meaning names w
relator_meaning names (equation u v) = word_meaning names u ++ inv (word_meaning names v)

-- the place of a name that is known
abbrev pub known_place : Option ℕ → ℕ
known_place None = 0
known_place (Some k) = k

abbrev pub arrow_meaning : List (List ℕ) → ArrowTree → Mapping
arrow_meaning names a = record { from = known_place (place_of names a.from); to = word_meaning names a.to }

-- every name among tokens is a generator
abbrev pub AreKnown : List (List ℕ) → List Token → Type 0
AreKnown names [] = Unit {0}
AreKnown names (name n ∷ ts) = ((k : ℕ) × (k < length names) × (get_or names k [] ≡ n)) × AreKnown names ts
AreKnown names (number digits ∷ ts) = AreKnown names ts
AreKnown names (symbol s ∷ ts) = AreKnown names ts

-- the line has an image for each generator exactly once, where it has arrows
abbrev pub GivesAll : List (List ℕ) → ItemTree → Type 0
GivesAll names (relators s rs r) = Unit {0}
GivesAll names (arrows qs q) = (f : List (List ℤ)) × GivesEach (length names) (map (arrow_meaning names) (qs ++ q ∷ [])) f

abbrev pub sort_item : Sort → List (List ℤ) → Item
sort_item fixed_sort ws = fixed ws
sort_item iterated_sort ws = iterated ws

abbrev pub item_meaning : (names : List (List ℕ)) (i : ItemTree) → GivesAll names i → Item
item_meaning names (relators s rs r) g = sort_item s (map (relator_meaning names) (rs ++ r ∷ []))
item_meaning names (arrows qs q) g = endo g.0
