-- The items of a presentation, a line for each: generators, fixed relators, iterated relators, or an endomorphism. The
-- first token of a line says which it is; a generator may have such a word as its name.
use Rattle.std.specs.Prelude.{◌≡◌, ◌<◌, ◌≤◌, ℕ, ℤ, List, [], ◌∷◌, ◌++◌, get_or, length, codes, ◌==◌, if◌then◌else◌}
use Rattle.pq_base.specs.SignedWord.{inv}
use Rattle.lpres_reader.specs.declared.token.Symbol.TheVariants.{Arrow, Equals, Comma}
use Rattle.lpres_reader.specs.Tokens.{Token, name, symbol}
use Rattle.lpres_reader.specs.Words.{letter_limit, ReadsWord}

-- names, with a comma between two of them or without
pub data ReadsNames : List Token → List (List ℕ) → Type 0 where
  last_name : (n : List ℕ) → ReadsNames (name n ∷ []) (n ∷ [])
  next_name : {ts : List Token} {ns : List (List ℕ)} (n : List ℕ) → ReadsNames ts ns → ReadsNames (name n ∷ ts) (n ∷ ns)
  next_name_after_comma : {ts : List Token} {ns : List (List ℕ)} (n : List ℕ) → ReadsNames ts ns
      → ReadsNames (name n ∷ symbol Comma ∷ ts) (n ∷ ns)

-- a word, or an equation of two: `u = v` is `u * v^-1`
pub data ReadsRelator (names : List (List ℕ)) : List Token → List ℤ → Type 0 where
  plain : {ts : List Token} {w : List ℤ} → ReadsWord names ts w → ReadsRelator names ts w
  equation : {ts : List Token} {w : List ℤ} (us vs : List Token) (u v : List ℤ)
      → ts ≡ us ++ symbol Equals ∷ vs → ReadsWord names us u → ReadsWord names vs v
      → w ≡ u ++ inv v → length w ≤ letter_limit → ReadsRelator names ts w

-- relators between commas
pub data ReadsRelators (names : List (List ℕ)) : List Token → List (List ℤ) → Type 0 where
  last_relator : {ts : List Token} {w : List ℤ} → ReadsRelator names ts w → ReadsRelators names ts (w ∷ [])
  next_relator : {ts : List Token} {w : List ℤ} {ws : List (List ℤ)} (us vs : List Token)
      → ts ≡ us ++ symbol Comma ∷ vs → ReadsRelator names us w → ReadsRelators names vs ws → ReadsRelators names ts (w ∷ ws)

-- from the generator at place k, counted from 0, to the word w
pub record Mapping : Type 0 where
  pub from : ℕ
  pub to : List ℤ

pub data ReadsArrow (names : List (List ℕ)) : List Token → Mapping → Type 0 where
  an_arrow : {ts : List Token} {w : List ℤ} (k : ℕ) (n : List ℕ) → k < length names → get_or names k [] ≡ n
      → ReadsWord names ts w → ReadsArrow names (name n ∷ symbol Arrow ∷ ts) (record { from = k; to = w })

-- arrows between commas
pub data ReadsArrows (names : List (List ℕ)) : List Token → List Mapping → Type 0 where
  last_arrow : {ts : List Token} {a : Mapping} → ReadsArrow names ts a → ReadsArrows names ts (a ∷ [])
  next_arrow : {ts : List Token} {a : Mapping} {arrows : List Mapping} (us vs : List Token)
      → ts ≡ us ++ symbol Comma ∷ vs → ReadsArrow names us a → ReadsArrows names vs arrows → ReadsArrows names ts (a ∷ arrows)

-- the words to which arrows lead from the generator at place k
abbrev pub words_from : ℕ → List Mapping → List (List ℤ)
words_from k [] = []
words_from k (a ∷ arrows) = if a.from == k then a.to ∷ words_from k arrows else words_from k arrows

-- there is exactly one arrow from each of n generators, and f is the list of the words to which they lead
pub record GivesEach (n : ℕ) (arrows : List Mapping) (f : List (List ℤ)) : Type 0 where
  pub image_count : length f ≡ n
  pub exactly_one : (k : ℕ) → k < n → words_from k arrows ≡ get_or f k [] ∷ []

-- a line after the generators
pub data Item : Type 0 where
  fixed : List (List ℤ) → Item
  iterated : List (List ℤ) → Item
  endo : List (List ℤ) → Item

pub data ReadsItem (names : List (List ℕ)) : List Token → Item → Type 0 where
  fixed_line : {ts : List Token} {ws : List (List ℤ)} → ReadsRelators names ts ws → ReadsItem names (name (codes "fixed") ∷ ts) (fixed ws)
  iterated_line : {ts : List Token} {ws : List (List ℤ)} → ReadsRelators names ts ws
      → ReadsItem names (name (codes "iterated") ∷ ts) (iterated ws)
  endo_line : {ts : List Token} {f : List (List ℤ)} (arrows : List Mapping)
      → ReadsArrows names ts arrows → GivesEach (length names) arrows f → ReadsItem names (name (codes "endo") ∷ ts) (endo f)

-- the relators and endomorphisms of items, in order
abbrev pub fixed_of : List Item → List (List ℤ)
fixed_of [] = []
fixed_of (fixed ws ∷ items) = ws ++ fixed_of items
fixed_of (iterated ws ∷ items) = fixed_of items
fixed_of (endo f ∷ items) = fixed_of items

abbrev pub iterated_of : List Item → List (List ℤ)
iterated_of [] = []
iterated_of (fixed ws ∷ items) = iterated_of items
iterated_of (iterated ws ∷ items) = ws ++ iterated_of items
iterated_of (endo f ∷ items) = iterated_of items

abbrev pub endos_of : List Item → List (List (List ℤ))
endos_of [] = []
endos_of (fixed ws ∷ items) = endos_of items
endos_of (iterated ws ∷ items) = endos_of items
endos_of (endo f ∷ items) = f ∷ endos_of items
