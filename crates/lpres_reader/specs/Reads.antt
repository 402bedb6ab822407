-- What a text reads as. The first line that is not skipped gives the generators, and each later one is an item.
use Rattle.std.specs.Prelude.{◌≡◌, ℕ, List, [], ◌∷◌, codes}
use Rattle.pq_base.specs.LPresentation.{LPresentation, AreDistinct}
use Rattle.lpres_reader.specs.Lines.{content_of, IsShallow}
use Rattle.lpres_reader.specs.Tokens.{Token, name, ReadsTokens}
use Rattle.lpres_reader.specs.Items.{ReadsNames, Item, ReadsItem, fixed_of, iterated_of, endos_of}
use Rattle.lpres_reader.specs.Limits.{IsWithinLimits}

-- a line of tokens of some form, in which brackets are not too deep
pub record ReadsLine (form : List Token → Type 0) (line : List ℕ) : Type 0 where
  pub shallow : IsShallow line
  pub tokens : List Token
  pub spelled : ReadsTokens line tokens
  pub formed : form tokens

-- `generators` and the names
abbrev pub IsGenerators : List (List ℕ) → List Token → Type 0
IsGenerators names tokens = (ts : List Token) × (tokens ≡ name (codes "generators") ∷ ts) × ReadsNames ts names

-- an item for each line
abbrev pub ReadsItems : List (List ℕ) → List (List ℕ) → List Item → Type 0
ReadsItems names [] [] = Unit {0}
ReadsItems names [] (item ∷ items) = ⊥
ReadsItems names (line ∷ lines) [] = ⊥
ReadsItems names (line ∷ lines) (item ∷ items) = ReadsLine (λ ts. ReadsItem names ts item) line × ReadsItems names lines items

-- the text is this presentation
pub record Reads (text : List ℕ) (L : LPresentation) : Type 0 where
  pub first : List ℕ
  pub later : List (List ℕ)
  pub lines : content_of text ≡ first ∷ later
  pub generators : ReadsLine (IsGenerators L.names) first
  pub distinct : AreDistinct L.names
  pub items : List Item
  pub each : ReadsItems L.names later items
  pub fixed : L.fixed ≡ fixed_of items
  pub iterated : L.iterated ≡ iterated_of items
  pub endos : L.endos ≡ endos_of items
  pub limits : IsWithinLimits L
