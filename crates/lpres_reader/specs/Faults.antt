-- The first fault of a text that is no presentation: its line, counted from 1, and its kind. The first line with a fault
-- decides, and in a line the first kind that comes.
use Rattle.std.specs.Prelude.{◌≡◌, ℕ, suc, false, List, [], ◌∷◌, ◌++◌, length, codes, Option, Some, None}
use Rattle.std.specs.List.{join_with_byte}
use Rattle.pq_base.specs.LPresentation.{LPresentation, AreDistinct}
use Rattle.lpres_reader.specs.Lines.{is_skipped, lines_of, content_of, IsShallow}
use Rattle.lpres_reader.specs.Tokens.{Token, ReadsTokens, BeginsWithName}
use Rattle.lpres_reader.specs.Reads.{IsGenerators, Reads}
use Rattle.lpres_reader.specs.Trees.{ItemTree, item_tokens, body_tokens, AreKnown, GivesAll}
use Rattle.lpres_reader.specs.Trials.{Which, Trial, AreKept, IsFirstPassed, reported, item_trials, names_trials}

pub data Kind : Type 0 where
  Deep : Kind
  Syntax : Kind
  UnknownName : Kind
  RepeatedName : Kind
  Limit : Which → ℕ → Kind
  NotAllImages : Kind

-- the condition fails, with the fault that comes then, or it holds, and what is asked next decides
pub data Unless (P : Type 0) (kind : Kind) (Next : P → Kind → Type 0) (k : Kind) : Type 0 where
  fails : ¬ P → k ≡ kind → Unless P kind Next k
  holds : (p : P) → Next p k → Unless P kind Next k

-- a limit is passed, or all are kept, and what is asked next decides
pub data UnlessPassed (trials : List Trial) (Next : Kind → Type 0) (k : Kind) : Type 0 where
  passed : (t : Trial) → IsFirstPassed trials t → k ≡ Limit t.limit (reported t.limit t.size) → UnlessPassed trials Next k
  kept : AreKept trials → Next k → UnlessPassed trials Next k

abbrev pub NoOther : Kind → Type 0
NoOther k = ⊥

-- `generators` and names
pub record NamesForm (line : List ℕ) : Type 0 where
  pub tokens : List Token
  pub spelled : ReadsTokens line tokens
  pub names : List (List ℕ)
  pub formed : IsGenerators names tokens

pub record ItemForm (line : List ℕ) : Type 0 where
  pub tree : ItemTree
  pub spelled : ReadsTokens line (item_tokens tree)

abbrev pub NamesFault : List (List ℕ) → Kind → Type 0
NamesFault names = Unless (AreDistinct names) RepeatedName (λ _. UnlessPassed (names_trials 0 names) NoOther)

abbrev pub ItemFault : LPresentation → ItemTree → Kind → Type 0
ItemFault M i = Unless (AreKnown M.names (body_tokens i)) UnknownName
    (λ _. UnlessPassed (item_trials M i) (Unless (GivesAll M.names i) NotAllImages (λ _. NoOther)))

-- the fault of a line that is not skipped, where the lines before it are nothing, or the presentation M
abbrev pub LineFault : Option LPresentation → List ℕ → Kind → Type 0
LineFault None line = Unless (IsShallow line) Deep (λ _. Unless (NamesForm line) Syntax (λ form. NamesFault form.names))
LineFault (Some M) line = Unless (IsShallow line) Deep (λ _. Unless (ItemForm line) Syntax (λ form. ItemFault M form.tree))

-- a line whose first token is `generators`, whatever follows
abbrev pub IsGeneratorsLine : List ℕ → Type 0
IsGeneratorsLine line = BeginsWithName (codes "generators") line

pub record HasGenerators (text : List ℕ) : Type 0 where
  pub before : List (List ℕ)
  pub line : List ℕ
  pub after : List (List ℕ)
  pub lines : lines_of text ≡ before ++ line ∷ after
  pub begins : IsGeneratorsLine line

abbrev pub text_of : List (List ℕ) → List ℕ
text_of lines = join_with_byte 10 lines

-- what lines are, as a text of their own
abbrev pub Are : List (List ℕ) → Option LPresentation → Type 0
Are lines None = content_of (text_of lines) ≡ []
Are lines (Some M) = Reads (text_of lines) M

pub data FirstFault (text : List ℕ) (n : ℕ) (kind : Kind) : Type 0 where
  -- a text without such a line has its fault at the end, where its lines are one more than its newline bytes
  no_generators : ¬ HasGenerators text → n ≡ length (lines_of text) → kind ≡ Syntax → FirstFault text n kind
  at_line : HasGenerators text → (before : List (List ℕ)) (line : List ℕ) (after : List (List ℕ)) (earlier : Option LPresentation)
      → lines_of text ≡ before ++ line ∷ after → n ≡ suc (length before) → is_skipped line ≡ false
      → Are before earlier → LineFault earlier line kind → FirstFault text n kind
