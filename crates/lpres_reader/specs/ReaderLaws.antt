-- What is proved of the grammar alone.
use Rattle.std.specs.Prelude.{◌≡◌, ◌<◌, ◌-◌, ◌^◌, ℕ, ℤ, List, length, All, ◌⊎◌, ◌↔◌, Ok, Err}
use Rattle.pq_base.specs.Name.{IsName}
use Rattle.pq_base.specs.LPresentation.{LPresentation, IsLPresentation, AreDistinct}
use Rattle.lpres_reader.specs.Tokens.{Token, ReadsTokens}
use Rattle.lpres_reader.specs.Words.{ReadsWord}
use Rattle.lpres_reader.specs.Items.{Item, ReadsItem}
use Rattle.lpres_reader.specs.Limits.{IsWithinLimits}
use Rattle.lpres_reader.specs.Reads.{Reads}
use Rattle.lpres_reader.specs.Trees.{WordTree, word_tokens, word_meaning, ItemTree, item_tokens, body_tokens, item_meaning, AreKnown}
use Rattle.lpres_reader.specs.Trees.{GivesAll}
use Rattle.lpres_reader.specs.Trials.{AreKept, word_trials, item_trials, added}
use Rattle.lpres_reader.specs.Faults.{Kind, FirstFault}
use Rattle.lpres_reader.specs.Verdicts.{text_verdict}
use Rattle.lpres_reader.specs.CanonicalText.{canonical_text}

-- a line is at most one list of tokens, and that is at most one tree
pub record IsOneTree (line : List ℕ) : Type 0 where
  pub one_list : (ts us : List Token) → ReadsTokens line ts → ReadsTokens line us → ts ≡ us
  pub one_tree : (i j : ItemTree) → ReadsTokens line (item_tokens i) → ReadsTokens line (item_tokens j) → i ≡ j

abbrev pub EachLineIsOneTree : Type 0
EachLineIsOneTree = (line : List ℕ) → IsOneTree line

-- a tree of these tokens over known names, which keeps its trials and means the word
pub record MeansWord (names : List (List ℕ)) (ts : List Token) (w : List ℤ) : Type 0 where
  pub tree : WordTree
  pub spelled : ts ≡ word_tokens tree
  pub known : AreKnown names ts
  pub kept : AreKept (word_trials names tree)
  pub means : w ≡ word_meaning names tree

abbrev pub WordsReadAsTheirTrees : Type 0
WordsReadAsTheirTrees =
    (names : List (List ℕ)) → AreDistinct names → (ts : List Token) (w : List ℤ) → ReadsWord names ts w ↔ MeansWord names ts w

-- such a tree of a line behind the presentation M, whose arrows give all images
pub record MeansItem (M : LPresentation) (ts : List Token) (item : Item) : Type 0 where
  pub tree : ItemTree
  pub spelled : ts ≡ item_tokens tree
  pub known : AreKnown M.names (body_tokens tree)
  pub kept : AreKept (item_trials M tree)
  pub gives : GivesAll M.names tree
  pub means : item ≡ item_meaning M.names tree gives

abbrev pub LinesReadAsTheirTrees : Type 0
LinesReadAsTheirTrees = (M : LPresentation) → AreDistinct M.names → IsWithinLimits M → (ts : List Token) (item : Item)
    → (ReadsItem M.names ts item × IsWithinLimits (added M item)) ↔ MeansItem M ts item

-- a text reads as exactly one presentation, or it has exactly one first fault
pub record ReadsOrFails (text : List ℕ) : Type 0 where
  pub either : ((L : LPresentation) × Reads text L) ⊎ ((n : ℕ) × (kind : Kind) × FirstFault text n kind)
  pub not_both : (L : LPresentation) (n : ℕ) (kind : Kind) → Reads text L → FirstFault text n kind → ⊥
  pub one_presentation : (L M : LPresentation) → Reads text L → Reads text M → L ≡ M
  pub one_fault : (n m : ℕ) (kind other : Kind) → FirstFault text n kind → FirstFault text m other → (n ≡ m) × (kind ≡ other)

abbrev pub EachTextReadsOrFails : Type 0
EachTextReadsOrFails = (text : List ℕ) → ReadsOrFails text

-- the verdict on a text is the presentation that it reads as, or its first fault
pub record IsJudged (text : List ℕ) : Type 0 where
  pub presentation : (L : LPresentation) → (text_verdict text ≡ Ok L) ↔ Reads text L
  pub fault : (n : ℕ) (kind : Kind) → (text_verdict text ≡ Err (n, kind)) ↔ FirstFault text n kind

abbrev pub VerdictsAreRight : Type 0
VerdictsAreRight = (text : List ℕ) → IsJudged text

-- the canonical text of a presentation reads as the presentation
abbrev pub CanonicalTextsReadBack : Type 0
CanonicalTextsReadBack = (L : LPresentation) → All IsName L.names → IsLPresentation L → IsWithinLimits L → Reads (canonical_text L) L

-- and the reader may be called on it
abbrev pub CanonicalTextsAreShort : Type 0
CanonicalTextsAreShort =
    (L : LPresentation) → All IsName L.names → IsLPresentation L → IsWithinLimits L → length (canonical_text L) < 2 ^ 32 - 1
