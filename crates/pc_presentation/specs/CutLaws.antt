-- Presentations cut after some generator: what is proved of them. Each statement is the contract of a function of
-- `cut_laws`.
-- From: the quotients of a power-commutator presentation by its last generators, as in Newman and O'Brien's method.
use Rattle.std.specs.Prelude.{◌≤◌, ◌-◌, ℕ, ℤ, List, []}
use Rattle.pq_base.specs.SignedWord.{sub, HasLetters}
use Rattle.pq_base.specs.Presentation.{Presentation, IsPresentation, IsNormal, word_from}
use Rattle.pq_base.specs.Joined.{Joined, IsConsistent}
use Rattle.pq_base.specs.Canonical.{first_generators}
use Rattle.pc_presentation.specs.RowedLaws.{projection}

-- a word without its letters after the first m generators
abbrev pub cut_word : ℕ → Presentation → List ℤ → List ℤ
cut_word m P w = sub w (projection m (P.rank - m))

-- cutting carries joined words to joined words
abbrev pub CutsCarryJoinedWords : Type 0
CutsCarryJoinedWords = (P : Presentation) (m : ℕ) → IsPresentation P → m ≤ P.rank → (u v : List ℤ)
    → Joined P u v → Joined (first_generators m P) (cut_word m P u) (cut_word m P v)

-- a cut presentation is a presentation
abbrev pub CutsArePresentations : Type 0
CutsArePresentations = (P : Presentation) (m : ℕ) → IsPresentation P → m ≤ P.rank → IsPresentation (first_generators m P)

-- and consistent where the whole is
abbrev pub CutsAreConsistent : Type 0
CutsAreConsistent = (P : Presentation) (m : ℕ) → IsPresentation P → m ≤ P.rank → IsConsistent P
    → IsConsistent (first_generators m P)

-- exponents of the generators after the first m, of a word that is joined to their word
pub record ReachesLater (P : Presentation) (m : ℕ) (x : List ℤ) : Type 0 where
  pub exponents : List ℕ
  pub normal : IsNormal P.prime (P.rank - m) exponents
  pub joined : Joined P x (word_from m exponents)

-- a word whose cut is joined to the empty word is joined to a normal word in the generators that are cut off
abbrev pub CutWordsAreLater : Type 0
CutWordsAreLater = (P : Presentation) (m : ℕ) → IsPresentation P → m ≤ P.rank → (u : List ℤ) → HasLetters P.rank u
    → Joined (first_generators m P) (cut_word m P u) [] → ReachesLater P m u
