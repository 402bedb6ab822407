-- Rows and their sources: a source is an overlap or a relator, and its row in a cover is what a collector's pushes make of it.
-- From: the consistency relations and the enforced relators of covers of Newman and O'Brien's method.
use Rattle.std.specs.Prelude.{◌≡◌, ◌≤◌, ◌-◌, ℕ, ℤ, List, [], ◌∷◌, get_or, length}
use Rattle.std.specs.List.{AllZip}
use Rattle.pq_base.specs.LPresentation.{LPresentation, AreEndoNumbers, along}
use Rattle.pc_presentation.specs.declared.overlap.Overlap.{Overlap}
use Rattle.pc_presentation.specs.OverlapNumbers.{AreOverlapNumbers, overlap_of}
use Rattle.pc_presentation.specs.OverlapRows.{ExponentsAgree, overlap_row}
use Rattle.pc_presentation.specs.Collection.{State}
use Rattle.pc_presentation.specs.Tailed.{rowed_presentation}
use Rattle.p_cover.specs.Covers.{CoverOf, cover_presentation}
use Rattle.p_cover.specs.ImageValues.{IsRowOfWord}
use Rattle.p_cover.specs.ImagesAlong.{IsRowAlongEndos}
use Rattle.derivation_log.specs.declared.source.RowSource.{RowSource}
use Rattle.derivation_log.specs.declared.source.RowSource.TheVariants.{Test, Fixed, Iterated}

-- the numbers of a source are those of n generators, and of relators and endomorphisms of the presentation
abbrev pub AreSourceNumbers : LPresentation → ℕ → RowSource → Type 0
AreSourceNumbers L n (Test o) = AreOverlapNumbers n o
AreSourceNumbers L n (Fixed i) = (1 ≤ i) × (i ≤ length L.fixed)
AreSourceNumbers L n (Iterated i s) = (1 ≤ i) × (i ≤ length L.iterated) × AreEndoNumbers (length L.endos) s

-- the word that a source says is trivial: a relator, or of an overlap the empty word
abbrev pub source_word : LPresentation → RowSource → List ℤ
source_word L (Test o) = []
source_word L (Fixed i) = get_or L.fixed (i - 1) []
source_word L (Iterated i s) = along L.endos s (get_or L.iterated (i - 1) [])

-- the row of an overlap: both of its ways reach the same exponents, and it is what their tails differ by
pub record IsRowOfOverlap (C : CoverOf) (push : State → ℕ → State) (o : Overlap) (x : List ℕ) : Type 0 where
  pub agree : ExponentsAgree (rowed_presentation (cover_presentation C)) push (overlap_of o)
  pub row : x ≡ overlap_row (rowed_presentation (cover_presentation C)) push (overlap_of o)

-- the row of a word along a path: with the empty path its own row, and else its row under the images carried along the path
abbrev pub IsRowAlong : List (List (List ℤ)) → CoverOf → (State → ℕ → State) → List ℕ → List ℤ → List ℕ → Type 0
IsRowAlong endos C push [] w x = IsRowOfWord C push w x
IsRowAlong endos C push (e ∷ s) w x = IsRowAlongEndos C push endos (e ∷ s) w x

-- the row that pushes give for an overlap or a relator
abbrev pub IsRowFrom : LPresentation → CoverOf → (State → ℕ → State) → RowSource → List ℕ → Type 0
IsRowFrom L C push (Test o) x = IsRowOfOverlap C push o x
IsRowFrom L C push (Fixed i) x = IsRowOfWord C push (get_or L.fixed (i - 1) []) x
IsRowFrom L C push (Iterated i s) x = IsRowAlong L.endos C push s (get_or L.iterated (i - 1) []) x

-- the row that pushes give for a source whose numbers are in range
pub record IsRowOf (L : LPresentation) (C : CoverOf) (push : State → ℕ → State) (s : RowSource) (x : List ℕ) : Type 0 where
  pub numbers : AreSourceNumbers L C.answer.presentation.rank s
  pub row : IsRowFrom L C push s x

-- the n-th row is that of the n-th source, and there are as many of both
abbrev pub AreRowsOf : LPresentation → CoverOf → (State → ℕ → State) → List RowSource → List (List ℕ) → Type 0
AreRowsOf L C push sources rows = AllZip (IsRowOf L C push) sources rows
