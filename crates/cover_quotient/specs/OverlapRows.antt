-- Rows that are, or span, the rows of all overlaps.
-- From: the consistency relations of M. R. Vaughan-Lee, An aspect of the nilpotent quotient algorithm, 1984, over a
-- p-covering group.
use Rattle.std.specs.Prelude.{◌≡◌, ℕ, List}
use Rattle.std.specs.List.{All, Contains}
use Rattle.fp_echelon.specs.Span.{InSpan}
use Rattle.pc_presentation.specs.Rowed.{RowedPresentation}
use Rattle.pc_presentation.specs.Collection.{State}
use Rattle.pc_presentation.specs.Overlaps.{Overlap, IsOverlap}
use Rattle.pc_presentation.specs.OverlapRows.{overlap_row}

-- the rows span every overlap's row
abbrev pub SpanOverlaps : RowedPresentation → (State → ℕ → State) → List (List ℕ) → Type 0
SpanOverlaps Z push rows = (o : Overlap) → IsOverlap Z.base.rank o → InSpan Z.base.prime Z.width rows (overlap_row Z push o)

-- a row that is an overlap's
pub record IsOverlapRow (Z : RowedPresentation) (push : State → ℕ → State) (x : List ℕ) : Type 0 where
  pub overlap : Overlap
  pub is_overlap : IsOverlap Z.base.rank overlap
  pub same : overlap_row Z push overlap ≡ x

-- the rows are those of all overlaps, in any order, and any of them more than once
pub record AreOverlapRows (Z : RowedPresentation) (push : State → ℕ → State) (rows : List (List ℕ)) : Type 0 where
  pub every : (o : Overlap) → IsOverlap Z.base.rank o → Contains rows (overlap_row Z push o)
  pub only : All (IsOverlapRow Z push) rows
