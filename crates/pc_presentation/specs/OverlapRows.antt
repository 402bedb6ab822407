-- The row of an overlap: the difference of the tails that its two ways reach.
-- From: the consistency relations of covers of Newman and O'Brien's method.
use Rattle.std.specs.Prelude.{◌≡◌, ℕ, List}
use Rattle.fp_rows.specs.Differences.{difference}
use Rattle.pc_presentation.specs.Rowed.{RowedPresentation}
use Rattle.pc_presentation.specs.Collection.{State, identity, push_configuration}
use Rattle.pc_presentation.specs.Overlaps.{Overlap, left_way, right_way}

-- the states that the two ways of an overlap reach
abbrev pub left_end : RowedPresentation → (State → ℕ → State) → Overlap → State
left_end Y push o = push_configuration Y push (identity Y Y.base.rank) (left_way Y o)

abbrev pub right_end : RowedPresentation → (State → ℕ → State) → Overlap → State
right_end Y push o = push_configuration Y push (identity Y Y.base.rank) (right_way Y o)

-- both ways reach the same exponents
abbrev pub ExponentsAgree : RowedPresentation → (State → ℕ → State) → Overlap → Type 0
ExponentsAgree Y push o = (left_end Y push o).exponents ≡ (right_end Y push o).exponents

-- the row of the left end minus the row of the right end
abbrev pub overlap_row : RowedPresentation → (State → ℕ → State) → Overlap → List ℕ
overlap_row Y push o = difference Y.base.prime (left_end Y push o).row (right_end Y push o).row
