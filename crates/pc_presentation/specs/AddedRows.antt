-- A row added to a state several times.
use Rattle.std.specs.Prelude.{ℕ, zero, suc, List}
use Rattle.pc_presentation.specs.Collection.{State, add_row}

abbrev pub add_row_times : ℕ → List ℕ → ℕ → State → State
add_row_times p t zero s = s
add_row_times p t (suc n) s = add_row_times p t n (add_row p t s)
