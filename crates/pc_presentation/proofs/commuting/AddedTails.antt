-- Tails added to an element: no tail adds nothing.
use Rattle.std.proofs.Common.{◌≡◌, ℕ, List, replicate, ap, sym}
use Rattle.pc_presentation.specs.Pcp.{TailedPresentation}
use Rattle.pc_presentation.specs.Collection.{add_row}
use Rattle.pc_presentation.specs.Tailed.{Element, IsElement, with_state}
use Rattle.pc_presentation.proofs.rows.RowLaws.{row_sum-zeros}
use Rattle.pc_presentation.specs.AddedRows.{add_row_times}

pub no_tail-added : (T : TailedPresentation) (e : Element) → IsElement T e
    → e ≡ with_state e (add_row T.presentation.prime (replicate T.tails 0) e.state)
no_tail-added T e h =
    ap (λ (x : List ℕ). with_state e (record { exponents = e.state.exponents; row = x }))
    (sym (row_sum-zeros T.presentation.prime T.tails e.state.row h.state.row))

-- the element with a row added so many times
abbrev pub with_row_times : ℕ → List ℕ → ℕ → Element → Element
with_row_times p t n e = with_state e (add_row_times p t n e.state)
