use Rattle.std.proofs.Common.{◌-◌, ℕ, arith, ap, sym, ◌∙◌, ⊎_elim}
use Rattle.std.proofs.lemmas.Bool.{cases_eq}
use Rattle.std.proofs.lemmas.List.{get_or_past}
use Rattle.fp_rows.specs.Row.{at_column}
use Rattle.fp_rows.proofs.RowStorage.{IsZeroRow-from_columns, IsLastNonzero-found}
use Rattle.fp_rows.proofs.row.Row.last_nonzero.Goals as goal

pub loop-column-init : goal.loop-column-init
loop-column-init c = λ d h. get_or_past c.args.self.now.entries (d - 1) 0 (omega arith)

pub returns-then-get-ne0-clause-some : goal.returns-then-get-ne0-clause-some
returns-then-get-ne0-clause-some c =
    IsLastNonzero-found c.args.self.now.entries c.loop-column.column c.get.result (record { first = omega arith; last = omega arith })
    c.get.ensures.entry c.if-get-ne0.true c.loop-column.invariant

pub loop-column-preserved : goal.loop-column-preserved
loop-column-preserved c =
    λ d h. ⊎_elim (λ e. ap (λ (n : ℕ). at_column c.args.self.now.entries n) e ∙ sym c.get.ensures.entry ∙ c.if-get-ne0.false)
    (λ ne. c.loop-column.invariant d (omega arith)) (cases_eq d c.loop-column.column)

pub returns-clause-none : goal.returns-clause-none
returns-clause-none c = IsZeroRow-from_columns c.args.self.now.entries (λ d h. c.loop-column.invariant d (omega arith))
