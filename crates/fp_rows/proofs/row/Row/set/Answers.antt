use Rattle.std.proofs.Common.{◌-◌, ◌<◌, subst, sym}
use Rattle.fp_rows.specs.Row.{PrimeRow}
use Rattle.fp_rows.proofs.RowStorage.{Holds-set}
use Rattle.fp_rows.proofs.row.Row.set.Goals as goal

pub invariant_of-self : goal.invariant_of-self
invariant_of-self c =
    Holds-set c.self.inside.prime c.self.inside.entries.items (c.args.column - 1) c.args.value
    (subst (λ (r : PrimeRow). c.args.value < r.prime) (sym c.self.view_is) c.requires.residue) c.self.invariant
