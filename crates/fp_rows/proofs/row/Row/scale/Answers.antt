use Rattle.std.proofs.Common.{sym, subst, List, ℕ, arith}
use Rattle.pq_base.specs.Table.{AllBelow}
use Rattle.pq_base.specs.Prime.{prime_value}
use Rattle.fp_rows.specs.Rows.{scale_row}
use Rattle.fp_rows.proofs.RowLaws.{scale_row-below}
use Rattle.fp_rows.proofs.RowStorage.{prime_value-pos, Holds-stored}
use Rattle.fp_rows.proofs.row.Row.scale.Goals as goal

pub invariant_of-self : goal.invariant_of-self
invariant_of-self c =
    let p = prime_value c.self.inside.prime in
    let below : AllBelow p (scale_row p c.args.k c.deref_mut.result.now) =
    scale_row-below p c.args.k c.deref_mut.result.now (prime_value-pos c.self.inside.prime) in
    Holds-stored c.self.inside.prime c.self.inside.entries.len c.scale.new.xs _ (omega arith) (omega arith)
    (subst (λ (l : List ℕ). AllBelow p l) (sym c.scale.ensures) below)
