use Rattle.std.proofs.Common.{ap, sym, ◌∙◌, length}
use Rattle.fp_rows.specs.Row.{PrimeRow}
use Rattle.fp_rows.proofs.RowLaws.{length-add_scaled}
use Rattle.pq_bench.proofs.rows.added.Goals as goal

pub loop-n-preserved : goal.loop-n-preserved
loop-n-preserved c =
    let known = c.in_ok-other.ensures in (
      ap (λ (r : PrimeRow). r.prime) c.add_scaled.ensures ∙ c.loop-n.invariant.0,
      ap (λ (r : PrimeRow). length r.entries) c.add_scaled.ensures
          ∙ length-add_scaled c.loop-n.row.prime _ c.loop-n.row.entries c.in_ok-other.other.entries (c.loop-n.invariant.1 ∙ sym known.1)
          ∙ c.loop-n.invariant.1,
    )
