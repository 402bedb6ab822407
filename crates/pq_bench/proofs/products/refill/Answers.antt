use Rattle.std.proofs.Common.{◌<◌, ◌+◌, ◌-◌, sym, subst, arith}
use Rattle.pc_presentation.specs.Tailed.{Element, IsElement}
use Rattle.pc_presentation.proofs.quotients.ElementConditions.{set-element}
use Rattle.pq_bench.proofs.products.refill.Goals as goal

pub loop-i-preserved : goal.loop-i-preserved
loop-i-preserved c =
    let residue = c.residue.ensures in
    let prime = c.prime.ensures in
    let below : c.residue.result < c.args.pcp.now.presentation.prime = omega arith in
    subst (λ (e : Element). IsElement c.args.pcp.now e) (sym c.set_exponent.ensures)
    (set-element c.args.pcp.now c.loop-i.at c.loop-i.invariant ((c.loop-i.i + 1) - 1) c.residue.result below)
