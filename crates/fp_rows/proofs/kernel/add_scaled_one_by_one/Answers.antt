use Rattle.std.proofs.Common.{refl, add-one, arith}
use Rattle.fp_rows.proofs.KernelLoops.{add_scaled_fits, add_scaled_more, add_scaled_all}
use Rattle.fp_rows.proofs.kernel.add_scaled_one_by_one.Goals as goal

pub loop-i-init : goal.loop-i-init
loop-i-init c = refl

pub overflow_mul-k : goal.overflow_mul-k
overflow_mul-k c =
    let fits = add_scaled_fits c.args.p c.args.k c.args.xs.now c.args.ys.now c.loop-i.xs c.loop-i.i
    (omega arith) c.requires.width c.loop-i.invariant (omega arith) c.requires.factor c.requires.left c.requires.right in
    omega (arith, fits.product)

pub overflow_add-xs : goal.overflow_add-xs
overflow_add-xs c =
    let fits = add_scaled_fits c.args.p c.args.k c.args.xs.now c.args.ys.now c.loop-i.xs c.loop-i.i
    (omega arith) c.requires.width c.loop-i.invariant (omega arith) c.requires.factor c.requires.left c.requires.right in
    omega (arith, fits.sum)

pub remainder-requires-clause-small : goal.remainder-requires-clause-small
remainder-requires-clause-small c =
    let fits = add_scaled_fits c.args.p c.args.k c.args.xs.now c.args.ys.now c.loop-i.xs c.loop-i.i
    (omega arith) c.requires.width c.loop-i.invariant (omega arith) c.requires.factor c.requires.left c.requires.right in
    omega (arith, fits.quotient)

pub loop-i-preserved : goal.loop-i-preserved
loop-i-preserved c =
    rw add-one (add_scaled_more c.args.p c.args.k c.args.xs.now c.args.ys.now c.loop-i.xs c.loop-i.i
    (omega arith) c.requires.width c.loop-i.invariant c.remainder.result c.loop-i-test.true c.remainder.ensures)

pub returns : goal.returns
returns c =
    add_scaled_all c.args.p c.args.k c.args.xs.now c.args.ys.now c.loop-i.xs c.loop-i.i
    (omega arith) c.requires.width c.loop-i.invariant c.loop-i-test.false
