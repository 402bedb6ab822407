use Rattle.cert_checker.proofs.summing.SumSteps.{sum-none, sum-from_one, sum-inside, sum-prime, sum-width, sum-factor, sum-more}
use Rattle.cert_checker.proofs.sums.add_multiples.Goals as goal

pub loop-pair-init : goal.loop-pair-init
loop-pair-init c = sum-none c.args.sum.now c.args.rows.now c.requires.rows c.args.pairs.now c.requires.sum c.requires.zero

pub overflow_sub-pair : goal.overflow_sub-pair
overflow_sub-pair c =
    sum-from_one c.args.sum.now c.args.rows.now c.requires.rows c.args.pairs.now c.requires.pairs c.loop-pair.pair-index (0, 0)
    c.loop-pair-test.true

pub bounds-rows-pair : goal.bounds-rows-pair
bounds-rows-pair c =
    sum-inside c.args.sum.now c.args.rows.now c.requires.rows c.args.pairs.now c.requires.pairs c.loop-pair.pair-index (0, 0)
    c.loop-pair-test.true

pub add_scaled-requires-clause-prime : goal.add_scaled-requires-clause-prime
add_scaled-requires-clause-prime c =
    sum-prime c.args.sum.now c.args.rows.now c.requires.rows c.args.pairs.now c.requires.pairs c.loop-pair.pair-index (0, 0)
    c.loop-pair-test.true
    c.loop-pair.sum c.loop-pair.invariant c.index-rows-pair.result c.index-rows-pair.is

pub add_scaled-requires-clause-width : goal.add_scaled-requires-clause-width
add_scaled-requires-clause-width c =
    sum-width c.args.sum.now c.args.rows.now c.requires.rows c.args.pairs.now c.requires.pairs c.loop-pair.pair-index (0, 0)
    c.loop-pair-test.true
    c.loop-pair.sum c.loop-pair.invariant c.index-rows-pair.result c.index-rows-pair.is

pub add_scaled-requires-clause-factor : goal.add_scaled-requires-clause-factor
add_scaled-requires-clause-factor c =
    sum-factor c.args.sum.now c.args.rows.now c.requires.rows c.args.pairs.now c.requires.pairs c.loop-pair.pair-index (0, 0)
    c.loop-pair-test.true
    c.loop-pair.sum c.loop-pair.invariant c.index-rows-pair.result c.index-rows-pair.is

pub loop-pair-preserved : goal.loop-pair-preserved
loop-pair-preserved c =
    sum-more c.args.sum.now c.args.rows.now c.requires.rows c.args.pairs.now c.requires.pairs c.loop-pair.pair-index (0, 0)
    c.loop-pair-test.true
    c.loop-pair.sum c.loop-pair.invariant c.index-rows-pair.result c.index-rows-pair.is c.add_scaled.new.self c.add_scaled.ensures
