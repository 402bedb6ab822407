use Rattle.cert_checker.proofs.summing.SumSteps.{raised-none, raised-factor, raised-first, raised-last, raised-alike, raised-more}
use Rattle.cert_checker.proofs.sums.add_entries.Goals as goal

pub loop-pair-init : goal.loop-pair-init
loop-pair-init c = raised-none c.args.row.now c.args.pairs.now c.requires.row

pub raise-requires-clause-column : goal.raise-requires-clause-column
raise-requires-clause-column c = record {
  first = raised-first c.args.row.now c.args.pairs.now c.requires.pairs c.loop-pair.pair-index (0, 0) c.loop-pair-test.true
      c.loop-pair.row c.loop-pair.invariant;
  last = raised-last c.args.row.now c.args.pairs.now c.requires.pairs c.loop-pair.pair-index (0, 0) c.loop-pair-test.true
      c.loop-pair.row c.loop-pair.invariant;
}

pub raise-requires-clause-residue : goal.raise-requires-clause-residue
raise-requires-clause-residue c =
    raised-factor c.args.row.now c.args.pairs.now c.requires.pairs c.loop-pair.pair-index (0, 0) c.loop-pair-test.true
    c.loop-pair.row c.loop-pair.invariant

pub raise-requires-clause-row : goal.raise-requires-clause-row
raise-requires-clause-row c =
    raised-alike c.args.row.now c.args.pairs.now c.requires.pairs c.loop-pair.pair-index (0, 0) c.loop-pair-test.true
    c.loop-pair.row c.loop-pair.invariant

pub loop-pair-preserved : goal.loop-pair-preserved
loop-pair-preserved c =
    raised-more c.args.row.now c.args.pairs.now c.requires.pairs c.loop-pair.pair-index (0, 0) c.loop-pair-test.true
    c.loop-pair.row c.loop-pair.invariant c.raise.new.row c.raise.ensures.row c.raise.ensures.raised
