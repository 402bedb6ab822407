use Rattle.std.proofs.Common.{◌+◌, [], length, refl, ap, sym, ◌∙◌, arith}
use Rattle.fp_rows.specs.Row.{PrimeRow}
use Rattle.relator_spin.proofs.WorkLoops.{AreOver-at, RowsTaken-none, RowsTaken-more, RowsTaken-all}
use Rattle.relator_spin.proofs.work.Work.take_rows.Goals as goal

pub loop-place-init : goal.loop-place-init
loop-place-init c = RowsTaken-none c.args.rows.now c.args.self.now c.requires.ready

pub take_row-requires-clause-prime : goal.take_row-requires-clause-prime
take_row-requires-clause-prime c =
    let over =
    AreOver-at c.args.self.now.basis.prime c.args.self.now.basis.width c.args.rows.now c.loop-place.place c.index-rows-place.result
    c.loop-place-test.true c.requires.rows in
    ap (λ (r : PrimeRow). r.prime) c.index-rows-place.is ∙ over.prime ∙ sym c.loop-place.invariant.grown.prime

pub take_row-requires-clause-width : goal.take_row-requires-clause-width
take_row-requires-clause-width c =
    let over =
    AreOver-at c.args.self.now.basis.prime c.args.self.now.basis.width c.args.rows.now c.loop-place.place c.index-rows-place.result
    c.loop-place-test.true c.requires.rows in
    ap (λ (r : PrimeRow). length r.entries) c.index-rows-place.is ∙ over.wide ∙ sym c.loop-place.invariant.grown.width

pub loop-place-preserved : goal.loop-place-preserved
loop-place-preserved c =
    RowsTaken-more c.args.rows.now c.args.self.now c.loop-place.self c.take_row.new.self c.loop-place.place c.index-rows-place.result
    (record { row = c.loop-place.place + 1; along = [] }) c.loop-place-test.true c.index-rows-place.is refl c.loop-place.invariant
    c.in_ok-take_row.ensures

pub returns-clause-in_span : goal.returns-clause-in_span
returns-clause-in_span c =
    RowsTaken-all c.args.rows.now c.args.self.now c.loop-place.self c.loop-place.place
    (omega (arith, c.loop-place-test.false)) c.loop-place.invariant
