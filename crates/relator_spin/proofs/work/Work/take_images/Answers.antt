use Rattle.std.proofs.Common.{◌≡◌, length, ap, arith}
use Rattle.relator_spin.specs.Spinning.{Spinning}
use Rattle.relator_spin.proofs.WorkLoops.{AllImagesTaken-none, AllImagesTaken-more}
use Rattle.relator_spin.proofs.work.Work.take_images.Goals as goal

pub loop-place-init : goal.loop-place-init
loop-place-init c = AllImagesTaken-none c.args.matrices.now c.args.self.now c.requires.ready

pub loop-place-preserved : goal.loop-place-preserved
loop-place-preserved c =
    let names : length c.self.inside.spun.items ≡ length c.loop-place.self.spun = ap (λ (w : Spinning). length w.spun) c.self.view_is in
    let step = c.in_ok-expand.ensures in
    AllImagesTaken-more c.args.matrices.now c.args.self.now c.loop-place.self c.expand.new.self c.loop-place.place
    (omega (arith, c.loop-place-test.true, c.len.ensures, names)) c.loop-place.invariant step.ready step.grown step.named step.images
