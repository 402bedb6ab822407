use Rattle.std.proofs.Common.{◌+◌, ◌∷◌, ℕ, get_or, ap, sym, ◌∙◌, add-one}
use Rattle.fp_echelon.specs.Matrix.{PrimeMatrix}
use Rattle.relator_spin.specs.declared.spun.Spun.{Spun}
use Rattle.relator_spin.specs.Spinning.{no_spun}
use Rattle.relator_spin.proofs.WorkLoops.{AreMatricesOver-at, ImagesTaken-none, ImagesTaken-more}
use Rattle.relator_spin.proofs.work.Work.expand.Goals as goal

pub loop-index-init : goal.loop-index-init
loop-index-init c = ImagesTaken-none c.args.matrices.now c.args.self.now c.args.place c.requires.ready

pub take_image-requires-clause-prime : goal.take_image-requires-clause-prime
take_image-requires-clause-prime c =
    let over = AreMatricesOver-at c.args.self.now.basis.prime c.args.self.now.basis.width c.args.matrices.now c.loop-index.index
    c.index-matrices-index.result c.loop-index-test.true c.requires.matrices in
    ap (λ (m : PrimeMatrix). m.prime) c.index-matrices-index.is ∙ over.prime ∙ sym c.loop-index.invariant.grown.prime

pub take_image-requires-clause-width : goal.take_image-requires-clause-width
take_image-requires-clause-width c =
    let over = AreMatricesOver-at c.args.self.now.basis.prime c.args.self.now.basis.width c.args.matrices.now c.loop-index.index
    c.index-matrices-index.result c.loop-index-test.true c.requires.matrices in
    ap (λ (m : PrimeMatrix). m.width) c.index-matrices-index.is ∙ over.wide ∙ sym c.loop-index.invariant.grown.width

pub loop-index-preserved : goal.loop-index-preserved
loop-index-preserved c =
    let parent : Spun = get_or c.loop-index.self.spun c.args.place no_spun in
    ImagesTaken-more c.args.matrices.now c.args.self.now c.loop-index.self c.take_image.new.self c.args.place c.loop-index.index
    c.index-matrices-index.result (record { row = parent.row; along = (c.loop-index.index + 1) ∷ parent.along }) c.requires.place
    c.loop-index-test.true c.index-matrices-index.is c.requires.matrices
    (ap (λ (k : ℕ). record { row = parent.row; along = k ∷ parent.along }) (add-one c.loop-index.index)) c.loop-index.invariant
    c.in_ok-take_image.ensures
