use Rattle.std.proofs.Common.{◌∙◌, ◌-◌, ap, sym, subst, length, max}
use Rattle.fp_echelon.specs.Basis.{Echelon}
use Rattle.relator_spin.specs.Closure.{IsClosed}
use Rattle.relator_spin.specs.Spinning.{Spinning}
use Rattle.relator_spin.proofs.ClosureMade.{IsMade, IsMade-roomy, is_made}
use Rattle.relator_spin.proofs.closing.close.Goals as goal

made : (c : goal.After-drop-work-inside-2)
    → IsMade c.args.basis c.args.rows.now c.args.matrices.now c.work-2.inside.basis c.work-2.inside.spun.items
made c =
    let reserved = c.in_ok-reserve.ensures.ok in
    let start : Spinning =
    record { older = c.rank-older.result; basis = c.reserve.new.self; spun = c.new.result.items; image = c.in_ok-image.image } in
    let first = c.in_ok-take_rows.ensures in
    let second = c.in_ok-take_images.ensures in
    let whole = is_made c.args.rows.now c.args.matrices.now start c.take_rows.new.self c.take_images.new.self c.prime.ensures.basis
    (c.rank-older.ensures.added ∙ ap (λ (b : Echelon). length b.added) (sym reserved)) c.new.ensures.items
    first.ready first.grown first.in_span (second.named c.args.rows.now) (first.named c.args.matrices.now)
    second.ready second.grown second.images
    (subst (λ (b : Echelon). IsClosed b.prime b.width c.args.matrices.now b.added) (sym reserved) c.requires.closed) in
    subst (λ (w : Spinning). IsMade c.args.basis c.args.rows.now c.args.matrices.now w.basis w.spun) (sym c.work-2.view_is)
    (IsMade-roomy c.args.basis (max c.args.basis.spare (c.width.result - c.rank-older.result)) c.args.rows.now c.args.matrices.now
    c.take_images.new.self.basis c.take_images.new.self.spun
    (subst (λ (b : Echelon). IsMade b c.args.rows.now c.args.matrices.now c.take_images.new.self.basis c.take_images.new.self.spun) reserved
    whole))

pub returns-clause-names : goal.returns-clause-names
returns-clause-names c = (made c).names

pub returns-clause-pivots : goal.returns-clause-pivots
returns-clause-pivots c = (made c).pivots

pub returns-clause-rows : goal.returns-clause-rows
returns-clause-rows c = (made c).rows

pub returns-clause-closed : goal.returns-clause-closed
returns-clause-closed c = (made c).closed

pub returns-clause-images : goal.returns-clause-images
returns-clause-images c = (made c).images

pub returns-clause-least : goal.returns-clause-least
returns-clause-least c = (made c).least
