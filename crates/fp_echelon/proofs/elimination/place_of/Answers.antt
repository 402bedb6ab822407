use Rattle.std.proofs.Common.{◌≡◌, ◌<◌, ◌+◌, ℕ, ap, sym, ◌∙◌, below_more}
use Rattle.fp_echelon.specs.Slots.{Slot}
use Rattle.fp_echelon.proofs.SlotLaws.{pivot_at-is}
use Rattle.fp_echelon.proofs.elimination.place_of.Goals as goal

pub loop-i-preserved : goal.loop-i-preserved
loop-i-preserved c =
    below_more _ _ c.loop-i.invariant
    (λ e. c.if-pivot-column.false
    (c.pivot.ensures
    ∙ ap (λ (s : Slot). s.pivot) c.index-entries-i.is
    ∙ sym (pivot_at-is c.args.entries.now c.loop-i.i c.index-entries-i.result c.loop-i-test.true)
    ∙ e))
