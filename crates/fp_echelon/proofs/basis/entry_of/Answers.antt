use Rattle.std.proofs.Common.{ap, sym, ◌∙◌, subst}
use Rattle.fp_echelon.specs.Slots.{Slot, IsSlot, seen}
use Rattle.fp_echelon.proofs.SlotLaws.{AreSlots-at}
use Rattle.fp_echelon.proofs.PlaceLaws.{at_pivot-place, no_place}
use Rattle.fp_echelon.proofs.basis.entry_of.Goals as goal

pub unreachable-requires : goal.unreachable-requires
unreachable-requires c = no_place c.args.column 0 c.args.entries.now c.in-None.ensures.none c.requires

pub returns-clause-pivot : goal.returns-clause-pivot
returns-clause-pivot c =
    λ n. at_pivot-place c.args.column n c.args.entries.now c.in-Some.place c.index-entries-place.result c.in-Some.ensures.some
    ∙ ap (seen n) (sym c.index-entries-place.is)

pub returns-clause-slot : goal.returns-clause-slot
returns-clause-slot c =
    λ p width n are.
    subst (λ (s : Slot). IsSlot p width n s) (sym c.index-entries-place.is)
    (AreSlots-at p width n c.args.entries.now c.in-Some.place c.index-entries-place.result c.in-Some.ensures.some.within are)
