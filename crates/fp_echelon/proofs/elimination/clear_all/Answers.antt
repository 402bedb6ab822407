use Rattle.std.proofs.Common.{◌≡◌, ◌<◌, ◌+◌, ℕ, List, get_or, length, sym, subst, arith}
use Rattle.fp_echelon.specs.Slots.{Slot, IsSlot, HasPivot, cleared_slot}
use Rattle.fp_echelon.proofs.SlotLaws.{IsSlot-own, IsSlot-mapped, mapped_more}
use Rattle.fp_echelon.proofs.elimination.clear_all.Goals as goal

pub clear_by-requires-clause-slot : goal.clear_by-requires-clause-slot
clear_by-requires-clause-slot c =
    let here = IsSlot-mapped c.args.other.now.prime (length c.args.other.now.row) c.args.count (cleared_slot c.args.count c.args.other.now)
    c.args.entries.now c.loop-entry.entries c.loop-entry.entry-index c.entry-item.result c.loop-entry-test.true c.loop-entry.invariant
    c.requires.slots in
    IsSlot-own _ _ _ _ c.args.count (get_or c.loop-entry.entries c.loop-entry.entry-index c.entry-item.result) (sym here.prime)
    (sym here.row.count) here

pub clear_by-requires-clause-other : goal.clear_by-requires-clause-other
clear_by-requires-clause-other c =
    let here = IsSlot-mapped c.args.other.now.prime (length c.args.other.now.row) c.args.count (cleared_slot c.args.count c.args.other.now)
    c.args.entries.now c.loop-entry.entries c.loop-entry.entry-index c.entry-item.result c.loop-entry-test.true c.loop-entry.invariant
    c.requires.slots in
    IsSlot-own _ _ _ _ c.args.count c.args.other.now (sym here.prime) (sym here.row.count) c.requires.slot

pub clear_by-requires-clause-pivot : goal.clear_by-requires-clause-pivot
clear_by-requires-clause-pivot c =
    let here = IsSlot-mapped c.args.other.now.prime (length c.args.other.now.row) c.args.count (cleared_slot c.args.count c.args.other.now)
    c.args.entries.now c.loop-entry.entries c.loop-entry.entry-index c.entry-item.result c.loop-entry-test.true c.loop-entry.invariant
    c.requires.slots in
    subst (λ (w : ℕ). HasPivot w c.args.other.now) (sym here.row.count) c.requires.pivot

pub loop-entry-preserved : goal.loop-entry-preserved
loop-entry-preserved c =
    mapped_more (cleared_slot c.args.count c.args.other.now) c.args.entries.now c.loop-entry.entries c.loop-entry.entry-index
    c.entry-item.result
    c.clear_by.new.self (omega arith) (omega arith) c.loop-entry.invariant c.clear_by.ensures
