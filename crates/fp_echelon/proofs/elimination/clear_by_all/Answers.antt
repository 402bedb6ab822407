use Rattle.std.proofs.Common.{◌≡◌, ◌<◌, ◌+◌, ℕ, List, get_or, drop, length, ap, sym, ◌∙◌, subst, arith}
use Rattle.std.proofs.lemmas.List.{at_drop_more}
use Rattle.fp_echelon.specs.Slots.{Slot, IsSlot, HasPivot, cleared_slot, cleared_by_each}
use Rattle.fp_echelon.proofs.SlotLaws.{AreSlots-at, IsSlot-own, IsSlot-cleared_slot, HavePivots-at, prime_from_pivot}
use Rattle.fp_echelon.proofs.elimination.clear_by_all.Goals as goal

pub clear_by-requires-clause-slot : goal.clear_by-requires-clause-slot
clear_by-requires-clause-slot c =
    IsSlot-own _ _ _ _ c.args.count c.loop-other.entry (sym c.loop-other.invariant.slot.prime) (sym c.loop-other.invariant.slot.row.count)
    c.loop-other.invariant.slot

pub clear_by-requires-clause-other : goal.clear_by-requires-clause-other
clear_by-requires-clause-other c =
    let here = AreSlots-at c.args.entry.now.prime (length c.args.entry.now.row) c.args.count c.args.others.now c.loop-other.other-index
    c.other-item.result c.loop-other-test.true c.requires.others in
    IsSlot-own _ _ _ _ c.args.count c.other-item.result (sym c.loop-other.invariant.slot.prime) (sym c.loop-other.invariant.slot.row.count)
    (subst (λ (s : Slot). IsSlot c.args.entry.now.prime (length c.args.entry.now.row) c.args.count s) (sym c.other-item.is) here)

pub clear_by-requires-clause-pivot : goal.clear_by-requires-clause-pivot
clear_by-requires-clause-pivot c =
    let here =
    HavePivots-at (length c.args.entry.now.row) c.args.others.now c.loop-other.other-index c.other-item.result c.loop-other-test.true
    c.requires.pivots in
    subst (λ (w : ℕ). HasPivot w c.other-item.result) (sym c.loop-other.invariant.slot.row.count)
    (subst (λ (s : Slot). HasPivot (length c.args.entry.now.row) s) (sym c.other-item.is) here)

pub loop-other-preserved : goal.loop-other-preserved
loop-other-preserved c =
    let p : ℕ = c.args.entry.now.prime in
    let width : ℕ = length c.args.entry.now.row in
    let i : ℕ = c.loop-other.other-index in
    let here = AreSlots-at p width c.args.count c.args.others.now i c.other-item.result c.loop-other-test.true c.requires.others in
    let pivot = HavePivots-at width c.args.others.now i c.other-item.result c.loop-other-test.true c.requires.pivots in
    let new : c.clear_by.new.self ≡ cleared_slot c.args.count (get_or c.args.others.now i c.other-item.result) c.loop-other.entry =
    c.clear_by.ensures ∙ ap (λ (s : Slot). cleared_slot c.args.count s c.loop-other.entry) c.other-item.is in
    record {
      slot = subst (λ (s : Slot). IsSlot p width c.args.count s) (sym new)
          (IsSlot-cleared_slot p width (prime_from_pivot p width c.args.count _ _ here pivot) c.args.count c.args.count _ c.loop-other.entry
          here
          c.loop-other.invariant.slot c.loop-other.invariant.slot);
      rest =
          ap (λ (s : Slot). cleared_by_each c.args.count (drop (i + 1) c.args.others.now) s) new
          ∙ sym (at_drop_more (λ (l : List Slot). cleared_by_each c.args.count l c.loop-other.entry) c.args.others.now i c.other-item.result
          c.loop-other-test.true)
          ∙ c.loop-other.invariant.rest;
    }
