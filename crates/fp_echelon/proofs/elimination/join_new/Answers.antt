use Rattle.std.proofs.Common.{◌≡◌, ◌<◌, ◌≤◌, ◌+◌, suc, ℕ, List, get_or, take, drop, map, length, ap, sym, ◌∙◌, subst, refl, add-one, arith}
use Rattle.fp_echelon.specs.Slots.{Slot, IsSlot, AreSlots, HasPivot, scaled_slot, no_slot}
use Rattle.fp_echelon.proofs.SlotLaws.{IsSlot-own, IsSlot-later, IsSlot-scaled_slot, AreSlots-own, AreSlots-older}
use Rattle.fp_echelon.proofs.elimination.join_new.Goals as goal

scaled_is : (p width n c k : ℕ) (slots later : List Slot) (d new : Slot) → k < p → n < length slots → AreSlots p width (suc n) slots
    → later ≡ drop n slots → new ≡ scaled_slot (n + 1) c k (get_or later 0 d) → IsSlot p width (suc n) new
scaled_is p width n c k slots later d new factor h are e is =
    let here = IsSlot-later p width (suc n) n slots later d h e are in
    subst (λ (s : Slot). IsSlot p width (suc n) s) (sym (is ∙ ap (λ (m : ℕ). scaled_slot m c k (get_or later 0 d)) (add-one n)))
    (IsSlot-scaled_slot p width (omega arith) (suc n) (suc n) c k (get_or later 0 d) here here)

pub scale-requires-clause-slot : goal.scale-requires-clause-slot
scale-requires-clause-slot c =
    let s : Slot = get_or c.args.entries.now c.args.rank no_slot in
    let here = IsSlot-later s.prime (length s.row) (suc c.args.rank) c.args.rank c.args.entries.now
    c.split_at_mut-older.result.1.now c.index-later-0.result c.requires.rank c.split_at_mut-older.ensures.back c.requires.slots in
    rw add-one (IsSlot-own _ _ _ _ (suc c.args.rank) (get_or c.split_at_mut-older.result.1.now 0 c.index-later-0.result) (sym here.prime)
    (sym here.row.count) here)

pub clear_all-requires-clause-slot : goal.clear_all-requires-clause-slot
clear_all-requires-clause-slot c =
    let s : Slot = get_or c.args.entries.now c.args.rank no_slot in
    let new = scaled_is s.prime (length s.row) c.args.rank c.args.column c.args.k c.args.entries.now c.split_at_mut-older.result.1.now
    c.index-later-0.result c.scale.new.self c.requires.factor c.requires.rank c.requires.slots c.split_at_mut-older.ensures.back
    c.scale.ensures in
    rw add-one (IsSlot-own _ _ _ _ (suc c.args.rank) c.scale.new.self (sym new.prime) (sym new.row.count) new)

pub clear_all-requires-clause-slots : goal.clear_all-requires-clause-slots
clear_all-requires-clause-slots c =
    let s : Slot = get_or c.args.entries.now c.args.rank no_slot in
    let new = scaled_is s.prime (length s.row) c.args.rank c.args.column c.args.k c.args.entries.now c.split_at_mut-older.result.1.now
    c.index-later-0.result c.scale.new.self c.requires.factor c.requires.rank c.requires.slots c.split_at_mut-older.ensures.back
    c.scale.ensures in
    AreSlots-own _ _ _ _ (suc c.args.rank) (c.args.rank + 1) c.split_at_mut-older.result.0.now (sym new.prime) (sym new.row.count)
    (sym (add-one c.args.rank))
    (AreSlots-older s.prime (length s.row) (suc c.args.rank) c.args.rank c.args.entries.now c.split_at_mut-older.result.0.now
    c.split_at_mut-older.ensures.front c.requires.slots)

pub clear_all-requires-clause-pivot : goal.clear_all-requires-clause-pivot
clear_all-requires-clause-pivot c =
    let s : Slot = get_or c.args.entries.now c.args.rank no_slot in
    let new = scaled_is s.prime (length s.row) c.args.rank c.args.column c.args.k c.args.entries.now c.split_at_mut-older.result.1.now
    c.index-later-0.result c.scale.new.self c.requires.factor c.requires.rank c.requires.slots c.split_at_mut-older.ensures.back
    c.scale.ensures in
    let column : c.scale.new.self.pivot ≡ c.args.column = ap (λ (t : Slot). t.pivot) c.scale.ensures in
    let long = new.row.count in
    let first = c.requires.column.first in
    let last = c.requires.column.last in
    record { first = omega arith; last = omega (arith, long) }
