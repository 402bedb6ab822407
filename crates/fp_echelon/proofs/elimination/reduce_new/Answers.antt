use Rattle.std.proofs.Common.{◌≡◌, ◌<◌, ◌≤◌, ◌+◌, suc, ℕ, List, get_or, take, drop, map, length, ap, sym, ◌∙◌, subst, refl, add-one, arith}
use Rattle.fp_rows.specs.Rows.{IsRow}
use Rattle.fp_echelon.specs.Slots.{Slot, IsSlot, AreSlots, HavePivots, placed_slot, started_slot}
use Rattle.fp_echelon.proofs.SlotLaws.{IsSlot-own, IsSlot-later, IsSlot-started_slot, AreSlots-own, AreSlots-older, AreSlots-placed}
use Rattle.fp_echelon.proofs.SlotLaws.{HaveRoom-slots, HavePivots-placed}
use Rattle.fp_echelon.proofs.elimination.reduce_new.Goals as goal

started_is : (p width n : ℕ) (slots later : List Slot) (d new : Slot) (x : List ℕ) → 2 ≤ p → IsRow p width x → n < length slots
    → AreSlots p width (suc n) slots → later ≡ drop n slots → new ≡ started_slot n x (get_or later 0 d) → IsSlot p width (suc n) new
started_is p width n slots later d new x two row h are e is =
    let here = IsSlot-later p width (suc n) n slots later d h e are in
    subst (λ (s : Slot). IsSlot p width (suc n) s) (sym is)
    (IsSlot-started_slot p width (omega arith) n (suc n) x (get_or later 0 d) two row here here)

placed_are : (p width n : ℕ) (slots older new : List Slot) → 2 ≤ p → AreSlots p width (suc n) slots → older ≡ take n slots
    → new ≡ map (placed_slot n) older → AreSlots p width (suc n) new
placed_are p width n slots older new two are e is =
    subst (λ (l : List Slot). AreSlots p width (suc n) l) (sym is)
    (AreSlots-placed p width (omega arith) n (suc n) older (AreSlots-older p width (suc n) n slots older e are))

pub clear_places-requires : goal.clear_places-requires
clear_places-requires c =
    HaveRoom-slots c.args.row.now.prime (length c.args.row.now.entries) (suc c.args.rank) c.split_at_mut-older.result.0.now
    (AreSlots-older c.args.row.now.prime (length c.args.row.now.entries) (suc c.args.rank) c.args.rank c.args.entries.now
    c.split_at_mut-older.result.0.now c.split_at_mut-older.ensures.front c.requires.slots)

pub start-requires-clause-slot : goal.start-requires-clause-slot
start-requires-clause-slot c =
    let here = IsSlot-later c.args.row.now.prime (length c.args.row.now.entries) (suc c.args.rank) c.args.rank c.args.entries.now
    c.split_at_mut-older.result.1.now c.index-later-0.result c.requires.rank c.split_at_mut-older.ensures.back c.requires.slots in
    rw add-one here

pub clear_by_all-requires-clause-slot : goal.clear_by_all-requires-clause-slot
clear_by_all-requires-clause-slot c =
    let new =
    started_is c.args.row.now.prime (length c.args.row.now.entries) c.args.rank c.args.entries.now c.split_at_mut-older.result.1.now
    c.index-later-0.result c.start.new.self c.args.row.now.entries c.requires.prime c.requires.row c.requires.rank c.requires.slots
    c.split_at_mut-older.ensures.back c.start.ensures in
    rw add-one (IsSlot-own _ _ _ _ (suc c.args.rank) c.start.new.self (sym new.prime) (sym new.row.count) new)

pub clear_by_all-requires-clause-others : goal.clear_by_all-requires-clause-others
clear_by_all-requires-clause-others c =
    let new =
    started_is c.args.row.now.prime (length c.args.row.now.entries) c.args.rank c.args.entries.now c.split_at_mut-older.result.1.now
    c.index-later-0.result c.start.new.self c.args.row.now.entries c.requires.prime c.requires.row c.requires.rank c.requires.slots
    c.split_at_mut-older.ensures.back c.start.ensures in
    AreSlots-own _ _ _ _ (suc c.args.rank) (c.args.rank + 1) c.clear_places.new.entries (sym new.prime) (sym new.row.count)
    (sym (add-one c.args.rank))
    (placed_are c.args.row.now.prime (length c.args.row.now.entries) c.args.rank c.args.entries.now c.split_at_mut-older.result.0.now
    c.clear_places.new.entries c.requires.prime c.requires.slots c.split_at_mut-older.ensures.front c.clear_places.ensures)

pub clear_by_all-requires-clause-pivots : goal.clear_by_all-requires-clause-pivots
clear_by_all-requires-clause-pivots c =
    let new =
    started_is c.args.row.now.prime (length c.args.row.now.entries) c.args.rank c.args.entries.now c.split_at_mut-older.result.1.now
    c.index-later-0.result c.start.new.self c.args.row.now.entries c.requires.prime c.requires.row c.requires.rank c.requires.slots
    c.split_at_mut-older.ensures.back c.start.ensures in
    subst (λ (w : ℕ). HavePivots w c.clear_places.new.entries) (sym new.row.count)
    (subst (λ (l : List Slot). HavePivots (length c.args.row.now.entries) l)
    (sym (c.clear_places.ensures ∙ ap (map (placed_slot c.args.rank)) c.split_at_mut-older.ensures.front))
    (HavePivots-placed (length c.args.row.now.entries) c.args.rank (take c.args.rank c.args.entries.now) c.requires.pivots))
