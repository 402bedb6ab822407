use Rattle.std.proofs.Common.{◌≡◌, ◌<◌, ◌≤◌, ◌+◌, suc, ℕ, List, get_or, length, ap, sym, ◌∙◌, subst, arith}
use Rattle.fp_echelon.specs.Slots.{Slot, placed_slot}
use Rattle.fp_echelon.proofs.SlotLaws.{HaveRoom-at, get_or-mapped, mapped_more}
use Rattle.fp_echelon.proofs.elimination.clear_places.Goals as goal

pub clear_place-requires : goal.clear_place-requires
clear_place-requires c =
    let d : Slot = c.entry-item.result in
    let i : ℕ = c.loop-entry.entry-index in
    let same : get_or c.loop-entry.entries i d ≡ get_or c.args.entries.now i d =
    ap (λ (l : List Slot). get_or l i d) c.loop-entry.invariant
    ∙ get_or-mapped (placed_slot c.args.place) c.args.entries.now i d c.loop-entry-test.true in
    subst (λ (s : Slot). c.args.place < length s.coefficients) (sym same)
    (HaveRoom-at (suc c.args.place) c.args.entries.now i d c.loop-entry-test.true c.requires)

pub loop-entry-preserved : goal.loop-entry-preserved
loop-entry-preserved c =
    mapped_more (placed_slot c.args.place) c.args.entries.now c.loop-entry.entries c.loop-entry.entry-index c.entry-item.result
    c.clear_place.new.self (omega arith) (omega arith) c.loop-entry.invariant c.clear_place.ensures
