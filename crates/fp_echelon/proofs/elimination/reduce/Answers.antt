use Rattle.std.proofs.Common.{◌≡◌, ◌<◌, ◌+◌, ℕ, List, get_or, drop, length, ap, sym, ◌∙◌, subst, arith}
use Rattle.std.proofs.lemmas.List.{at_drop_more}
use Rattle.fp_rows.specs.Row.{PrimeRow, at_column}
use Rattle.fp_rows.proofs.RowLaws.{length-add_scaled}
use Rattle.fp_echelon.specs.Reduction.{negative, cleared, reduce_by}
use Rattle.fp_echelon.specs.Slots.{Slot, IsSlot, HasPivot, all_seen}
use Rattle.fp_echelon.proofs.SlotLaws.{AreSlots-at, IsSlot-own, HavePivots-at}
use Rattle.fp_echelon.proofs.elimination.reduce.Goals as goal

pub clear_row-requires-clause-slot : goal.clear_row-requires-clause-slot
clear_row-requires-clause-slot c =
    let here = AreSlots-at c.args.row.now.prime (length c.args.row.now.entries) 0 c.args.entries.now c.loop-entry.entry-index
    c.entry-item.result c.loop-entry-test.true c.requires.slots in
    IsSlot-own _ _ _ _ 0 c.entry-item.result (sym c.loop-entry.invariant.prime) (sym c.loop-entry.invariant.width)
    (subst (λ (s : Slot). IsSlot c.args.row.now.prime (length c.args.row.now.entries) 0 s) (sym c.entry-item.is) here)

pub clear_row-requires-clause-pivot : goal.clear_row-requires-clause-pivot
clear_row-requires-clause-pivot c =
    let here = HavePivots-at (length c.args.row.now.entries) c.args.entries.now c.loop-entry.entry-index c.entry-item.result
    c.loop-entry-test.true c.requires.pivots in
    subst (λ (w : ℕ). HasPivot w c.entry-item.result) (sym c.loop-entry.invariant.width)
    (subst (λ (s : Slot). HasPivot (length c.args.row.now.entries) s) (sym c.entry-item.is) here)

pub loop-entry-preserved : goal.loop-entry-preserved
loop-entry-preserved c =
    let p : ℕ = c.args.row.now.prime in
    let i : ℕ = c.loop-entry.entry-index in
    let item : Slot = c.entry-item.result in
    let here = AreSlots-at p (length c.args.row.now.entries) 0 c.args.entries.now i item c.loop-entry-test.true c.requires.slots in
    let wide : length c.loop-entry.row.entries ≡ length item.row =
    c.loop-entry.invariant.width ∙ sym here.row.count ∙ ap (λ (s : Slot). length s.row) (sym c.entry-item.is) in
    let new : c.clear_row.new.row.entries
    ≡ cleared p (get_or c.args.entries.now i item).pivot (get_or c.args.entries.now i item).row c.loop-entry.row.entries =
    ap (λ (r : PrimeRow). r.entries) c.clear_row.ensures
    ∙ ap (λ (q : ℕ). cleared q item.pivot item.row c.loop-entry.row.entries) c.loop-entry.invariant.prime
    ∙ ap (λ (s : Slot). cleared p s.pivot s.row c.loop-entry.row.entries) c.entry-item.is in
    record {
      prime = ap (λ (r : PrimeRow). r.prime) c.clear_row.ensures ∙ c.loop-entry.invariant.prime;
      width =
          ap (λ (r : PrimeRow). length r.entries) c.clear_row.ensures
          ∙ length-add_scaled c.loop-entry.row.prime (negative c.loop-entry.row.prime (at_column c.loop-entry.row.entries item.pivot))
          c.loop-entry.row.entries item.row wide
          ∙ c.loop-entry.invariant.width;
      rest = λ n.
          ap (λ (l : List ℕ). reduce_by p (all_seen n (drop (i + 1) c.args.entries.now)) l) new
          ∙ sym (at_drop_more (λ (l : List Slot). reduce_by p (all_seen n l) c.loop-entry.row.entries) c.args.entries.now i item
          c.loop-entry-test.true)
          ∙ c.loop-entry.invariant.rest n;
    }
