use Rattle.std.proofs.Common.{◌≡◌, ◌<◌, ℕ, ap, sym, ◌∙◌, subst, arith, length}
use Rattle.fp_rows.specs.Row.{at_column}
use Rattle.fp_echelon.specs.Slots.{Slot}
use Rattle.fp_echelon.proofs.EntryStorage.{cleared_slot-none}
use Rattle.fp_echelon.proofs.entry.Entry.clear_by.Goals as goal

pub returns-else-k-ne0 : goal.returns-else-k-ne0
returns-else-k-ne0 c =
    let prime : c.self.inside.row.prime ≡ c.args.self.now.prime = ap (λ (s : Slot). s.prime) c.self.view_is in
    let residue = c.get-k.ensures.residue in
    let none : at_column c.args.self.now.row c.args.other.now.pivot ≡ 0 =
    sym (ap (λ (s : Slot). at_column s.row c.other.inside.pivot) c.self.view_is
    ∙ ap (λ (s : Slot). at_column c.args.self.now.row s.pivot) c.other.view_is) ∙ sym c.get-k.ensures.entry ∙ c.if-k-ne0.false in
    cleared_slot-none c.args.self.now.prime (length c.args.self.now.row) c.args.count c.args.other.now c.args.self.now (omega arith)
    c.requires.other c.requires.slot none
