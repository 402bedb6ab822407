use Rattle.std.proofs.Common.{◌≡◌, ◌<◌, ℕ, List, ap, sym, ◌∙◌, subst, arith, length}
use Rattle.fp_rows.specs.Row.{PrimeRow, at_column}
use Rattle.fp_echelon.specs.Slots.{Slot}
use Rattle.fp_echelon.proofs.EntryStorage.{cleared-none}
use Rattle.fp_echelon.proofs.entry.Entry.clear_row.Goals as goal

pub returns-else-k-ne0 : goal.returns-else-k-ne0
returns-else-k-ne0 c =
    let residue = c.get-k.ensures.residue in
    let none : at_column c.args.row.now.entries c.args.self.now.pivot ≡ 0 =
    sym (ap (λ (s : Slot). at_column c.args.row.now.entries s.pivot) c.self.view_is) ∙ sym c.get-k.ensures.entry ∙ c.if-k-ne0.false in
    let same =
    cleared-none c.args.row.now.prime c.args.self.now.pivot c.args.self.now.row c.args.row.now.entries
    (omega arith) c.prime.ensures.row.below
    c.requires.slot.row.count none in
    ap (λ (l : List ℕ). record { prime = c.args.row.now.prime; entries = l }) same
