use Rattle.std.proofs.Common.{◌≡◌, ◌<◌, ◌≤◌, length, drop, ℕ, suc, List, ap, sym, ◌∙◌, subst, arith}
use Rattle.pq_base.specs.Table.{AllBelow}
use Rattle.fp_rows.specs.Row.{PrimeRow}
use Rattle.fp_echelon.specs.Slots.{Slot}
use Rattle.fp_echelon.proofs.EntryStorage.{AllBelow-stored, AllBelow-unit}
use Rattle.fp_echelon.proofs.entry.Entry.start.Goals as goal

pub invariant_of-self : goal.invariant_of-self
invariant_of-self c =
    let first : c.copy_from.new.self.prime ≡ c.args.row.now.prime = ap (λ (r : PrimeRow). r.prime) c.copy_from.ensures in
    let second : c.copy_from-2.new.self.prime ≡ c.args.row.now.prime = ap (λ (r : PrimeRow). r.prime) c.copy_from-2.ensures in
    let some : 1 < c.copy_from-2.new.self.prime = omega (arith, c.requires.prime) in
    let before : AllBelow c.copy_from-2.new.self.prime c.deref_mut.result.now =
    subst (λ (l : List ℕ). AllBelow c.copy_from-2.new.self.prime l)
    (sym (c.deref_mut.ensures.value ∙ ap (λ (s : Slot). s.coefficients) c.self.view_is))
    (subst (λ (n : ℕ). AllBelow n c.args.self.now.coefficients) (sym second) c.requires.slot.below) in
    let unit = AllBelow-unit c.copy_from-2.new.self.prime c.args.place c.deref_mut.result.now some before in (
      first ∙ sym second,
      AllBelow-stored c.copy_from-2.new.self.prime c.self.inside.coefficients.len c.make_unit.new.coefficients
          (drop (length c.make_unit.new.coefficients) c.self.inside.coefficients.items) (omega arith)
          (subst (λ (l : List ℕ). AllBelow c.copy_from-2.new.self.prime l) (sym c.make_unit.ensures) unit),
    )
