use Rattle.std.proofs.Common.{ℕ, List, ap, ap₂, sym, subst, ◌∙◌, arith}
use Rattle.pq_base.specs.Prime.{prime_value}
use Rattle.fp_echelon.specs.Reduced.{BasisRow}
use Rattle.fp_echelon.specs.Basis.{Echelon, IsBasis}
use Rattle.fp_echelon.proofs.BasisReading.{pivot_given, row_read, are_given}
use Rattle.fp_echelon.proofs.FoundRows.{row_found}
use Rattle.fp_echelon.proofs.basis.Basis.row.Goals as goal

pub entry_of-requires : goal.entry_of-requires
entry_of-requires c =
    pivot_given (prime_value c.self.inside.prime) c.self.inside.width c.self.inside.rank c.self.inside.spare c.self.inside.entries.items
    c.args.self.now c.self.view_is c.self.invariant.0 c.deref.result.now c.deref.ensures.value c.args.column 0 c.requires

pub returns-clause-row : goal.returns-clause-row
returns-clause-row c =
    let slot = c.entry_of.ensures.slot (prime_value c.self.inside.prime) c.self.inside.width 0
    (are_given (prime_value c.self.inside.prime) c.self.inside.width c.self.inside.rank c.self.inside.spare c.self.inside.entries.items
    c.args.self.now c.self.view_is c.self.invariant.0 c.deref.result.now c.deref.ensures.value 0 (omega arith)) in
    c.row.ensures
    ∙ ap₂ (λ (p : ℕ) (l : List ℕ). record { prime = p; entries = l })
    (slot.prime ∙ ap (λ (B : Echelon). B.prime) c.self.view_is)
    (ap (λ (b : BasisRow). b.row) (sym (c.entry_of.ensures.pivot c.self.inside.rank)
    ∙ row_read (prime_value c.self.inside.prime) c.self.inside.width c.self.inside.rank c.self.inside.spare c.self.inside.entries.items
    c.args.self.now c.self.view_is c.self.invariant.0 c.deref.result.now c.deref.ensures.value c.args.column))

pub returns-clause-pivot : goal.returns-clause-pivot
returns-clause-pivot c =
    (row_found c.args.self.now (subst (λ (B : Echelon). IsBasis B) c.self.view_is c.self.invariant.0.basis) c.args.column
    c.requires).pivot_row
