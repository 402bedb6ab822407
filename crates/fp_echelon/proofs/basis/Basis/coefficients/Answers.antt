use Rattle.std.proofs.Common.{subst, arith}
use Rattle.pq_base.specs.Prime.{prime_value}
use Rattle.fp_echelon.proofs.BasisReading.{pivot_given, are_given}
use Rattle.fp_echelon.specs.Basis.{Echelon, IsBasis}
use Rattle.fp_echelon.proofs.FoundRows.{sum_found}
use Rattle.fp_echelon.proofs.basis.Basis.coefficients.Goals as goal

pub entry_of-requires : goal.entry_of-requires
entry_of-requires c =
    pivot_given (prime_value c.self.inside.prime) c.self.inside.width c.self.inside.rank c.self.inside.spare c.self.inside.entries.items
    c.args.self.now c.self.view_is c.self.invariant.0 c.deref.result.now c.deref.ensures.value c.args.column 0 c.requires

pub coefficients-requires : goal.coefficients-requires
coefficients-requires c =
    (c.entry_of.ensures.slot (prime_value c.self.inside.prime) c.self.inside.width c.self.inside.rank
    (are_given (prime_value c.self.inside.prime) c.self.inside.width c.self.inside.rank c.self.inside.spare c.self.inside.entries.items
    c.args.self.now c.self.view_is c.self.invariant.0 c.deref.result.now c.deref.ensures.value c.self.inside.rank (omega arith))).room

pub returns-clause-sum : goal.returns-clause-sum
returns-clause-sum c =
    sum_found c.args.self.now (subst (λ (B : Echelon). IsBasis B) c.self.view_is c.self.invariant.0.basis) c.args.column c.requires
