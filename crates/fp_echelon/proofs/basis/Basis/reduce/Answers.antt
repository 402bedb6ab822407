use Rattle.std.proofs.Common.{ℕ, subst}
use Rattle.pq_base.specs.Prime.{prime_value}
use Rattle.fp_rows.specs.Rows.{IsRow}
use Rattle.fp_echelon.proofs.BasisReading.{given_to_reduce, pivots_to_reduce, representative_left}
use Rattle.fp_echelon.proofs.basis.Basis.reduce.Goals as goal

pub reduce-requires-clause-slots : goal.reduce-requires-clause-slots
reduce-requires-clause-slots c =
    given_to_reduce (prime_value c.self.inside.prime) c.self.inside.width c.self.inside.rank c.self.inside.spare c.self.inside.entries.items
    c.args.self.now c.self.view_is c.self.invariant.0 c.deref.result.now c.deref.ensures.value c.args.row.now c.requires.prime
    c.requires.width

pub reduce-requires-clause-pivots : goal.reduce-requires-clause-pivots
reduce-requires-clause-pivots c =
    pivots_to_reduce (prime_value c.self.inside.prime) c.self.inside.width c.self.inside.rank c.self.inside.spare
    c.self.inside.entries.items
    c.args.self.now c.self.view_is c.self.invariant.0 c.deref.result.now c.deref.ensures.value c.args.row.now c.requires.prime
    c.requires.width

pub returns-clause-representative : goal.returns-clause-representative
returns-clause-representative c =
    representative_left (prime_value c.self.inside.prime) c.self.inside.width c.self.inside.rank c.self.inside.spare
    c.self.inside.entries.items
    c.args.self.now c.self.view_is c.self.invariant.0 c.deref.result.now c.deref.ensures.value c.args.row.now c.requires.prime
    c.requires.width
    c.reduce.new.row (subst (λ (w : ℕ). IsRow c.args.row.now.prime w c.args.row.now.entries) c.width-width.ensures.width
    c.width-width.ensures.row)
    (c.reduce.ensures c.self.inside.rank)
