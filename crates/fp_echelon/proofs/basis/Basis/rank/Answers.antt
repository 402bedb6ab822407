use Rattle.pq_base.specs.Prime.{prime_value}
use Rattle.fp_echelon.proofs.BasisReading.{rank_read}
use Rattle.fp_echelon.proofs.basis.Basis.rank.Goals as goal

pub returns-clause-width : goal.returns-clause-width
returns-clause-width c =
    rank_read (prime_value c.self.inside.prime) c.self.inside.width c.self.inside.rank c.self.inside.spare c.self.inside.entries.items
    c.args.self.now c.self.view_is c.self.invariant.0
