use Rattle.pq_base.specs.Prime.{prime_value}
use Rattle.pq_base.proofs.PrimeLaws.{prime_value-offered}
use Rattle.pc_presentation.proofs.presentations.PcpLaws.{tailed_presentation-is}
use Rattle.pc_presentation.proofs.pcp.Pcp.rank.Goals as goal

pub returns-clause-presentation : goal.returns-clause-presentation
returns-clause-presentation c = rw (← c.self.view_is)
    (tailed_presentation-is (prime_value c.self.inside.prime) c.self.inside.tails c.self.inside.weights.items c.self.inside.relations
    c.self.invariant.1 (prime_value-offered c.self.inside.prime) c.self.invariant.0)
