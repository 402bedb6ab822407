-- The law is the lemma of the same name.
use Rattle.pq_base.proofs.SameRelators.{same_relators_give_same_quotients}
use Rattle.pq_base.proofs.laws.same_relators_give_same_quotients.Goals as goal

pub returns : goal.returns
returns c = same_relators_give_same_quotients
