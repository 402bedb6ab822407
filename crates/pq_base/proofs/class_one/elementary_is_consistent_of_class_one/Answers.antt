use Rattle.pq_base.proofs.ElementaryLaws.{elementary_laws}
use Rattle.pq_base.proofs.class_one.elementary_is_consistent_of_class_one.Goals as goal

pub returns : goal.returns
returns c = elementary_laws
