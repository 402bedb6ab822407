-- The law is the lemma of the same name.
use Rattle.pq_base.proofs.tables.UniqueOrders.{orders_are_unique}
use Rattle.pq_base.proofs.laws.orders_are_unique.Goals as goal

pub returns : goal.returns
returns c = orders_are_unique
