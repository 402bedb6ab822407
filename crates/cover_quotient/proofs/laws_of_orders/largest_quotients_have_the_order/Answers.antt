-- The law is the lemma of the same name.
use Rattle.cover_quotient.proofs.stages.LargestOrders.{largest_quotients_have_the_order}
use Rattle.cover_quotient.proofs.laws_of_orders.largest_quotients_have_the_order.Goals as goal

pub returns : goal.returns
returns c = largest_quotients_have_the_order
