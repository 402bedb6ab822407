-- The law is the lemma of the same name.
use Rattle.unique_answers.proofs.SameDeaths.{largest_quotients_kill_the_same}
use Rattle.unique_answers.proofs.laws.largest_quotients_kill_the_same.Goals as goal

pub returns : goal.returns
returns c = largest_quotients_kill_the_same
