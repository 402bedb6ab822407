-- The law is the lemma of the same name.
use Rattle.pc_presentation.proofs.quotients.CollectorArithmetic.{plain_rule_is_a_meaning}
use Rattle.pc_presentation.proofs.laws.plain_rule_is_a_meaning.Goals as goal

pub returns : goal.returns
returns c = plain_rule_is_a_meaning
