-- The law is the lemma of the same name.
use Rattle.pc_presentation.proofs.quotients.CollectorArithmetic.{collectors_have_arithmetic}
use Rattle.pc_presentation.proofs.laws.collectors_have_arithmetic.Goals as goal

pub returns : goal.returns
returns c = collectors_have_arithmetic
