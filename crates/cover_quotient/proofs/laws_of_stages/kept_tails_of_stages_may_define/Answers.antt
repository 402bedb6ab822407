-- The law is the lemma of the same name.
use Rattle.cover_quotient.proofs.stages.NextStages.{kept_tails_of_stages_may_define}
use Rattle.cover_quotient.proofs.laws_of_stages.kept_tails_of_stages_may_define.Goals as goal

pub returns : goal.returns
returns c = kept_tails_of_stages_may_define
