-- The law is the lemma of the same name.
use Rattle.cover_quotient.proofs.stages.OwedTails.{light_covers_owe}
use Rattle.cover_quotient.proofs.laws_of_stages.light_covers_owe.Goals as goal

pub returns : goal.returns
returns c = light_covers_owe
