-- The law is the lemma of the same name.
use Rattle.cover_quotient.proofs.stages.OwedTails.{full_covers_owe}
use Rattle.cover_quotient.proofs.laws_of_stages.full_covers_owe.Goals as goal

pub returns : goal.returns
returns c = full_covers_owe
