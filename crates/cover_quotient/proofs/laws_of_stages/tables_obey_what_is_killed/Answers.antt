-- The law is the lemma of the same name.
use Rattle.cover_quotient.proofs.stages.ImageNumbers.{tables_obey_what_is_killed}
use Rattle.cover_quotient.proofs.laws_of_stages.tables_obey_what_is_killed.Goals as goal

pub returns : goal.returns
returns c = tables_obey_what_is_killed
