-- The law is the lemma of the same name.
use Rattle.cover_quotient.proofs.stages.Towers.{towers_grow}
use Rattle.cover_quotient.proofs.laws_of_stages.towers_grow.Goals as goal

pub returns : goal.returns
returns c = towers_grow
