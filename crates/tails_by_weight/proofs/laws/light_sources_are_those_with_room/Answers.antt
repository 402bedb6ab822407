use Rattle.tails_by_weight.proofs.LightSources as Lemmas
use Rattle.tails_by_weight.proofs.laws.light_sources_are_those_with_room.Goals as goal

pub returns : goal.returns
returns c = Lemmas.light_sources_are_those_with_room
