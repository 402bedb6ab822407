-- The law is the lemma of the same name.
use Rattle.tower.proofs.ObeyedAlike.{presentations_obeyed_alike_have_same_answers}
use Rattle.tower.proofs.laws.presentations_obeyed_alike_have_same_answers.Goals as goal

pub returns : goal.returns
returns c = presentations_obeyed_alike_have_same_answers
