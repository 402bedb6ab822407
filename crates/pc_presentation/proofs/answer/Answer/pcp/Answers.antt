use Rattle.pq_base.proofs.Generated.{generated}
use Rattle.pc_presentation.specs.Parts.{words_of, answer_of}
use Rattle.pc_presentation.proofs.answer.Answer.pcp.Goals as goal

pub returns-clause-generated : goal.returns-clause-generated
returns-clause-generated c = rw (← c.self.view_is)
    (generated (answer_of c.self.inside.pcp c.self.inside.names.items c.self.inside.definitions.items (words_of c.self.inside.images.items))
    c.self.invariant.answer)
