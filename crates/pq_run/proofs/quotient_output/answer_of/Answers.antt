-- The names of the answer are those of the presentation.
use Rattle.pq_run.proofs.Outputs.{writable}
use Rattle.pq_run.proofs.quotient_output.answer_of.Goals as goal

pub returns-clause-writable : goal.returns-clause-writable
returns-clause-writable c =
    writable c.in_ok-answer.answer c.pcp.result.now c.args.pres.now c.pcp.ensures.presentation c.rank-rank.ensures.presentation
    c.pcp.ensures.answer
    c.in_ok-answer.ensures.quotient.largest.names c.names-names.ensures.each
