-- A valid certificate's answer is the canonical largest quotient.
use Rattle.pq_run.proofs.CheckEnds.{written_of_certificate}
use Rattle.pq_run.proofs.check_output.output_of.Goals as goal

pub returns-clause-output : goal.returns-clause-output
returns-clause-output c =
    written_of_certificate c.args.cert.now c.in_ok-answer.answer c.in_ok-text.field-0.items c.requires c.in_ok-answer.ensures.valid
    c.in_ok-answer.ensures.answer c.in_ok-text.ensures
