-- What is written of the certificate is written of its text, and what the certificate is refused for, the input is refused for.
use Rattle.pq_run.specs.Streams.{reading_of}
use Rattle.pq_run.proofs.CheckEnds.{written_result, refused_result}
use Rattle.pq_run.proofs.check_output.output_of_check.Goals as goal

pub returns-clause-output : goal.returns-clause-output
returns-clause-output g c =
    let e = c.in_ok-cert.ensures in
    written_result c.in_ok-cert.cert (g.S.Source.left c.args.source.now) c.output_of.result e.reads c.output_of.ensures.output

pub returns-clause-err : goal.returns-clause-err
returns-clause-err g c =
    let e = c.in_ok-cert.ensures in
    let read = reading_of g.S.Source.left g.S.Source.faults c.args.source.now c.read_certificate.new.source in
    refused_result c.in_ok-cert.cert read c.output_of.result e.writable e.within e.reads c.output_of.ensures.err
