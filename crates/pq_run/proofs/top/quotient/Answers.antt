-- The output is written, or what the input is refused for, the command is refused for.
use Rattle.std.proofs.Common.{subst}
use Rattle.pq_run.specs.Streams.{reading_of, writing_of}
use Rattle.pq_run.proofs.Causes.{input_cause}
use Rattle.pq_run.proofs.OutputEnds.{Took, output_ends}
use Rattle.pq_run.proofs.RefusalEnds.{refuses}
use Rattle.pq_run.proofs.top.quotient.Goals as goal

pub returns-in-Ok-clause-ends : goal.returns-in-Ok-clause-ends
returns-in-Ok-clause-ends g c words spelled =
    let wrote = writing_of g.K.Sink.taken g.K.Sink.faults c.args.sink.now c.finish.new.sink in
    let took = subst (Took wrote c.finish.result) c.deref.ensures.value c.finish.ensures.ends in
    output_ends words c.args.prime c.args.class c.args.form spelled _ c.in-Ok.bytes.items _ _ c.in-Ok.ensures.read c.in-Ok.ensures.within
    c.in-Ok.ensures.small c.in-Ok.ensures.output took

pub returns-in-Err-clause-ends : goal.returns-in-Err-clause-ends
returns-in-Err-clause-ends g c words spelled =
    let read = reading_of g.S.Source.left g.S.Source.faults c.args.source.now c.output_of_quotient.new.source in
    let cause = input_cause words c.args.prime c.args.class c.args.form spelled read c.in-Err.refusal c.in-Err.ensures.err in
    refuses words _ _ _ c.in-Err.refusal cause c.refuse.ensures.ends
