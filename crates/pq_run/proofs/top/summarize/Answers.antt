-- The summary is written, or what the sample is refused for, the command is refused for.
use Rattle.std.proofs.Common.{subst}
use Rattle.pq_run.specs.Streams.{writing_of}
use Rattle.pq_run.proofs.OutputEnds.{Took}
use Rattle.pq_run.proofs.SampleOutputs.{sample_cause, summary_ends}
use Rattle.pq_run.proofs.RefusalEnds.{refuses}
use Rattle.pq_run.proofs.top.summarize.Goals as goal

pub returns-in-Ok-clause-ends : goal.returns-in-Ok-clause-ends
returns-in-Ok-clause-ends g c words r spelled untouched =
    let wrote = writing_of g.K.Sink.taken g.K.Sink.faults c.args.sink.now c.finish.new.sink in
    let took = subst (Took wrote c.finish.result) c.deref.ensures.value c.finish.ensures.ends in
    summary_ends words c.args.n spelled r c.in-Ok.bytes.items wrote c.finish.result untouched c.in-Ok.ensures.small
    c.in-Ok.ensures.output took

pub returns-in-Err-clause-ends : goal.returns-in-Err-clause-ends
returns-in-Err-clause-ends g c words r spelled untouched =
    refuses words r _ _ c.in-Err.refusal (sample_cause words c.args.n spelled r c.in-Err.refusal c.in-Err.ensures.err) c.refuse.ensures.ends
