-- Words that are no command are refused; and only where a command reads an input the source is read.
use Rattle.std.proofs.Common.{refl}
use Rattle.pq_run.specs.declared.refusal.Refusal.TheVariants.{Words}
use Rattle.pq_run.specs.Streams.{reading_of}
use Rattle.pq_run.proofs.Commands.{spelled-same}
use Rattle.pq_run.proofs.RefusalEnds.{refuses}
use Rattle.pq_run.proofs.top.carry_out.Goals as goal

pub returns-in-None-clause-ends : goal.returns-in-None-clause-ends
returns-in-None-clause-ends g c = refuses _ _ _ _ Words c.in-None.ensures.none c.refuse.ensures.ends

pub returns-in-Some-Quotient-clause-ends : goal.returns-in-Some-Quotient-clause-ends
returns-in-Some-Quotient-clause-ends g c =
    c.quotient.ensures.ends _ (spelled-same _ _ _ c.in-Some-Quotient.ensures.some c.in-Some-Quotient.field-0-is)

pub returns-in-Some-Check-clause-ends : goal.returns-in-Some-Check-clause-ends
returns-in-Some-Check-clause-ends g c = c.check.ensures.ends _ (spelled-same _ _ _ c.in-Some-Check.ensures.some c.in-Some-Check.field-0-is)

pub returns-in-Some-Sample-clause-ends : goal.returns-in-Some-Sample-clause-ends
returns-in-Some-Sample-clause-ends g c =
    c.summarize.ensures.ends _ (reading_of g.S.Source.left g.S.Source.faults c.args.source.now c.args.source.now)
    (spelled-same _ _ _ c.in-Some-Sample.ensures.some c.in-Some-Sample.field-0-is) refl

pub quotient-requires : goal.quotient-requires
quotient-requires g c = let spelled = spelled-same _ _ _ c.in-Some-Quotient.ensures.some c.in-Some-Quotient.field-0-is in spelled.range

pub summarize-requires : goal.summarize-requires
summarize-requires g c = let spelled = spelled-same _ _ _ c.in-Some-Sample.ensures.some c.in-Some-Sample.field-0-is in spelled.range
