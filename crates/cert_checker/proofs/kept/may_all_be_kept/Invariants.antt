use Rattle.std.proofs.Common.{take}
use Rattle.std.specs.Prelude.{All}
use Rattle.pq_base.specs.Answer.{class_of}
use Rattle.cover_quotient.specs.NextAnswer.{sources_at}
use Rattle.cover_quotient.specs.Defining.{MayBeKept}
use Rattle.cert_checker.proofs.kept.may_all_be_kept.Given as goal

-- the tails so far may be kept
abbrev pub invariant-loop-tail : goal.invariant-loop-tail
invariant-loop-tail l = All (MayBeKept l.cover.answer (class_of l.cover.answer)) (sources_at (take l.tail-index l.kept) l.cover.sources)
