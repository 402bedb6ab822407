use Rattle.std.proofs.Common.{map}
use Rattle.pq_base.specs.Answer.{class_of}
use Rattle.pc_presentation.specs.Definition.{definition_of}
use Rattle.tails_by_weight.proofs.LightParts.{pushed-light}
use Rattle.tails_by_weight.proofs.sources.push_commutators.Goals as goal

pub loop-k-preserved : goal.loop-k-preserved
loop-k-preserved c =
    pushed-light c.args.answer.now (class_of c.args.answer.now) c.args.qualifying c.loop-k.k
    (map definition_of c.args.sources.now.items) (map definition_of c.loop-k.sources.items)
    (map definition_of c.push_commutators_of.new.sources.items)
    c.loop-k.invariant c.in_ok-push_commutators_of.ensures
