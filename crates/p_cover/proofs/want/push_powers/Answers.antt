use Rattle.std.proofs.Common.{map}
use Rattle.pq_base.specs.Answer.{class_of}
use Rattle.pq_base.specs.Answer.Definition.{power}
use Rattle.pc_presentation.specs.Definition.{definition_of}
use Rattle.p_cover.proofs.WantSteps.{wanted-more}
use Rattle.p_cover.proofs.want.push_powers.Goals as goal

pub loop-k-preserved : goal.loop-k-preserved
loop-k-preserved c =
    wanted-more c.args.answer.now (class_of c.args.answer.now) c.args.qualifying power c.loop-k.k
    (map definition_of c.args.sources.now.items) (map definition_of c.loop-k.sources.items)
    (map definition_of c.push_wanted.new.sources.items)
    c.loop-k.invariant c.in_ok-push_wanted.ensures
