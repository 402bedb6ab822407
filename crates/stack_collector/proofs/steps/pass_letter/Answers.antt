use Rattle.stack_collector.proofs.StepsInTurn.{within-step}
use Rattle.stack_collector.proofs.steps.pass_letter.Goals as goal

pub returns : goal.returns
returns c =
    within-step c.args.pcp.now c.args.frame.now c.pass.new.frame c.args.at.now c.pass.new.at c.push_letter.result c.push_letter.new.frame
    c.push_letter.new.at c.pass.ensures.within c.push_letter.ensures
