use Rattle.stack_collector.proofs.FrameLaws.{within-alone}
use Rattle.stack_collector.proofs.StepsInTurn.{going-step}
use Rattle.stack_collector.proofs.steps.step.Goals as goal

pub returns-then-frame-gt0-3 : goal.returns-then-frame-gt0-3
returns-then-frame-gt0-3 c =
    going-step c.args.pcp.now c.args.frame.now c.take_exponent.new.self c.pass_letter-then-frame-gt0-3.new.frame c.args.at.now
    c.pass_letter-then-frame-gt0-3.new.at c.pass_letter-then-frame-gt0-3.result c.requires.element c.take_exponent.ensures.on
    c.pass_letter-then-frame-gt0-3.ensures

pub returns-else-frame-gt0-3 : goal.returns-else-frame-gt0-3
returns-else-frame-gt0-3 c =
    within-alone c.args.pcp.now c.args.frame.now c.take_exponent.new.self c.args.at.now c.requires.element c.take_exponent.ensures.on
