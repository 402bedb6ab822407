use Rattle.std.proofs.Common.{◌≤◌, arith}
use Rattle.stack_collector.proofs.FrameLaws.{letters-pushed, letter-to_push}
use Rattle.stack_collector.proofs.steps.push_letter.Goals as goal

pub returns-then-left-eq0 : goal.returns-then-left-eq0
returns-then-left-eq0 c =
    letters-pushed c.args.pcp.now c.requires.element.presentation c.args.frame.now c.requires.frame c.args.at.now c.add_copies-left.new.at
    c.add_copies-left.ensures.element c.add_copies-left.result c.requires.some c.add_copies-left.ensures.fewer
    c.add_copies-left.ensures.added
    c.if-left-eq0.true

pub returns-else-left-eq0 : goal.returns-else-left-eq0
returns-else-left-eq0 c =
    let some = c.if-left-eq0.false in
    let more : 1 ≤ c.add_copies-left.result = omega arith in
    letter-to_push c.args.pcp.now c.requires.element.presentation c.args.frame.now c.requires.frame c.args.at.now c.add_copies-left.new.at
    c.add_copies-left.ensures.element c.add_copies-left.result c.requires.some c.add_copies-left.ensures.fewer
    c.add_copies-left.ensures.added more
