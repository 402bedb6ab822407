use Rattle.std.proofs.Common.{rules, ◌≤◌, get_or, refl}
use Rattle.stack_collector.proofs.FrameLaws.{exponent-taken}
use Rattle.stack_collector.proofs.frame.Frame.take_exponent.Goals as goal

pub returns-clause-on : goal.returns-clause-on
returns-clause-on c =
    let few : get_or c.args.self.now.later c.next_place-place.result 0 ≤ 255 = search rules in
    exponent-taken c.args.pcp.now c.requires.presentation c.args.self.now c.requires.frame c.next_place-place.result
    (get_or c.args.self.now.later c.next_place-place.result 0) c.requires.none_before c.next_place-place.ensures.from
    c.next_place-place.ensures.before_end
    c.next_place-place.ensures.zeros refl few
