use Rattle.std.proofs.Common.{ap, ◌∙◌}
use Rattle.pc_presentation.specs.Tailed.{rowed_presentation, with_state}
use Rattle.pc_presentation.proofs.quotients.TailedLaws.{rowed_presentation-is}
use Rattle.pc_presentation.proofs.consistent.OverlapWays.{push_configuration-power}
use Rattle.pc_presentation.proofs.pushing.push_times.Goals as goal

pub returns-then-times-gt0-clause-pushed : goal.returns-then-times-gt0-clause-pushed
returns-then-times-gt0-clause-pushed g c =
    let T = c.args.pcp.now in
    let is = c.requires.element.presentation in
    c.push_word.ensures.pushed
    ∙ ap (with_state c.args.at.now)
    (push_configuration-power T (g.C.Collect.meaning (rowed_presentation T)) is
    (g.met.C.Collect.reaches (rowed_presentation T) (rowed_presentation-is T is))
    c.args.at.now.state c.requires.element.state c.args.generator c.args.times c.requires.from_one c.requires.in_range)
