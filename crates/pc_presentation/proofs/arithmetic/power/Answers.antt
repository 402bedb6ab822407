use Rattle.pc_presentation.specs.Arithmetic.{word_of}
use Rattle.pc_presentation.specs.Tailed.{rowed_presentation}
use Rattle.pc_presentation.proofs.quotients.TailedArithmetic.{cleared-is_element, power_at-joined}
use Rattle.pc_presentation.proofs.arithmetic.power.Goals as goal

pub multiply_by_power-requires-clause-element : goal.multiply_by_power-requires-clause-element
multiply_by_power-requires-clause-element g c =
    cleared-is_element c.args.pcp.now c.requires.out.presentation c.args.out.now c.clear.new.self c.requires.out c.clear.ensures

pub returns-clause-joined : goal.returns-clause-joined
returns-clause-joined g c =
    power_at-joined c.args.pcp.now c.requires.out.presentation (g.C.Collect.meaning (rowed_presentation c.args.pcp.now))
    (g.met.C.Collect.reaches (rowed_presentation c.args.pcp.now))
    (word_of (rowed_presentation c.args.pcp.now) c.multiply_by_power.new.at.state) c.args.n c.args.out.now c.clear.new.self
    c.copy_from.new.self c.args.u.now
    c.requires.out c.clear.ensures c.copy_from.ensures c.multiply_by_power.ensures.joined
