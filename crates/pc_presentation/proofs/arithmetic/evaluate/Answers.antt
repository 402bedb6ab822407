use Rattle.pc_presentation.specs.Tailed.{rowed_presentation}
use Rattle.pc_presentation.proofs.quotients.TailedArithmetic.{cleared-is_element, value_at-joined}
use Rattle.pc_presentation.proofs.arithmetic.evaluate.Goals as goal

pub multiply_along-requires-clause-element : goal.multiply_along-requires-clause-element
multiply_along-requires-clause-element g c =
    cleared-is_element c.args.pcp.now c.requires.out.presentation c.args.out.now c.clear.new.self c.requires.out c.clear.ensures

pub returns-clause-joined : goal.returns-clause-joined
returns-clause-joined g c =
    value_at-joined c.args.pcp.now c.requires.out.presentation (g.C.Collect.meaning (rowed_presentation c.args.pcp.now))
    (g.met.C.Collect.reaches (rowed_presentation c.args.pcp.now)) c.args.images.now c.args.inverses.now c.args.word.now c.args.out.now
    c.clear.new.self
    c.multiply_along.new.at c.requires.out c.clear.ensures c.multiply_along.ensures.value c.requires.images c.requires.letters
