use Rattle.pc_presentation.specs.Tailed.{rowed_presentation}
use Rattle.pc_presentation.proofs.quotients.TailedArithmetic.{product_at-joined}
use Rattle.pc_presentation.proofs.arithmetic.product.Goals as goal

pub returns-clause-joined : goal.returns-clause-joined
returns-clause-joined g c =
    product_at-joined c.args.pcp.now c.requires.left.presentation (g.C.Collect.meaning (rowed_presentation c.args.pcp.now))
    (g.met.C.Collect.reaches (rowed_presentation c.args.pcp.now)) c.args.u.now.state c.args.v.now.state c.multiply_into.new.out.state
    c.requires.left.state
    c.requires.right.state c.multiply_into.ensures.product
