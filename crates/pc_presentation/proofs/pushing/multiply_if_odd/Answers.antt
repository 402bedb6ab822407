use Rattle.std.proofs.Common.{◌%◌, ap, arith}
use Rattle.pc_presentation.specs.Rowed.{flat}
use Rattle.pc_presentation.specs.Arithmetic.{word_of}
use Rattle.pc_presentation.specs.Tailed.{Element, rowed_presentation}
use Rattle.pc_presentation.proofs.quotients.TailedArithmetic.{product_at-joined}
use Rattle.pc_presentation.proofs.quotients.RepeatedSquares.{odd-joined, even-joined}
use Rattle.pc_presentation.proofs.pushing.multiply_if_odd.Goals as goal

pub returns-then-number-eq1-clause-joined : goal.returns-then-number-eq1-clause-joined
returns-then-number-eq1-clause-joined g c =
    let Y = rowed_presentation c.args.pcp.now in
    odd-joined (flat Y) (word_of Y c.args.at.now.state) (word_of Y c.args.factor.now.state) (word_of Y c.multiply.new.at.state)
    (c.args.number % 2)
    c.if-number-eq1.true
    (product_at-joined c.args.pcp.now c.requires.element.presentation (g.C.Collect.meaning (rowed_presentation c.args.pcp.now))
    (g.met.C.Collect.reaches (rowed_presentation c.args.pcp.now)) c.args.at.now.state c.args.factor.now.state c.multiply.new.at.state
    c.requires.element.state
    c.requires.factor.state (ap (λ (e : Element). e.state) c.multiply.ensures.product))

pub returns-else-number-eq1-clause-joined : goal.returns-else-number-eq1-clause-joined
returns-else-number-eq1-clause-joined g c =
    let Y = rowed_presentation c.args.pcp.now in
    let odd = c.if-number-eq1.false in
    even-joined (flat Y) (word_of Y c.args.at.now.state) (word_of Y c.args.factor.now.state) (c.args.number % 2) (omega arith)
