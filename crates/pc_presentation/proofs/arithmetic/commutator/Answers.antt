use Rattle.std.proofs.Common.{ap, sym, ◌∙◌}
use Rattle.pc_presentation.specs.Collection.{State}
use Rattle.pc_presentation.specs.Arithmetic.{product_by}
use Rattle.pc_presentation.specs.Tailed.{rowed_presentation}
use Rattle.pc_presentation.proofs.quotients.TailedArithmetic.{arithmetic_at}
use Rattle.pc_presentation.proofs.arithmetic.commutator.Goals as goal

pub returns-clause-commutator : goal.returns-clause-commutator
returns-clause-commutator g c =
    ap (λ (s : State). product_by (rowed_presentation c.args.pcp.now)
    (g.C.Collect.meaning (rowed_presentation c.args.pcp.now)) s c.divide.new.out.state)
    (sym c.multiply_into.ensures.product)
    ∙ c.divide.ensures.quotient ∙ c.multiply_into-2.ensures.product

pub returns-clause-joined : goal.returns-clause-joined
returns-clause-joined g c =
    (arithmetic_at c.args.pcp.now c.requires.out.presentation (g.C.Collect.meaning (rowed_presentation c.args.pcp.now))
    (g.met.C.Collect.reaches (rowed_presentation c.args.pcp.now))).commutators c.args.u.now.state c.args.v.now.state c.divide.new.out.state
    c.requires.left.state c.requires.right.state c.divide.ensures.out.state (returns-clause-commutator g c)
