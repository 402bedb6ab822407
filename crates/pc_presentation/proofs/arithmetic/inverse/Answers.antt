use Rattle.std.proofs.Common.{ap, sym, ◌∙◌}
use Rattle.pc_presentation.specs.Arithmetic.{product_by}
use Rattle.pc_presentation.specs.Tailed.{Element, rowed_presentation}
use Rattle.pc_presentation.proofs.quotients.TailedArithmetic.{cleared-identity, cleared-is_element, arithmetic_at}
use Rattle.pc_presentation.proofs.arithmetic.inverse.Goals as goal

pub divide-requires-clause-out : goal.divide-requires-clause-out
divide-requires-clause-out g c =
    cleared-is_element c.args.pcp.now c.requires.out.presentation c.args.out.now c.clear.new.self c.requires.out c.clear.ensures

pub returns-clause-inverse : goal.returns-clause-inverse
returns-clause-inverse g c =
    sym (ap (λ (e : Element).
    product_by (rowed_presentation c.args.pcp.now) (g.C.Collect.meaning (rowed_presentation c.args.pcp.now)) e.state c.divide.new.out.state)
    c.copy_from.ensures)
    ∙ c.divide.ensures.quotient
    ∙ ap (λ (e : Element). e.state)
    (cleared-identity c.args.pcp.now c.requires.out.presentation c.args.out.now c.clear.new.self c.requires.out c.clear.ensures)

pub returns-clause-joined : goal.returns-clause-joined
returns-clause-joined g c =
    (arithmetic_at c.args.pcp.now c.requires.out.presentation (g.C.Collect.meaning (rowed_presentation c.args.pcp.now))
    (g.met.C.Collect.reaches (rowed_presentation c.args.pcp.now))).inverses c.args.u.now.state c.divide.new.out.state
    c.requires.element.state
    c.divide.ensures.out.state (returns-clause-inverse g c)
