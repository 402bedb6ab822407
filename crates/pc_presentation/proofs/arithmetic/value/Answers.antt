use Rattle.std.proofs.Common.{sym, subst}
use Rattle.pc_presentation.specs.Scratch.{Workspace}
use Rattle.pc_presentation.specs.Tailed.{rowed_presentation, IsElement}
use Rattle.pc_presentation.proofs.quotients.TailedArithmetic.{cleared-is_element, value_at-joined}
use Rattle.pc_presentation.proofs.arithmetic.value.Goals as goal

pub multiply_along-requires-clause-element : goal.multiply_along-requires-clause-element
multiply_along-requires-clause-element g c =
    let left : IsElement c.args.pcp.now c.s.inside.left =
    subst (λ (w : Workspace). IsElement c.args.pcp.now w.left) (sym c.s.view_is) c.requires.scratch.left in
    cleared-is_element c.args.pcp.now left.presentation c.s.inside.left c.clear.new.self left c.clear.ensures

pub returns-clause-joined : goal.returns-clause-joined
returns-clause-joined g c =
    let left : IsElement c.args.pcp.now c.s.inside.left =
    subst (λ (w : Workspace). IsElement c.args.pcp.now w.left) (sym c.s.view_is) c.requires.scratch.left in
    value_at-joined c.args.pcp.now left.presentation (g.C.Collect.meaning (rowed_presentation c.args.pcp.now))
    (g.met.C.Collect.reaches (rowed_presentation c.args.pcp.now)) c.args.images.now c.args.inverses.now c.args.word.now c.s.inside.left
    c.clear.new.self
    c.multiply_along.new.at left c.clear.ensures c.multiply_along.ensures.value c.requires.images c.requires.letters
