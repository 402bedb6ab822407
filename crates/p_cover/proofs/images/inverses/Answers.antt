use Rattle.pc_presentation.specs.Tailed.{rowed_presentation}
use Rattle.p_cover.proofs.ImageInverses.{inverses-more, inverses-all}
use Rattle.p_cover.proofs.images.inverses.Goals as goal

pub loop-element-preserved : goal.loop-element-preserved
loop-element-preserved g c = (
  c.in_ok-inverse_of.ensures.scratch,
  inverses-more c.args.pcp.now (g.C.Collect.meaning (rowed_presentation c.args.pcp.now)) c.args.elements.now c.loop-element.inverses.items
      c.push.new.self.items c.loop-element.element-index c.element-item.result c.in_ok-inverse_of.field-0 c.loop-element-test.true
      c.element-item.is c.loop-element.invariant.1 c.in_ok-inverse_of.ensures.inverse c.in_ok-push.ensures.items,
)

pub returns-clause-inverses : goal.returns-clause-inverses
returns-clause-inverses g c =
    inverses-all c.args.pcp.now (g.C.Collect.meaning (rowed_presentation c.args.pcp.now)) c.args.elements.now c.loop-element.inverses.items
    c.loop-element.element-index c.loop-element-test.false c.requires.elements c.loop-element.invariant.1
