use Rattle.std.proofs.Common.{◌<◌, length, ◌∙◌, arith}
use Rattle.std.proofs.lemmas.List.{length-set}
use Rattle.std.proofs.lemmas.List.Elements.{All-set}
use Rattle.pc_presentation.specs.Tailed.{rowed_presentation, IsElement}
use Rattle.epimorphism.proofs.WrittenElements.{written_inverses-more, written_inverses-all}
use Rattle.epimorphism.proofs.along.invert_all.Goals as goal

pub loop-i-preserved : goal.loop-i-preserved
loop-i-preserved g c =
    let T = c.args.pcp.now in
    let inv = c.loop-i.invariant in
    let l : c.loop-i.i < length c.args.elements.now = omega (arith, c.loop-i-test.true, c.loop-i.auto.i-end) in (
      c.inverse.ensures.scratch,
      All-set (IsElement T) c.loop-i.out c.loop-i.i c.inverse.new.out c.inverse.ensures.element inv.1,
      length-set c.loop-i.out c.loop-i.i c.inverse.new.out ∙ inv.2,
      written_inverses-more T (g.C.Collect.meaning (rowed_presentation T)) c.args.elements.now c.loop-i.out c.loop-i.i
          c.index-elements-i.result
          c.inverse.new.out l inv.2 c.index-elements-i.is inv.3
          (record { element = c.inverse.ensures.element; product = c.inverse.ensures.inverse }),
    )

pub returns-clause-inverses : goal.returns-clause-inverses
returns-clause-inverses g c =
    let T = c.args.pcp.now in
    let inv = c.loop-i.invariant in
    written_inverses-all T (g.C.Collect.meaning (rowed_presentation T)) c.args.elements.now c.loop-i.out c.loop-i.i
    (omega (arith, c.loop-i-test.false, c.loop-i.auto.i-end)) inv.2 c.requires.elements inv.3
