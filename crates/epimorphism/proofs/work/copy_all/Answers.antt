use Rattle.std.proofs.Common.{◌≡◌, ◌<◌, get_or, length, ◌∙◌, arith}
use Rattle.epimorphism.proofs.WrittenElements.{alike-set, taken-more}
use Rattle.epimorphism.proofs.work.copy_all.Goals as goal

pub loop-i-preserved : goal.loop-i-preserved
loop-i-preserved c =
    let alike = c.loop-i.invariant.0 in
    let l : c.loop-i.i < length c.args.from.now = omega (arith, c.loop-i-test.true, c.loop-i.auto.i-end) in
    let d = c.index-from-i.result in
    let same : c.copy_from.new.self ≡ get_or c.args.from.now c.loop-i.i c.index-from-i.result = c.copy_from.ensures ∙ c.index-from-i.is in (
      alike-set c.args.from.now c.loop-i.to alike c.loop-i.i l d d c.copy_from.new.self same,
      taken-more c.args.from.now c.loop-i.to c.loop-i.i d c.copy_from.new.self l alike.count c.loop-i.invariant.1 same,
    )
