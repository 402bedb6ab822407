use Rattle.std.proofs.Common.{◌<◌, ◌∙◌, length, refl, arith}
use Rattle.std.proofs.lemmas.List.{length-set}
use Rattle.std.proofs.lemmas.List.Elements.{All-set}
use Rattle.pc_presentation.specs.Collection.{plain_push}
use Rattle.pc_presentation.specs.Tailed.{rowed_presentation, IsElement}
use Rattle.epimorphism.proofs.WrittenElements.{AreWords-at, value_elements-more}
use Rattle.cert_checker.proofs.endos.evaluate_each.Goals as goal

pub evaluate-requires-clause-letters : goal.evaluate-requires-clause-letters
evaluate-requires-clause-letters c =
    let l : c.loop-i.i < length c.args.words.now = omega (arith, c.loop-i-test.true, c.loop-i.auto.i-end) in
    AreWords-at (length c.args.images.now) c.args.words.now c.loop-i.i c.index-words-i.result c.letters.result.now c.requires.letters l
    c.index-words-i.is c.letters.ensures.value

pub loop-i-preserved : goal.loop-i-preserved
loop-i-preserved c =
    let T = c.args.pcp.now in
    let inv = c.loop-i.invariant in
    let l : c.loop-i.i < length c.args.words.now = omega (arith, c.loop-i-test.true, c.loop-i.auto.i-end) in (
      c.evaluate.ensures.scratch,
      All-set (IsElement T) c.loop-i.values c.loop-i.i c.evaluate.new.out c.evaluate.ensures.element inv.1,
      length-set c.loop-i.values c.loop-i.i c.evaluate.new.out ∙ inv.2,
      value_elements-more T (plain_push (rowed_presentation T)) c.args.images.now c.args.inverses.now c.args.words.now c.loop-i.values
          c.args.images.now c.args.inverses.now c.loop-i.i c.index-words-i.result c.letters.result.now c.evaluate.new.out l inv.2 inv.3
          c.index-words-i.is c.letters.ensures.value refl refl c.evaluate.ensures.element c.evaluate.ensures.value,
    )
