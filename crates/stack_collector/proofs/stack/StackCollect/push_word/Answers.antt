use Rattle.std.proofs.Common.{◌<◌, length, ◌∙◌, arith}
use Rattle.pc_presentation.specs.Collection.{plain_push}
use Rattle.pc_presentation.specs.Tailed.{rowed_presentation}
use Rattle.pc_presentation.proofs.quotients.PushesLeft.{syllables-left}
use Rattle.stack_collector.proofs.stack.StackCollect.push_word.Goals as goal

pub loop-s-preserved : goal.loop-s-preserved
loop-s-preserved c =
    let T = c.args.pcp.now in
    let test = c.loop-s-test.true in
    let inside : c.loop-s.s-index < length c.args.word.now = omega arith in (
      c.push_copies.ensures.ready,
      c.push_copies.ensures.element,
      syllables-left (plain_push (rowed_presentation T)) c.loop-s.at c.push_copies.new.at c.loop-s.s-index c.args.word.now
          (record { generator = 0; exponent = 0 }) inside c.push_copies.ensures.pushed
          ∙ c.loop-s.invariant.2,
    )
