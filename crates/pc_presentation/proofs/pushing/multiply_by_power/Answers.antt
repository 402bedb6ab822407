use Rattle.std.proofs.Common.{◌++◌}
use Rattle.pq_base.specs.SignedWord.{copies}
use Rattle.pq_base.proofs.words.JoinedLaws.{joined-refl}
use Rattle.pc_presentation.specs.Rowed.{flat}
use Rattle.pc_presentation.specs.Arithmetic.{word_of}
use Rattle.pc_presentation.specs.Tailed.{rowed_presentation}
use Rattle.pc_presentation.proofs.quotients.TailedArithmetic.{product_at-joined}
use Rattle.pc_presentation.proofs.quotients.RepeatedSquares.{square-joined}
use Rattle.pc_presentation.proofs.pushing.multiply_by_power.Goals as goal

pub loop-rest-init : goal.loop-rest-init
loop-rest-init g c =
    let Y = rowed_presentation c.args.pcp.now in (
      c.requires.serves,
      c.requires.element,
      c.requires.base,
      c.requires.spare,
      joined-refl (flat Y) (word_of Y c.args.at.now.state ++ copies (word_of Y c.args.base.now.state) c.args.exponent),
    )

pub loop-rest-preserved : goal.loop-rest-preserved
loop-rest-preserved g c =
    let Y = rowed_presentation c.args.pcp.now in
    let base = c.loop-rest.invariant.2 in (
      c.square.ensures.serves,
      c.multiply_if_odd.ensures.element,
      c.square.ensures.base,
      c.square.ensures.spare,
      square-joined (flat Y) (word_of Y c.loop-rest.at.state) (word_of Y c.loop-rest.base.state) (word_of Y c.multiply_if_odd.new.at.state)
          (word_of Y c.square.new.base.state)
          (word_of Y c.args.at.now.state ++ copies (word_of Y c.args.base.now.state) c.args.exponent) c.loop-rest.rest
          c.multiply_if_odd.ensures.joined
          (product_at-joined c.args.pcp.now base.presentation (g.C.Collect.meaning (rowed_presentation c.args.pcp.now))
          (g.met.C.Collect.reaches (rowed_presentation c.args.pcp.now)) c.loop-rest.base.state c.loop-rest.base.state
          c.square.new.base.state base.state base.state
          c.square.ensures.square)
          c.loop-rest.invariant.4,
    )
