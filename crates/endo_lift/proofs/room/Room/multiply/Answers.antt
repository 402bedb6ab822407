use Rattle.std.proofs.Common.{◌+◌, ◌++◌, sym, subst}
use Rattle.pq_base.specs.SignedWord.{copies}
use Rattle.pq_base.specs.Joined.{Joined}
use Rattle.pc_presentation.specs.Rowed.{flat}
use Rattle.pc_presentation.specs.Arithmetic.{word_of}
use Rattle.pc_presentation.specs.Tailed.{Element, rowed_presentation, IsElement}
use Rattle.endo_lift.proofs.ValueLaws.{power-begun, power-more}
use Rattle.endo_lift.proofs.room.Room.multiply.Goals as goal

pub loop-init : goal.loop-init
loop-init g c =
    let Y = rowed_presentation c.args.pcp.now in
    (c.requires.scratch, c.requires.room, power-begun (flat Y) (word_of Y c.args.self.now.value.state) (word_of Y c.args.factor.now.state))

pub loop-preserved : goal.loop-preserved
loop-preserved g c =
    let T = c.args.pcp.now in
    let Y = rowed_presentation c.args.pcp.now in
    let room = c.loop.invariant.1 in
    let u = word_of Y c.args.self.now.value.state in
    let v = word_of Y c.args.factor.now.state in (
      c.product.ensures.scratch,
      record {
        value = subst (IsElement T) (sym c.swap.ensures.x_after) c.product.ensures.element;
        factor = room.factor;
        product = subst (IsElement T) (sym c.swap.ensures.y_after) room.value;
      },
      subst (λ (e : Element). Joined (flat Y) (word_of Y e.state) (u ++ copies v (c.loop.counter + 1))) (sym c.swap.ensures.x_after)
          (power-more (flat Y) (word_of Y c.product.new.out.state) (word_of Y c.loop.self.value.state) u v c.loop.counter
          c.product.ensures.joined c.loop.invariant.2),
    )
