use Rattle.std.proofs.Common.{◌≡◌, ◌<◌, ◌+◌, length, take, ap, sym, ◌∙◌, subst, arith}
use Rattle.pc_presentation.specs.Tailed.{rowed_presentation}
use Rattle.pc_presentation.specs.ImageElements.{AreImageElements}
use Rattle.p_cover.specs.Covers.{cover_presentation}
use Rattle.p_cover.specs.Images.{ImagesOf}
use Rattle.p_cover.specs.ImagesAlong.{AreCarried}
use Rattle.p_cover.specs.ImagesAlong.AreCarried.{nowhere}
use Rattle.epimorphism.specs.Rooms.{Rooms}
use Rattle.epimorphism.proofs.AlongRows.{AreEndoNumbers-get_or, carried-more, exchanged-work}
use Rattle.epimorphism.proofs.along.carry.Goals as goal

pub loop-i-init : goal.loop-i-init
loop-i-init g c = (c.requires.scratch, c.requires.work, c.requires.images, nowhere)

pub endo-requires : goal.endo-requires
endo-requires g c =
    let l : c.loop-i.i < length c.args.along.now = omega (arith, c.loop-i-test.true, c.loop-i.auto.i-end) in
    AreEndoNumbers-get_or (length c.args.pres.now.endos) c.args.along.now c.loop-i.i 0 c.requires.numbers l

pub loop-i-preserved : goal.loop-i-preserved
loop-i-preserved g c =
    let C = c.args.cover.now in
    let T = cover_presentation C in
    let push = g.C.Collect.meaning (rowed_presentation (cover_presentation C)) in
    let endos = c.args.pres.now.endos in
    let start = c.args.work.now.first in
    let inv = c.loop-i.invariant in
    let l : c.loop-i.i < length c.args.along.now = omega (arith, c.loop-i-test.true, c.loop-i.auto.i-end) in
    let before : c.work.inside.first ≡ c.loop-i.work.first = ap (λ (w : Rooms). w.first) c.work.view_is in
    let first : c.exchange.new.self.first ≡ c.compose.new.out = c.exchange.ensures.first in
    let second : c.exchange.new.self.second ≡ c.loop-i.work.first = c.exchange.ensures.second ∙ before in
    let carried : AreCarried C push endos start (take c.loop-i.i c.args.along.now) c.work.inside.first =
    subst (λ (f : ImagesOf). AreCarried C push endos start (take c.loop-i.i c.args.along.now) f) (sym before) inv.3 in (
      c.compose.ensures.scratch,
      exchanged-work C push c.loop-i.work c.exchange.new.self c.compose.new.out (length c.endo.result.now) inv.1 c.compose.ensures.out
          (c.endo.ensures.count ∙ c.requires.generators) first second,
      subst (λ (f : ImagesOf). AreImageElements T push f.elements f.inverses) (sym first) c.compose.ensures.composed.images,
      subst (λ (f : ImagesOf). AreCarried C push endos start (take (c.loop-i.i + 1) c.args.along.now) f) (sym first)
          (carried-more C push endos start c.work.inside.first c.compose.new.out c.args.along.now c.loop-i.i c.endo.result.now l carried
          c.endo.ensures.images c.compose.ensures.composed),
    )
