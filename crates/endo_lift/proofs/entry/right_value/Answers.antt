use Rattle.std.proofs.Common.{[], get_or, refl, subst}
use Rattle.std.proofs.lemmas.List.{get_or_default}
use Rattle.pc_presentation.specs.Syllable.{syllable}
use Rattle.pc_presentation.specs.Pcp.{TailedPresentation}
use Rattle.pc_presentation.specs.Scratch.{IsScratch}
use Rattle.p_cover.specs.Covers.{cover_presentation}
use Rattle.endo_lift.specs.Values.{IsValue, IsRoom}
use Rattle.endo_lift.proofs.ValueLaws.{value-one, value-times_power}
use Rattle.endo_lift.proofs.SpelledValues.{syllable-more}
use Rattle.endo_lift.proofs.entry.right_value.Goals as goal

pub loop-syllable-init : goal.loop-syllable-init
loop-syllable-init g c =
    let C = c.args.cover.now in
    let one : IsValue C [] c.clear.new.self =
    value-one C (cover_presentation C) refl c.args.room.now.value c.clear.new.self c.requires.room.value c.clear.ensures in (
      c.requires.scratch,
      record { value = one.element; factor = c.requires.room.factor; product = c.requires.room.product },
      one,
    )

pub loop-syllable-preserved : goal.loop-syllable-preserved
loop-syllable-preserved g c =
    let C = c.args.cover.now in
    let T = c.pcp.result.now in
    let t = c.pcp.ensures.presentation in
    let i = c.loop-syllable.syllable-index in
    let word = c.args.word.now in
    let s = get_or word i (syllable 0 0) in
    let a = c.loop-syllable.room.value in
    let factor = c.index-elements-syllable.result in
    let out = c.multiply.new.self.value in (
      subst (λ (P : TailedPresentation). IsScratch P c.multiply.new.s) t c.multiply.ensures.scratch,
      subst (λ (P : TailedPresentation). IsRoom P c.multiply.new.self) t c.multiply.ensures.room,
      syllable-more C c.args.endo.now c.args.elements.now c.requires.spelled word i s factor a factor out c.loop-syllable-test.true
          (get_or_default word i (syllable 0 0) s c.loop-syllable-test.true) c.requires.generators c.index-elements-syllable.is
          (λ u v h k. value-times_power C T t u v s.exponent a factor out c.multiply.ensures.room.value c.multiply.ensures.joined h k)
          c.loop-syllable.invariant.2,
    )
