use Rattle.std.proofs.Common.{◌+◌, ◌<◌, ℕ, arith}
use Rattle.pc_presentation.specs.declared.relation.Relation.TheVariants.{Commutator}
use Rattle.p_cover.proofs.GivenLaws.{goes_on-one}
use Rattle.p_cover.proofs.GivenSteps.{commutators_of-more}
use Rattle.p_cover.proofs.given.give_commutators_of.Goals as goal

pub loop-k-preserved : goal.loop-k-preserved
loop-k-preserved c =
    let A = c.args.answer.now in
    let j : ℕ = c.args.j in
    let k : ℕ = c.loop-k.k in
    let less : k + 1 < j = omega (arith, c.loop-k-test.true, c.requires.from_one) in (
      c.give.ensures.draft,
      commutators_of-more A c.args.builder.now c.loop-k.builder c.give.new.builder j k c.loop-k.invariant.1
          (goes_on-one A c.pcp-conditions.ensures.answer.presentation c.loop-k.builder c.give.new.builder (Commutator j (k + 1))
          (omega arith, less, c.requires.in_range) c.in_ok-give.ensures.given),
    )
