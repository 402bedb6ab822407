use Rattle.std.proofs.Common.{◌<◌, arith}
use Rattle.cover_quotient.specs.NextAnswer.{combined_answer}
use Rattle.cover_quotient.proofs.next_answers.NextDrafts.{commutator-more, commutator-awaited}
use Rattle.cover_quotient.proofs.next_presentation.give_commutators_of.Goals as goal

pub give-requires-clause-awaited : goal.give-requires-clause-awaited
give-requires-clause-awaited c =
    let C = c.args.cover.now in
    let A = combined_answer C c.args.combinations.now in
    let inside : c.args.k < C.answer.presentation.rank = omega (arith, c.requires.in_range) in
    commutator-awaited A c.loop-i.invariant.of C.answer.presentation.rank c.args.k c.loop-i.i c.loop-i.builder inside
    (omega arith) c.loop-i-test.true
    c.loop-i.invariant

pub loop-i-preserved : goal.loop-i-preserved
loop-i-preserved c =
    let C = c.args.cover.now in
    let A = combined_answer C c.args.combinations.now in
    let inside : c.args.k < A.presentation.rank = omega (arith, c.requires.in_range) in
    commutator-more A c.loop-i.invariant.of C.answer.presentation.rank c.args.k c.loop-i.i c.loop-i.builder c.give.new.builder inside
    c.loop-i-test.true
    c.loop-i.invariant c.in_ok-give.ensures
