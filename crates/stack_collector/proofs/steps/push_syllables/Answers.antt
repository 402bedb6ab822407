use Rattle.std.proofs.Common.{◌≡◌, ◌-◌, get_or, refl, sym, subst, arith}
use Rattle.pc_presentation.specs.declared.syllable.Syllable.{Syllable}
use Rattle.stack_collector.specs.declared.frame.Frame.{Frame}
use Rattle.stack_collector.specs.FrameSteps.{IsPush}
use Rattle.stack_collector.proofs.FrameLaws.{with_syllable, with_place, with_copies}
use Rattle.stack_collector.proofs.WordLaws.{letter-in_range, letters-added, letter-left}
use Rattle.stack_collector.proofs.steps.push_syllables.Goals as goal

pub add_copies-left-requires-clause-from_one : goal.add_copies-left-requires-clause-from_one
add_copies-left-requires-clause-from_one c =
    let d : Syllable = record { generator = 0; exponent = 0 } in
    let m = c.loop-place.place in
    let kept = c.loop-place.invariant in
    let range =
    letter-in_range c.args.pcp.now c.requires.element.presentation c.args.frame.now c.args.at.now c.loop-place.at m c.word-word.result.now
    (get_or c.word-word.result.now m d) d c.requires.none_before kept.3 kept.0 c.loop-place-test.true refl in
    let later = range.0 in
    omega arith

pub add_copies-left-requires-clause-in_range : goal.add_copies-left-requires-clause-in_range
add_copies-left-requires-clause-in_range c =
    let d : Syllable = record { generator = 0; exponent = 0 } in
    let m = c.loop-place.place in
    let kept = c.loop-place.invariant in
    let range =
    letter-in_range c.args.pcp.now c.requires.element.presentation c.args.frame.now c.args.at.now c.loop-place.at m c.word-word.result.now
    (get_or c.word-word.result.now m d) d c.requires.none_before kept.3 kept.0 c.loop-place-test.true refl in
    range.1

pub loop-place-preserved : goal.loop-place-preserved
loop-place-preserved c =
    let d : Syllable = record { generator = 0; exponent = 0 } in
    let m = c.loop-place.place in
    let kept = c.loop-place.invariant in
    let on = kept.2 in
    let last = c.if-left-gt0.false in
    let none : c.add_copies-left.result ≡ 0 = omega arith in (
      kept.0,
      kept.1,
      omega arith,
      letters-added c.args.pcp.now c.requires.element.presentation c.args.frame.now c.args.at.now c.loop-place.at m c.word-word.result.now
          (get_or c.word-word.result.now m d) d c.requires.none_before kept.3 kept.0 c.loop-place-test.true refl c.add_copies-left.new.at
          c.add_copies-left.ensures.element c.add_copies-left.result c.add_copies-left.ensures.fewer c.add_copies-left.ensures.added none,
    )

pub returns-then-left-gt0 : goal.returns-then-left-gt0
returns-then-left-gt0 c =
    let d : Syllable = record { generator = 0; exponent = 0 } in
    let m = c.loop-place.place in
    let s = get_or c.word-word.result.now m d in
    let kept = c.loop-place.invariant in
    subst (λ (f : Frame).
    IsPush c.args.pcp.now c.args.frame.now c.args.at.now s.generator
    (with_copies (with_syllable (with_place f m) s) (c.add_copies-left.result - 1))
    c.add_copies-left.new.at) (sym kept.1)
    (letter-left c.args.pcp.now c.requires.element.presentation c.args.frame.now c.args.at.now c.loop-place.at m c.word-word.result.now s d
    c.requires.none_before kept.3 kept.0 c.loop-place-test.true refl c.add_copies-left.new.at c.add_copies-left.ensures.element
    c.add_copies-left.result c.add_copies-left.ensures.fewer c.add_copies-left.ensures.added c.if-left-gt0.true)
