use Rattle.std.proofs.Common.{ℕ, List, Bor, option_map, sym, subst, arith}
use Rattle.std.specs.Prelude.{Option, Some}
use Rattle.pc_presentation.specs.declared.syllable.Syllable.{Syllable}
use Rattle.answer_text.proofs.WordSteps.{HasRead, HasRead-next, HasRead-end, IsCut-of, no-syllable, no-further}
use Rattle.answer_text.proofs.word_reading.word.Goals as goal
use Rattle.answer_text.proofs.word_reading.word.Goals.{then-s-last-via-then-s-last, then-s-last-via-else-s-last+then-rank-s}
use Rattle.answer_text.proofs.word_reading.word.Goals.{then-s-last-via-else-s-last+else-rank-s+then-prime-s}

pub returns-in_default-syllable-clause-none : goal.returns-in_default-syllable-clause-none
returns-in_default-syllable-clause-none c =
    let left : HasRead c.args.prime c.args.rank c.args.after c.args.text.now c.loop-rest.last c.loop-rest.word.items
    (Some c.in-Some.left.now) =
    subst (λ (x : Option (Bor (List ℕ))).
    HasRead c.args.prime c.args.rank c.args.after c.args.text.now c.loop-rest.last c.loop-rest.word.items (option_map (λ t. t.now) x))
    c.in-Some.is c.loop-rest.invariant in
    no-syllable c.args.prime c.args.rank c.args.after c.args.text.now c.loop-rest.last c.loop-rest.word.items c.in-Some.left.now
    c.cut.result.0.now (option_map (λ t. t.now) c.cut.result.1)
    c.requires.prime c.requires.rank left (IsCut-of c.in-Some.left.now c.cut.result.0.now c.cut.result.1 c.cut.ensures.parts)
    c.cut.ensures.first c.in_default-syllable.ensures.none

pub returns-then-s-last-clause-none : goal.returns-then-s-last-clause-none
returns-then-s-last-clause-none c =
    let left : HasRead c.args.prime c.args.rank c.args.after c.args.text.now c.loop-rest.last c.loop-rest.word.items
    (Some c.in-Some.left.now) =
    subst (λ (x : Option (Bor (List ℕ))).
    HasRead c.args.prime c.args.rank c.args.after c.args.text.now c.loop-rest.last c.loop-rest.word.items (option_map (λ t. t.now) x))
    c.in-Some.is c.loop-rest.invariant in
    no-further c.args.prime c.args.rank c.args.after c.args.text.now c.loop-rest.last c.loop-rest.word.items c.in-Some.left.now
    c.cut.result.0.now (option_map (λ t. t.now) c.cut.result.1) c.in-Some-syllable.s
    c.requires.prime c.requires.rank left (IsCut-of c.in-Some.left.now c.cut.result.0.now c.cut.result.1 c.cut.ensures.parts)
    c.cut.ensures.first c.in-Some-syllable.ensures.some.0 c.in-Some-syllable.ensures.some.1
    (λ rises inside low. elim c.then-s-last.branch [
      | then-s-last-via-then-s-last w ↦ omega (arith, w.if-s-last.true)
      | then-s-last-via-else-s-last+then-rank-s w ↦ omega (arith, w.if-rank-s.true)
      | then-s-last-via-else-s-last+else-rank-s+then-prime-s w ↦ omega (arith, w.if-prime-s.true)
    ])

pub loop-rest-preserved : goal.loop-rest-preserved
loop-rest-preserved c =
    let left : HasRead c.args.prime c.args.rank c.args.after c.args.text.now c.loop-rest.last c.loop-rest.word.items
    (Some c.in-Some.left.now) =
    subst (λ (x : Option (Bor (List ℕ))).
    HasRead c.args.prime c.args.rank c.args.after c.args.text.now c.loop-rest.last c.loop-rest.word.items (option_map (λ t. t.now) x))
    c.in-Some.is c.loop-rest.invariant in
    subst (λ (x : List Syllable).
    HasRead c.args.prime c.args.rank c.args.after c.args.text.now c.in-Some-syllable.s.generator x (option_map (λ t. t.now) c.cut.result.1))
    (sym c.in_ok-push.ensures.items)
    (HasRead-next c.args.prime c.args.rank c.args.after c.args.text.now c.loop-rest.last c.loop-rest.word.items c.in-Some.left.now
    c.cut.result.0.now (option_map (λ t. t.now) c.cut.result.1) c.in-Some-syllable.s
    c.requires.prime c.requires.rank left (IsCut-of c.in-Some.left.now c.cut.result.0.now c.cut.result.1 c.cut.ensures.parts)
    c.cut.ensures.first c.in-Some-syllable.ensures.some.0 c.in-Some-syllable.ensures.some.1
    (omega (arith, c.if-s-last.false)) (omega (arith, c.if-rank-s.false)) (omega (arith, c.if-prime-s.false)))

pub returns-clause-some : goal.returns-clause-some
returns-clause-some c =
    HasRead-end c.args.prime c.args.rank c.args.after c.args.text.now c.loop-rest.last c.loop-rest.word.items
    (subst (λ (x : Option (Bor (List ℕ))).
    HasRead c.args.prime c.args.rank c.args.after c.args.text.now c.loop-rest.last c.loop-rest.word.items (option_map (λ t. t.now) x))
    c.in_default-rest.is c.loop-rest.invariant)
