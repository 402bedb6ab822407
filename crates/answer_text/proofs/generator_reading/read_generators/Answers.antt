use Rattle.std.proofs.Common.{◌≡◌, ◌<◌, ◌≤◌, ◌+◌, ◌-◌, ℕ, List, length, ap, subst, ◌∙◌, arith}
use Rattle.pq_base.specs.Limits.{max_class}
use Rattle.pq_base.specs.Prime.{prime_value}
use Rattle.pq_base.proofs.PrimeLaws.{prime_value-offered}
use Rattle.answer_text.specs.declared.source.Source.{Source}
use Rattle.answer_text.specs.AnswerPlaces.{IsScale, IsSource, source_line}
use Rattle.answer_text.specs.AnswerPlaces.Place.{in_body}
use Rattle.answer_text.proofs.GeneratorsRead.{length-push, legible-push, lines-push}
use Rattle.answer_text.proofs.lines.BadLines.{no-line, bad-line, open-body, generators-bad, no-next-generator}
use Rattle.answer_text.proofs.generator_reading.read_generators.Goals as goal

pub returns-in_default-clause-err : goal.returns-in_default-clause-err
returns-in_default-clause-err c =
    let p : ℕ = prime_value c.args.head.prime in
    let n : ℕ = c.args.head.rank in
    let k : ℕ = c.loop-k.k in
    let z : IsScale p n = record { offered = prime_value-offered c.args.head.prime; limit = c.requires } in
    let inside : k < n = omega (arith, c.loop-k-test.true) in (
      k,
      omega (arith, c.from-number.ensures),
      generators-bad p n k c.loop-k.weights.items c.loop-k.sources.items c.args.text.now c.loop-k.rest.now z c.loop-k.invariant.weights
          c.loop-k.invariant.sources (omega arith) c.loop-k.invariant.legible c.loop-k.invariant.lines
          (no-line (in_body p n (n - k) 0) c.loop-k.rest.now (open-body p n (n - k) 0) c.in_default.ensures.none),
    )

pub returns-in_default-generator_line-clause-err : goal.returns-in_default-generator_line-clause-err
returns-in_default-generator_line-clause-err c =
    let p : ℕ = prime_value c.args.head.prime in
    let n : ℕ = c.args.head.rank in
    let k : ℕ = c.loop-k.k in
    let z : IsScale p n = record { offered = prime_value-offered c.args.head.prime; limit = c.requires } in
    let inside : k < n = omega (arith, c.loop-k-test.true) in
    let none =
    subst (λ (x : ℕ). (w : ℕ) (s : Source) → 1 ≤ w → w ≤ max_class → IsSource n s → ¬ (c.in-Some.line.now ≡ source_line x (k + 1) w s))
    c.value-prime.ensures.value c.in_default-generator_line.ensures.none in (
      k,
      omega (arith, c.from-number.ensures),
      generators-bad p n k c.loop-k.weights.items c.loop-k.sources.items c.args.text.now c.loop-k.rest.now z c.loop-k.invariant.weights
          c.loop-k.invariant.sources (omega arith) c.loop-k.invariant.legible c.loop-k.invariant.lines
          (bad-line (in_body p n (n - k) 0) c.loop-k.rest.now c.in-Some.line.now c.in-Some.more.now c.in-Some.ensures.some
          c.in-Some.ensures.first
          (no-next-generator p n k (k + 1) c.in-Some.line.now inside (omega arith) none)),
    )

pub loop-k-preserved : goal.loop-k-preserved
loop-k-preserved c =
    let p : ℕ = prime_value c.args.head.prime in
    let n : ℕ = c.args.head.rank in
    let k : ℕ = c.loop-k.k in
    let ws : List ℕ = c.loop-k.weights.items in
    let ss : List Source = c.loop-k.sources.items in
    let one : length ws ≡ k = c.loop-k.invariant.weights in
    let two : length ss ≡ k = c.loop-k.invariant.sources in
    let facts = c.in-Some-generator_line.ensures.some in
    let line : c.in-Some.line.now ≡ source_line p (k + 1) c.in-Some-generator_line.weight c.in-Some-generator_line.source =
    facts.3 ∙ ap (λ (x : ℕ). source_line x (k + 1) c.in-Some-generator_line.weight c.in-Some-generator_line.source)
    c.value-prime.ensures.value in
    record {
      weights =
          length-push ws c.add_generator.new.weights.items c.in-Some-generator_line.weight k c.in_ok-add_generator.ensures.weights one;
      sources =
          length-push ss c.add_generator.new.sources.items c.in-Some-generator_line.source k c.in_ok-add_generator.ensures.sources two;
      shorter = omega (arith, c.loop-k.invariant.shorter, c.in-Some.ensures.shorter);
      legible =
          legible-push n ws c.add_generator.new.weights.items ss c.add_generator.new.sources.items c.in-Some-generator_line.weight
          c.in-Some-generator_line.source
          c.in_ok-add_generator.ensures.weights c.in_ok-add_generator.ensures.sources
          (omega arith) c.loop-k.invariant.legible facts.0 facts.1 facts.2;
      lines = lines-push p (k + 1) ws c.add_generator.new.weights.items ss c.add_generator.new.sources.items c.in-Some-generator_line.weight
          c.in-Some-generator_line.source
          c.args.text.now c.loop-k.rest.now c.in-Some.more.now c.in-Some.line.now c.in_ok-add_generator.ensures.weights
          c.in_ok-add_generator.ensures.sources (omega arith) (omega arith)
          c.loop-k.invariant.lines c.in-Some.ensures.some line;
    }
