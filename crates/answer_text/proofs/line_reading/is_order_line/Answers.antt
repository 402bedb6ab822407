use Rattle.std.proofs.Common.{◌≡◌, ◌<◌, ℕ, ap₂, sym, ◌∙◌, arith}
use borrow.Author.Tests.{eqb-true, eq-eqb}
use Rattle.answer_text.specs.AnswerPlaces.{order_line}
use Rattle.answer_text.proofs.lines.LineTexts.{order_line-same}
use Rattle.answer_text.proofs.line_reading.is_order_line.Goals as goal

pub returns-then-p-from : goal.returns-then-p-from
returns-then-p-from c =
    let prime : c.in-Some.p ≡ c.args.prime = c.if-p-from.true ∙ c.from.ensures in
    let small : c.args.prime < 1000 = omega (arith, c.ranges.prime.fits) in
    let low : c.args.rank < 1000 = c.requires in (
      λ t. c.in-Some.ensures.some.2 ∙ ap₂ (λ (p n : ℕ). order_line p n) prime (eqb-true c.in-Some.n c.args.rank t),
      λ e. eq-eqb c.in-Some.n c.args.rank
          (order_line-same c.in-Some.p c.in-Some.n c.args.prime c.args.rank c.in-Some.ensures.some.0 c.in-Some.ensures.some.1 small low
          (sym c.in-Some.ensures.some.2 ∙ e)).1,
    )

pub returns-else-p-from : goal.returns-else-p-from
returns-else-p-from c =
    let small : c.args.prime < 1000 = omega (arith, c.ranges.prime.fits) in
    let low : c.args.rank < 1000 = c.requires in (
      λ t. absurd (c.if-p-from.false (eqb-true c.in-Some.p c.from.result t)),
      λ e. absurd (c.if-p-from.false
          ((order_line-same c.in-Some.p c.in-Some.n c.args.prime c.args.rank c.in-Some.ensures.some.0 c.in-Some.ensures.some.1 small low
          (sym c.in-Some.ensures.some.2 ∙ e)).0 ∙ sym c.from.ensures)),
    )
