use Rattle.std.proofs.Common.{◌≡◌, ℕ, true, false, ap, sym, ◌∙◌, arith}
use Rattle.pq_base.specs.Prime.{prime_value}
use Rattle.answer_text.specs.AnswerPlaces.{order_line}
use Rattle.answer_text.specs.AnswerPlaces.Place.{for_class, for_rank, for_order}
use Rattle.answer_text.proofs.faults.FaultLaws.{IsFirstBad-step}
use Rattle.answer_text.proofs.lines.BadLines.{no-line, bad-line, no-class, no-rank, no-order, open-class, open-rank, open-order, class-form}
use Rattle.answer_text.proofs.lines.BadLines.{rank-form}
use Rattle.answer_text.proofs.head_reading.read_size.Goals as goal

pub returns-in_default-clause-err : goal.returns-in_default-clause-err
returns-in_default-clause-err c = (
  0,
  omega arith,
  no-line (for_class (prime_value c.args.prime)) c.args.text.now (open-class (prime_value c.args.prime)) c.in_default.ensures.none,
)

pub returns-in_default-class_line-clause-err : goal.returns-in_default-class_line-clause-err
returns-in_default-class_line-clause-err c =
    let p : ℕ = prime_value c.args.prime in (
      0,
      omega arith,
      bad-line (for_class p) c.args.text.now c.in-Some.line.now c.in-Some.rest.now c.in-Some.ensures.some c.in-Some.ensures.first
          (no-class p c.in-Some.line.now c.in_default-class_line.ensures.none),
    )

pub returns-in_default-next_line-clause-err : goal.returns-in_default-next_line-clause-err
returns-in_default-next_line-clause-err c =
    let p : ℕ = prime_value c.args.prime in (
      1,
      omega arith,
      IsFirstBad-step (for_class p) (for_rank p) c.in-Some.line.now c.in-Some.rest.now c.args.text.now 0
          (class-form c.in-Some.line.now p c.in-Some-class_line._class c.in-Some-class_line.ensures.some.0
          c.in-Some-class_line.ensures.some.1) c.in-Some.ensures.some
          (no-line (for_rank p) c.in-Some.rest.now (open-rank p) c.in_default-next_line.ensures.none),
    )

pub returns-in_default-rank_line-clause-err : goal.returns-in_default-rank_line-clause-err
returns-in_default-rank_line-clause-err c =
    let p : ℕ = prime_value c.args.prime in (
      1,
      omega arith,
      IsFirstBad-step (for_class p) (for_rank p) c.in-Some.line.now c.in-Some.rest.now c.args.text.now 0
          (class-form c.in-Some.line.now p c.in-Some-class_line._class c.in-Some-class_line.ensures.some.0
          c.in-Some-class_line.ensures.some.1) c.in-Some.ensures.some
          (bad-line (for_rank p) c.in-Some.rest.now c.in-Some-next_line.line.now c.in-Some-next_line.rest.now
          c.in-Some-next_line.ensures.some c.in-Some-next_line.ensures.first
          (no-rank p c.in-Some-next_line.line.now c.in_default-rank_line.ensures.none)),
    )

pub returns-in_default-next_line-2-clause-err : goal.returns-in_default-next_line-2-clause-err
returns-in_default-next_line-2-clause-err c =
    let p : ℕ = prime_value c.args.prime in
    let n : ℕ = c.in-Some-rank_line.rank in (
      2,
      omega arith,
      IsFirstBad-step (for_class p) (for_rank p) c.in-Some.line.now c.in-Some.rest.now c.args.text.now 1
          (class-form c.in-Some.line.now p c.in-Some-class_line._class c.in-Some-class_line.ensures.some.0
          c.in-Some-class_line.ensures.some.1) c.in-Some.ensures.some
          (IsFirstBad-step (for_rank p) (for_order p n) c.in-Some-next_line.line.now c.in-Some-next_line.rest.now c.in-Some.rest.now 0
          (rank-form c.in-Some-next_line.line.now p n c.in-Some-rank_line.ensures.some.0 c.in-Some-rank_line.ensures.some.1)
          c.in-Some-next_line.ensures.some
          (no-line (for_order p n) c.in-Some-next_line.rest.now (open-order p n) c.in_default-next_line-2.ensures.none)),
    )

pub returns-then-not-is_order_line-clause-err : goal.returns-then-not-is_order_line-clause-err
returns-then-not-is_order_line-clause-err c =
    let p : ℕ = prime_value c.args.prime in
    let n : ℕ = c.in-Some-rank_line.rank in (
      2,
      omega arith,
      IsFirstBad-step (for_class p) (for_rank p) c.in-Some.line.now c.in-Some.rest.now c.args.text.now 1
          (class-form c.in-Some.line.now p c.in-Some-class_line._class c.in-Some-class_line.ensures.some.0
          c.in-Some-class_line.ensures.some.1) c.in-Some.ensures.some
          (IsFirstBad-step (for_rank p) (for_order p n) c.in-Some-next_line.line.now c.in-Some-next_line.rest.now c.in-Some.rest.now 0
          (rank-form c.in-Some-next_line.line.now p n c.in-Some-rank_line.ensures.some.0 c.in-Some-rank_line.ensures.some.1)
          c.in-Some-next_line.ensures.some
          (bad-line (for_order p n) c.in-Some-next_line.rest.now c.in-Some-next_line-2.line.now c.in-Some-next_line-2.rest.now
          c.in-Some-next_line-2.ensures.some c.in-Some-next_line-2.ensures.first
          (no-order p n c.in-Some-next_line-2.line.now (λ e.
          let yes : c.is_order_line.result ≡ true =
          c.is_order_line.ensures.1 (e ∙ ap (λ (x : ℕ). order_line x n) (sym c.value.ensures.value)) in
          let no_order : c.is_order_line.result ≡ false = c.if-not-is_order_line.true in
          let bad : true ≡ false = sym yes ∙ no_order in
          cc)))),
    )
