use Rattle.std.proofs.Common.{ℕ, arith}
use Rattle.pq_base.specs.Prime.{prime_value}
use Rattle.pq_base.proofs.PrimeLaws.{prime_value-offered}
use Rattle.answer_text.specs.AnswerPlaces.Place.{for_prime, for_class}
use Rattle.answer_text.proofs.lines.BadLines.{no-line, bad-line, no-prime, open-prime, prime-form, IsBadAt-before}
use Rattle.answer_text.proofs.head_reading.read_head.Goals as goal

pub returns-in_default-clause-err : goal.returns-in_default-clause-err
returns-in_default-clause-err c = (0, omega arith, no-line for_prime c.args.bytes.now open-prime c.in_default.ensures.none)

pub returns-in_default-prime_line-clause-err : goal.returns-in_default-prime_line-clause-err
returns-in_default-prime_line-clause-err c = (
  0,
  omega arith,
  bad-line for_prime c.args.bytes.now c.in-Some.line.now c.in-Some.rest.now c.in-Some.ensures.some c.in-Some.ensures.first
      (no-prime c.in-Some.line.now c.in_default-prime_line.ensures.none),
)

pub returns-in-Err-clause-err : goal.returns-in-Err-clause-err
returns-in-Err-clause-err c =
    let p : ℕ = prime_value c.in-Some-prime_line.prime in
    IsBadAt-before for_prime (for_class p) c.in-Some.line.now c.in-Some.rest.now c.args.bytes.now 1 c.in-Err.fault
    (prime-form c.in-Some.line.now p (prime_value-offered c.in-Some-prime_line.prime) c.in-Some-prime_line.ensures.some)
    c.in-Some.ensures.some c.in-Err.ensures.err
