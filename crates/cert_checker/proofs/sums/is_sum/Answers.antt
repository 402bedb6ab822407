use Rattle.std.proofs.Common.{◌≡◌, ◌≤◌, ◌-◌, ℕ, List, length, ap₂, ◌∙◌, subst, arith}
use Rattle.fp_rows.specs.Row.{PrimeRow}
use Rattle.fp_rows.specs.Rows.{add_rows}
use Rattle.fp_echelon.specs.Span.{combine}
use Rattle.derivation_log.specs.CertificateRuns.{row_of_pairs}
use Rattle.cert_checker.specs.StepRows.{entries_of}
use Rattle.cert_checker.specs.SumLines.{raised}
use Rattle.cert_checker.proofs.summing.SumSteps.{zeros-alike, zeros-own, pairs-of, line-decided}
use Rattle.cert_checker.proofs.sums.is_sum.Goals as goal

pub add_multiples-requires-clause-sum : goal.add_multiples-requires-clause-sum
add_multiples-requires-clause-sum c =
    let C = c.args.cover.now in
    let is = c.requires.sum in
    zeros-own C.answer.presentation.prime (length C.sources) c.clear.new.self is.some
    (zeros-alike C.answer.presentation.prime (length C.sources) c.args.sum.now c.clear.new.self is c.clear.ensures)

pub add_entries-requires-clause-pairs : goal.add_entries-requires-clause-pairs
add_entries-requires-clause-pairs c =
    let C = c.args.cover.now in
    let is = c.requires.sum in
    let zeros_are = zeros-alike C.answer.presentation.prime (length C.sources) c.args.sum.now c.clear.new.self is c.clear.ensures in
    let within : c.args.line.now.tail ≤ length C.sources = omega (arith, c.if-tail-tails.false, c.tail.ensures, c.tails.ensures) in
    pairs-of C c.args.rows.now c.args.line.now c.requires.line within c.clear.new.self c.add_multiples.new.sum zeros_are
    c.add_multiples.ensures.row
    c.kept.result.now c.kept.ensures

pub returns-clause-decided : goal.returns-clause-decided
returns-clause-decided c =
    let C = c.args.cover.now in
    let is = c.requires.sum in
    let zeros_are = zeros-alike C.answer.presentation.prime (length C.sources) c.args.sum.now c.clear.new.self is c.clear.ensures in
    let within : c.args.line.now.tail ≤ length C.sources = omega (arith, c.if-tail-tails.false, c.tail.ensures, c.tails.ensures) in
    line-decided C c.args.rows.now c.requires.rows c.args.line.now c.requires.line within is.some c.clear.new.self c.add_multiples.new.sum
    c.add_entries.new.row c.raise.new.row zeros_are
    (subst (λ (ps : List (ℕ × ℕ)). c.add_multiples.new.sum ≡ record c.clear.new.self {
      entries = combine c.clear.new.self.prime (length c.clear.new.self.entries) (row_of_pairs (length c.args.rows.now) ps)
          (entries_of c.args.rows.now);
    }) c.sums.ensures c.add_multiples.ensures.sum)
    (subst (λ (ps : List (ℕ × ℕ)). c.add_entries.new.row ≡ record c.add_multiples.new.sum {
      entries = add_rows c.add_multiples.new.sum.prime c.add_multiples.new.sum.entries
          (row_of_pairs (length c.add_multiples.new.sum.entries) ps);
    }) c.kept.ensures c.add_entries.ensures.sum)
    (c.raise.ensures.raised
    ∙ ap₂ (λ (t q : ℕ). let next : PrimeRow = record {
      prime = c.add_entries.new.row.prime;
      entries = raised c.add_entries.new.row.prime c.add_entries.new.row.entries t (q - 1);
    } in next) c.tail-2.ensures (c.value.ensures.value ∙ c.prime.ensures.prime))
    c.is_zero.result c.is_zero.ensures
