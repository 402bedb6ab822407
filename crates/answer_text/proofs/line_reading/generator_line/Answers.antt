use Rattle.std.proofs.Common.{◌≡◌, ◌≤◌, ℕ, sym, ◌∙◌, arith}
use Rattle.pq_base.specs.Limits.{max_class}
use Rattle.answer_text.specs.declared.source.Source.{Source}
use Rattle.answer_text.specs.AnswerPlaces.{IsSource, source_line, source_text}
use Rattle.answer_text.proofs.texts.PieceTexts.{IfNone-of}
use Rattle.answer_text.proofs.lines.LineTexts.{generator_start-same}
use Rattle.answer_text.proofs.line_reading.generator_line.Goals as goal
use Rattle.answer_text.proofs.line_reading.generator_line.Goals.{then-number-k-via-then-number-k}
use Rattle.answer_text.proofs.line_reading.generator_line.Goals.{then-number-k-via-else-number-k+then-weight-lt1}
use Rattle.answer_text.proofs.line_reading.generator_line.Goals.{then-number-k-via-else-number-k+else-weight-lt1+then-from-weight}

pub returns-in_err-number-clause-none : goal.returns-in_err-number-clause-none
returns-in_err-number-clause-none c =
    IfNone-of _ ((w : ℕ) (s : Source) → 1 ≤ w → w ≤ max_class → IsSource c.args.rank s
    → ¬ (c.args.line.now ≡ source_line c.args.prime c.args.k w s)) (λ w s one top is e.
    c.in_err-number.ensures.none c.args.k w (source_text c.args.prime s) c.requires.k (omega arith) e)

pub returns-then-number-k-clause-none : goal.returns-then-number-k-clause-none
returns-then-number-k-clause-none c = λ w s one top is e.
    let parts =
    generator_start-same c.in_ok-number.number c.in_ok-number.weight c.args.k w c.in_ok-number.text.now (source_text c.args.prime s)
    c.in_ok-number.ensures.some.0 c.in_ok-number.ensures.some.1 c.requires.k (omega arith) (sym c.in_ok-number.ensures.some.2 ∙ e) in
    let number : c.in_ok-number.number ≡ c.args.k = parts.0 in
    let weight : c.in_ok-number.weight ≡ w = parts.1 in
    elim c.then-number-k.branch [
      | then-number-k-via-then-number-k v ↦ v.if-number-k.true number
      | then-number-k-via-else-number-k+then-weight-lt1 v ↦ omega (arith, v.if-weight-lt1.true)
      | then-number-k-via-else-number-k+else-weight-lt1+then-from-weight v ↦ omega (arith, v.if-from-weight.true, v.from.ensures)
    ]

pub returns-in_err-of-clause-none : goal.returns-in_err-of-clause-none
returns-in_err-of-clause-none c =
    IfNone-of _ ((w : ℕ) (s : Source) → 1 ≤ w → w ≤ max_class → IsSource c.args.rank s
    → ¬ (c.args.line.now ≡ source_line c.args.prime c.args.k w s)) (λ w s one top is e.
    let parts =
    generator_start-same c.in_ok-number.number c.in_ok-number.weight c.args.k w c.in_ok-number.text.now (source_text c.args.prime s)
    c.in_ok-number.ensures.some.0 c.in_ok-number.ensures.some.1 c.requires.k (omega arith) (sym c.in_ok-number.ensures.some.2 ∙ e) in
    c.in_err-of.ensures.none s is parts.2)
