use Rattle.std.proofs.Common.{◌≡◌, ℕ, List, drop, decimal, ap, sym, ◌∙◌, arith}
use Rattle.answer_text.proofs.texts.PieceTexts.{number-same}
use Rattle.answer_text.proofs.line_reading.class_line.Goals as goal

pub returns-else-c-from-clause-none : goal.returns-else-c-from-clause-none
returns-else-c-from-clause-none c = λ k h e.
    let digits : c.in_ok-behind.field-0.now ≡ decimal k = ap (λ (x : List ℕ). drop 6 x) (sym c.in_ok-behind.ensures.some ∙ e) in
    let same : c.in_ok-c.c ≡ k = number-same c.in_ok-c.c k c.in_ok-c.ensures.some.0 (omega arith) (sym c.in_ok-c.ensures.some.1 ∙ digits) in
    omega (arith, c.if-c-from.false, c.from.ensures)
