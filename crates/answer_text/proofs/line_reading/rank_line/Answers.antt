use Rattle.std.proofs.Common.{◌≡◌, ℕ, List, drop, decimal, ap, sym, ◌∙◌, arith}
use Rattle.answer_text.proofs.texts.PieceTexts.{number-same}
use Rattle.answer_text.proofs.line_reading.rank_line.Goals as goal

pub returns-else-n-le-RANK-clause-none : goal.returns-else-n-le-RANK-clause-none
returns-else-n-le-RANK-clause-none c = λ k h e.
    let digits : c.in_ok-behind.field-0.now ≡ decimal k = ap (λ (x : List ℕ). drop 5 x) (sym c.in_ok-behind.ensures.some ∙ e) in
    let same : c.in_ok-n.n ≡ k = number-same c.in_ok-n.n k c.in_ok-n.ensures.some.0 (omega arith) (sym c.in_ok-n.ensures.some.1 ∙ digits) in
    omega (arith, c.if-n-le-RANK.false)
