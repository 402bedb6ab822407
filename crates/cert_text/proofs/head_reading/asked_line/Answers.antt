use Rattle.std.proofs.Common.{◌≡◌, sym, ◌∙◌, arith}
use Rattle.cert_text.proofs.lines.FormLaws.{class_line-same}
use Rattle.cert_text.proofs.head_reading.asked_line.Goals as goal

pub returns-else-class-ge1-clause-none : goal.returns-else-class-ge1-clause-none
returns-else-class-ge1-clause-none c k some limit e =
    let same : c.in_ok-class.class ≡ k = class_line-same c.in_ok-class.class k c.in_ok-class.ensures.some.0 limit
    (sym c.in_ok-class.ensures.some.1 ∙ e) in
    omega (arith, c.if-class-ge1.false)
