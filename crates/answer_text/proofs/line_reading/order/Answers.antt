use Rattle.std.proofs.Common.{◌≡◌, ◌<◌, ℕ, List, drop, decimal, refl, ap, sym, ◌∙◌}
use Rattle.answer_text.specs.AnswerPlaces.{order_line}
use Rattle.answer_text.proofs.texts.PieceTexts.{IfNone-of, number_before-same}
use Rattle.answer_text.proofs.line_reading.order.Goals as goal

pub returns-in_err-number-clause-none : goal.returns-in_err-number-clause-none
returns-in_err-number-clause-none c =
    IfNone-of _ ((p n : ℕ) → p < 1000 → n < 1000 → ¬ (c.args.line.now ≡ order_line p n)) (λ p n h g e.
    let parts =
    number_before-same 94 c.in_ok-p.p p c.in_ok-behind.field-0.now c.in_ok-p.rest.now
    (decimal n) refl c.in_ok-p.ensures.some.1 c.in_ok-p.ensures.some.0 h
    (ap (λ (x : List ℕ). drop 6 x) (sym c.in_ok-behind.ensures.some ∙ e)) in
    c.in_err-number.ensures.none n g parts.1)
