use Rattle.std.proofs.Common.{◌≡◌, ◌<◌, ◌++◌, ◌∷◌, ℕ, List, decimal}
use Rattle.answer_text.proofs.texts.PieceTexts.{IfNone-of, decimal-missing, decimal-before}
use Rattle.answer_text.proofs.pieces.number_before.Goals as goal

pub returns-in_err-digits-clause-none : goal.returns-in_err-digits-clause-none
returns-in_err-digits-clause-none c =
    IfNone-of _ ((n : ℕ) (rest : List ℕ) → n < 1000 → ¬ (c.args.text.now ≡ decimal n ++ c.args.byte ∷ rest))
    (λ n rest h e. decimal-missing c.args.byte n c.args.text.now rest c.in_err-digits.ensures.none e)

pub returns-in_err-number-clause-none : goal.returns-in_err-number-clause-none
returns-in_err-number-clause-none c =
    IfNone-of _ ((n : ℕ) (rest : List ℕ) → n < 1000 → ¬ (c.args.text.now ≡ decimal n ++ c.args.byte ∷ rest)) (λ n rest h e.
    let digits =
    decimal-before c.args.byte n c.args.text.now c.in_ok-digits.digits.now c.in_ok-digits.rest.now rest c.requires
    c.in_ok-digits.ensures.some c.in_ok-digits.ensures.first h e in
    c.in_err-number.ensures.none n h digits.0)
