use Rattle.std.proofs.Common.{◌≡◌, ◌++◌, ◌∷◌, ℕ, true, List, ap, sym, ◌∙◌}
use Rattle.std.specs.Prelude.{codes}
use Rattle.answer_text.specs.Lines.{avoids}
use Rattle.answer_text.proofs.Splits.{split-same}
use Rattle.answer_text.proofs.texts.PieceTexts.{IfNone-of, avoids-not}
use Rattle.answer_text.proofs.line_reading.sides.Goals as goal

pub returns-in_err-left-clause-none : goal.returns-in_err-left-clause-none
returns-in_err-left-clause-none c =
    IfNone-of _ ((l r : List ℕ) → avoids 32 l ≡ true → ¬ (c.args.text.now ≡ l ++ (codes " = " ++ r))) (λ l r a e.
    avoids-not 32 l (61 ∷ 32 ∷ r) (ap (λ (x : List ℕ). avoids 32 x) (sym e) ∙ c.in_err-left.ensures.none))

pub returns-in_err-behind-clause-none : goal.returns-in_err-behind-clause-none
returns-in_err-behind-clause-none c =
    IfNone-of _ ((l r : List ℕ) → avoids 32 l ≡ true → ¬ (c.args.text.now ≡ l ++ (codes " = " ++ r))) (λ l r a e.
    let parts =
    split-same 32 c.in_ok-left.left.now l c.in_ok-left.right.now (61 ∷ 32 ∷ r) c.in_ok-left.ensures.first a
    (sym c.in_ok-left.ensures.some ∙ e) in
    c.in_err-behind.ensures.none r parts.1)
