use Rattle.std.proofs.Common.{◌≡◌, ◌++◌, ℕ, List, drop, refl, ap, sym, subst, ◌∙◌}
use Rattle.std.specs.Prelude.{codes}
use Rattle.pq_base.specs.Name.{IsName}
use Rattle.answer_text.proofs.texts.PieceTexts.{IfNone-of}
use Rattle.answer_text.proofs.ImagesTold.{avoids-name}
use Rattle.answer_text.proofs.lines.LineTexts.{sides-same}
use Rattle.answer_text.proofs.line_reading.image_start.Goals as goal

pub returns-in_err-left-clause-none : goal.returns-in_err-left-clause-none
returns-in_err-left-clause-none c =
    IfNone-of _ ((n t : List ℕ) → IsName n → ¬ (c.args.line.now ≡ codes "image " ++ (n ++ (codes " = " ++ t)))) (λ n t is e.
    c.in_err-left.ensures.none n t (avoids-name 32 n refl is) (ap (λ (x : List ℕ). drop 6 x) (sym c.in_ok-behind.ensures.some ∙ e)))

pub returns-in_err-of-clause-none : goal.returns-in_err-of-clause-none
returns-in_err-of-clause-none c =
    IfNone-of _ ((n t : List ℕ) → IsName n → ¬ (c.args.line.now ≡ codes "image " ++ (n ++ (codes " = " ++ t)))) (λ n t is e.
    let parts = sides-same c.in_ok-left.left.now n c.in_ok-left.right.now t c.in_ok-left.ensures.first (avoids-name 32 n refl is)
    (sym c.in_ok-left.ensures.some ∙ ap (λ (x : List ℕ). drop 6 x) (sym c.in_ok-behind.ensures.some ∙ e)) in
    c.in_err-of.ensures.none (subst (λ (x : List ℕ). IsName x) (sym parts.0) is))
