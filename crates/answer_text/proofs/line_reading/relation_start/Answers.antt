use Rattle.std.proofs.Common.{◌≡◌, ◌<◌, ◌++◌, ℕ, List, drop, ap, sym, ◌∙◌, arith}
use Rattle.std.specs.Prelude.{codes}
use Rattle.pc_presentation.specs.declared.relation.Relation.{Relation}
use Rattle.pc_presentation.specs.Relation.{IsRelation}
use Rattle.answer_text.specs.AnswerPlaces.{left_text}
use Rattle.answer_text.proofs.texts.PieceTexts.{IfNone-of}
use Rattle.answer_text.proofs.lines.LineTexts.{avoids-space, sides-same}
use Rattle.answer_text.proofs.line_reading.relation_start.Goals as goal

pub returns-in_err-left-clause-none : goal.returns-in_err-left-clause-none
returns-in_err-left-clause-none c =
    IfNone-of _ ((r : Relation) (t : List ℕ) → IsRelation c.args.rank r
    → ¬ (c.args.line.now ≡ codes "relation " ++ (left_text c.args.prime r ++ (codes " = " ++ t)))) (λ r t is e.
    let small : c.args.prime < 1000 = omega (arith, c.ranges.prime.fits) in
    c.in_err-left.ensures.none (left_text c.args.prime r) t (avoids-space c.args.prime c.args.rank r small c.requires is)
    (ap (λ (x : List ℕ). drop 9 x) (sym c.in_ok-behind.ensures.some ∙ e)))

pub returns-in_err-left_side-clause-none : goal.returns-in_err-left_side-clause-none
returns-in_err-left_side-clause-none c =
    IfNone-of _ ((r : Relation) (t : List ℕ) → IsRelation c.args.rank r
    → ¬ (c.args.line.now ≡ codes "relation " ++ (left_text c.args.prime r ++ (codes " = " ++ t)))) (λ r t is e.
    let small : c.args.prime < 1000 = omega (arith, c.ranges.prime.fits) in
    let parts =
    sides-same c.in_ok-left.left.now (left_text c.args.prime r) c.in_ok-left.right.now t c.in_ok-left.ensures.first
    (avoids-space c.args.prime c.args.rank r small c.requires is)
    (sym c.in_ok-left.ensures.some ∙ ap (λ (x : List ℕ). drop 9 x) (sym c.in_ok-behind.ensures.some ∙ e)) in
    c.in_err-left_side.ensures.none r is parts.0)
