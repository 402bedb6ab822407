use Rattle.std.specs.Prelude.{codes, ◌++◌}
use Rattle.pc_presentation.specs.declared.relation.Relation.TheVariants.{Power}
use Rattle.pc_presentation.specs.Relation.{IsRelation}
use Rattle.answer_text.specs.AnswerText.{power_text}
use Rattle.std.proofs.Common.{◌≡◌, ◌<◌, ℕ, List, drop, decimal, refl, ap, sym, ◌∙◌, arith}
use Rattle.answer_text.proofs.texts.PieceTexts.{IfNone-of, number_before-same, number-same}
use Rattle.answer_text.proofs.pieces.power.Goals as goal
use Rattle.answer_text.proofs.pieces.power.Goals.{else-branch-from-via-else-branch-from, else-branch-from-via-then-branch-from+else-j-ge1}
use Rattle.answer_text.proofs.pieces.power.Goals.{else-branch-from-via-then-branch-from+then-j-ge1+else-j-rank}

pub returns-in_err-number-clause-none : goal.returns-in_err-number-clause-none
returns-in_err-number-clause-none c =
    IfNone-of _ ((j : ℕ) → IsRelation c.args.rank (Power j) → ¬ (codes "a" ++ c.args.text.now ≡ power_text c.args.prime j)) (λ k h e.
    let low : k < 1000 = omega (arith, h.1, c.requires) in
    let small : c.args.prime < 1000 = omega (arith, c.ranges.prime.fits) in
    let parts =
    number_before-same 94 c.in_ok-j.j k c.args.text.now c.in_ok-j.rest.now
    (decimal c.args.prime) refl c.in_ok-j.ensures.some.1 c.in_ok-j.ensures.some.0 low (ap (λ (t : List ℕ). drop 1 t) e) in
    c.in_err-number.ensures.none c.args.prime small parts.1)

pub returns-else-branch-from-clause-none : goal.returns-else-branch-from-clause-none
returns-else-branch-from-clause-none c = λ k h e.
    let low : k < 1000 = omega (arith, h.1, c.requires) in
    let small : c.args.prime < 1000 = omega (arith, c.ranges.prime.fits) in
    let parts =
    number_before-same 94 c.in_ok-j.j k c.args.text.now c.in_ok-j.rest.now
    (decimal c.args.prime) refl c.in_ok-j.ensures.some.1 c.in_ok-j.ensures.some.0 low (ap (λ (t : List ℕ). drop 1 t) e) in
    let same : c.in_ok-j.j ≡ k = parts.0 in
    let prime : c.in_ok-number.field-0 ≡ c.args.prime =
    number-same c.in_ok-number.field-0 c.args.prime c.in_ok-number.ensures.some.0 small (sym c.in_ok-number.ensures.some.1 ∙ parts.1) in
    elim c.else-branch-from.branch [
      | else-branch-from-via-then-branch-from+then-j-ge1+else-j-rank w ↦ omega (arith, w.if-j-rank.false, h.1)
      | else-branch-from-via-then-branch-from+else-j-ge1 w ↦ omega (arith, w.if-j-ge1.false, h.0)
      | else-branch-from-via-else-branch-from w ↦ omega (arith, w.if-branch-from.false, c.from.ensures)
    ]
