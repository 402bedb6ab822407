use Rattle.std.specs.Prelude.{codes}
use Rattle.pc_presentation.specs.declared.relation.Relation.TheVariants.{Commutator}
use Rattle.pc_presentation.specs.Relation.{IsRelation}
use Rattle.answer_text.specs.AnswerText.{commutator_text}
use Rattle.std.proofs.Common.{◌≡◌, ◌<◌, ℕ, List, [], ◌∷◌, ◌++◌, drop, decimal, refl, ap, sym, ◌∙◌, arith}
use Rattle.answer_text.proofs.texts.PieceTexts.{IfNone-of, number_before-same}
use Rattle.answer_text.proofs.pieces.commutator.Goals as goal
use Rattle.answer_text.proofs.pieces.commutator.Goals.{else-is_empty-via-else-is_empty, else-is_empty-via-then-is_empty+else-i-ge1}
use Rattle.answer_text.proofs.pieces.commutator.Goals.{else-is_empty-via-then-is_empty+then-i-ge1+else-i-j}
use Rattle.answer_text.proofs.pieces.commutator.Goals.{else-is_empty-via-then-is_empty+then-i-ge1+then-i-j+else-j-rank}

pub returns-in_err-behind-clause-none : goal.returns-in_err-behind-clause-none
returns-in_err-behind-clause-none c =
    IfNone-of _ ((j i : ℕ) → IsRelation c.args.rank (Commutator j i) → ¬ (codes "[a" ++ c.args.text.now ≡ commutator_text j i)) (λ k l h e.
    let low : k < 1000 = omega (arith, h.2, c.requires) in
    let parts =
    number_before-same 44 c.in_ok-j.j k c.args.text.now c.in_ok-j.rest.now
    (97 ∷ (decimal l ++ 93 ∷ [])) refl c.in_ok-j.ensures.some.1 c.in_ok-j.ensures.some.0 low (ap (λ (t : List ℕ). drop 2 t) e) in
    c.in_err-behind.ensures.none (decimal l ++ 93 ∷ []) parts.1)

pub returns-in_err-i-clause-none : goal.returns-in_err-i-clause-none
returns-in_err-i-clause-none c =
    IfNone-of _ ((j i : ℕ) → IsRelation c.args.rank (Commutator j i) → ¬ (codes "[a" ++ c.args.text.now ≡ commutator_text j i)) (λ k l h e.
    let low : k < 1000 = omega (arith, h.2, c.requires) in
    let less : l < 1000 = omega (arith, h.1, h.2, c.requires) in
    let parts =
    number_before-same 44 c.in_ok-j.j k c.args.text.now c.in_ok-j.rest.now
    (97 ∷ (decimal l ++ 93 ∷ [])) refl c.in_ok-j.ensures.some.1 c.in_ok-j.ensures.some.0 low (ap (λ (t : List ℕ). drop 2 t) e) in
    c.in_err-i.ensures.none l [] less (ap (λ (t : List ℕ). drop 1 t) (sym c.in_ok-behind.ensures.some ∙ parts.1)))

pub returns-else-is_empty-clause-none : goal.returns-else-is_empty-clause-none
returns-else-is_empty-clause-none c = λ k l h e.
    let low : k < 1000 = omega (arith, h.2, c.requires) in
    let less : l < 1000 = omega (arith, h.1, h.2, c.requires) in
    let parts =
    number_before-same 44 c.in_ok-j.j k c.args.text.now c.in_ok-j.rest.now
    (97 ∷ (decimal l ++ 93 ∷ [])) refl c.in_ok-j.ensures.some.1 c.in_ok-j.ensures.some.0 low (ap (λ (t : List ℕ). drop 2 t) e) in
    let first : c.in_ok-j.j ≡ k = parts.0 in
    let others =
    number_before-same 93 c.in_ok-i.i l c.in_ok-behind.field-0.now c.in_ok-i.rest.now
    [] refl c.in_ok-i.ensures.some.1 c.in_ok-i.ensures.some.0 less
    (ap (λ (t : List ℕ). drop 1 t) (sym c.in_ok-behind.ensures.some ∙ parts.1)) in
    let second : c.in_ok-i.i ≡ l = others.0 in
    elim c.else-is_empty.branch [
      | else-is_empty-via-then-is_empty+then-i-ge1+then-i-j+else-j-rank w ↦ omega (arith, w.if-j-rank.false, h.2)
      | else-is_empty-via-then-is_empty+then-i-ge1+else-i-j w ↦ omega (arith, w.if-i-j.false, h.1)
      | else-is_empty-via-then-is_empty+else-i-ge1 w ↦ omega (arith, w.if-i-ge1.false, h.0)
      | else-is_empty-via-else-is_empty w ↦ grind (arith, others.1, c.is_empty.ensures, w.if-is_empty.false)
    ]
