use Rattle.std.proofs.Common.{◌≡◌, ◌≤◌, ℕ, List, OnOk, length, subst, arith}
use Rattle.answer_text.specs.AnswerText.{commutator_text}
use Rattle.answer_text.proofs.lines.NextLines.{relation-written}
use Rattle.answer_text.proofs.writing.push_commutator_relation.Goals as goal

pub returns : goal.returns
returns c =
    let some : 1 ≤ length c.args.word.now = grind (arith, c.is_empty.ensures, c.if-is_empty.false) in
    let left = commutator_text c.args.j c.args.i in
    subst (λ (t : List ℕ). OnOk c.push_right_side.result (c.push_right_side.new.out.items ≡ t))
    (relation-written _ _ _ left _ c.in_ok-extend_from_slice.ensures.items c.in_ok-push_commutator.ensures some)
    c.push_right_side.ensures
