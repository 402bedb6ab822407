use Rattle.std.proofs.Common.{sym, ◌∙◌}
use Rattle.answer_text.proofs.lines.AnswerLines.{answer_text-parts, written_parts}
use Rattle.answer_text.proofs.writing.text.Goals as goal

pub returns : goal.returns
returns c =
    written_parts _ _ _ _ _ _ _ _ _ _ _ _ _ c.new-out.ensures.items c.in_ok-push_head.ensures c.in_ok-push_generators.ensures
    c.in_ok-push_powers.ensures
    c.in_ok-push_commutators.ensures c.in_ok-push_images.ensures c.in_ok-extend_from_slice.ensures.items
    ∙ sym (answer_text-parts c.args.answer.now)
