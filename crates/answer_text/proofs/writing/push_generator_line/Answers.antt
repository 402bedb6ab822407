use Rattle.std.proofs.Common.{append_assoc}
use Rattle.answer_text.proofs.writing.push_generator_line.Goals as goal

pub returns : goal.returns
returns c =
    rw (
      c.in_ok-push.ensures.items,
      c.in_ok-push_definition.ensures,
      c.in_ok-extend_from_slice-3.ensures.items,
      c.in_ok-push_number.ensures,
      c.from.ensures,
      c.in_ok-extend_from_slice-2.ensures.items,
      c.in_ok-push_generator.ensures,
      c.in_ok-extend_from_slice.ensures.items,
    )
    (simp append_assoc)
