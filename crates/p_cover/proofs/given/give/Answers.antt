use Rattle.std.proofs.Common.{ap, ◌∙◌}
use Rattle.pq_base.specs.Presentation.{Presentation}
use Rattle.pc_presentation.specs.Pcp.{side_word}
use Rattle.p_cover.proofs.NormalSides.{nothing_else_against}
use Rattle.p_cover.proofs.given.give.Goals as goal

pub unreachable-requires : goal.unreachable-requires
unreachable-requires c =
    nothing_else_against c.args.answer.now c.pcp.ensures.answer.presentation c.args.r c.requires.relation c.args.builder.now
    c.requires.draft c.args.tail
    c.requires.tail c.word.result.now
    (c.word.ensures ∙ ap (λ (P : Presentation). side_word P c.args.r) c.pcp.ensures.presentation)
    c.in-Err.refusal c.in-Err.ensures.refused c.in-OutOfRange.is
