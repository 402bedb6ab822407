use Rattle.std.proofs.Common.{◌∙◌}
use Rattle.cover_quotient.specs.NextAnswer.{combined_answer}
use Rattle.cover_quotient.proofs.next_answers.AcceptedRelations.{old-relation, nothing_against}
use Rattle.cover_quotient.proofs.next_presentation.give.Goals as goal

pub unreachable-requires : goal.unreachable-requires
unreachable-requires c =
    let A = combined_answer c.args.cover.now c.args.combinations.now in
    nothing_against A c.args.r (old-relation c.args.cover.now c.args.combinations.now c.args.r c.requires.relation) c.args.builder.now
    c.requires.awaited
    c.deref.result.now (c.deref.ensures.value ∙ c.in_ok-word.ensures) c.in-Err.refusal c.in-Err.ensures.refused c.in-OutOfRange.is
