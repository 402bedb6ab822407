use Rattle.std.proofs.Common.{◌+◌}
use Rattle.pc_presentation.specs.declared.relation.Relation.TheVariants.{Power}
use Rattle.answer_text.proofs.texts.SyllableTexts.{AreExponents-right_side}
use Rattle.answer_text.proofs.writing.push_powers.Goals as goal

pub push_power_relation-requires : goal.push_power_relation-requires
push_power_relation-requires c =
    AreExponents-right_side c.pcp-in-loop-k.result.now.presentation (Power (c.loop-k.k + 1)) c.word.result.now c.word.ensures
