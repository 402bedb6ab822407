use Rattle.std.proofs.Common.{sym, subst}
use Rattle.std.specs.Str.{IsUtf8}
use Rattle.answer_text.proofs.texts.NameTexts.{IsUtf8-name}
use Rattle.answer_text.proofs.values.name_value.Goals as goal

pub unreachable-requires : goal.unreachable-requires
unreachable-requires c =
    c.in-Err.ensures.cases.0 (subst IsUtf8 (sym c.bytes.ensures.value) (IsUtf8-name c.args.name.now c.bytes.ensures.name))
