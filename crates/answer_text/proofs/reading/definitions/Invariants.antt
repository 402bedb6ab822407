use Rattle.std.proofs.Common.{map, take}
use Rattle.pc_presentation.specs.Definition.{definition_of}
use Rattle.answer_text.specs.Sources.{AreResolved}
use Rattle.answer_text.proofs.reading.definitions.Given as goal

-- the definitions so far are those of the sources so far
abbrev pub invariant-loop-source : goal.invariant-loop-source
invariant-loop-source l = AreResolved l.names (take l.source-index l.sources) (map definition_of l.definitions.items)
