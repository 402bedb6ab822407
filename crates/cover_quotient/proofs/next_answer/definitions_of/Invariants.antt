use Rattle.std.proofs.Common.{◌≡◌, map, take}
use Rattle.pc_presentation.specs.Definition.{definition_of}
use Rattle.cover_quotient.proofs.next_answer.definitions_of.Given as goal

abbrev pub invariant-loop-k : goal.invariant-loop-k
invariant-loop-k l = map definition_of l.definitions.items ≡ take l.k l.answer.definitions
