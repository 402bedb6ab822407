use Rattle.std.proofs.Common.{◌≡◌, ◌++◌, map, take}
use Rattle.pc_presentation.specs.Definition.{definition_of}
use Rattle.cover_quotient.specs.NextAnswer.{sources_at}
use Rattle.cover_quotient.proofs.next_answer.push_sources.Given as goal

abbrev pub invariant-loop-k : goal.invariant-loop-k
invariant-loop-k l =
    map definition_of l.definitions.items ≡ map definition_of l.initial.definitions.items ++ sources_at (take l.k l.tails) l.cover.sources
