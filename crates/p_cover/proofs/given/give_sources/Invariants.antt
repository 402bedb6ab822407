use Rattle.std.proofs.Common.{map}
use Rattle.pc_presentation.specs.Definition.{definition_of}
use Rattle.p_cover.specs.Given.{IsBegun}
use Rattle.p_cover.proofs.given.give_sources.Given as goal

abbrev pub invariant-loop-k : goal.invariant-loop-k
invariant-loop-k l = IsBegun l.answer (map definition_of l.sources) l.k l.builder
