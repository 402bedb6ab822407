use Rattle.std.proofs.Common.{◌≡◌, drop}
use Rattle.pq_base.specs.Canonical.{is_among}
use Rattle.pc_presentation.specs.Definition.{definition_of}
use Rattle.p_cover.proofs.want.is_definition.Given as goal

abbrev pub invariant-loop-k : goal.invariant-loop-k
invariant-loop-k l =
    is_among (definition_of l.source) (drop l.k l.answer.definitions) ≡ is_among (definition_of l.source) l.answer.definitions
