use Rattle.std.proofs.Common.{◌≡◌, ◌++◌, map}
use Rattle.pq_base.specs.Answer.{class_of}
use Rattle.pc_presentation.specs.Definition.{definition_of}
use Rattle.p_cover.specs.Wanted.{wanted}
use Rattle.tails_by_weight.specs.LightParts.{light_commutators}
use Rattle.tails_by_weight.proofs.sources.push_commutators.Given as goal

abbrev pub invariant-loop-k : goal.invariant-loop-k
invariant-loop-k l =
    map definition_of l.sources.items
    ≡ map definition_of l.initial.sources.items ++ wanted l.answer (class_of l.answer) l.qualifying (light_commutators l.answer l.k)
