use Rattle.std.proofs.Common.{◌≡◌, ◌++◌, map}
use Rattle.pq_base.specs.Answer.{class_of}
use Rattle.pq_base.specs.Answer.Definition.{commutator}
use Rattle.pq_base.specs.Canonical.{numbers_from}
use Rattle.pc_presentation.specs.Definition.{definition_of}
use Rattle.p_cover.specs.Wanted.{wanted}
use Rattle.p_cover.proofs.want.push_commutators_of.Given as goal

abbrev pub invariant-loop-k : goal.invariant-loop-k
invariant-loop-k l =
    map definition_of l.sources.items
    ≡ map definition_of l.initial.sources.items
    ++ wanted l.answer (class_of l.answer) l.qualifying (map (λ i. commutator l.j i) (numbers_from 1 l.k))
