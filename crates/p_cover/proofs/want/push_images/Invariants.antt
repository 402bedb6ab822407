use Rattle.std.proofs.Common.{◌≡◌, ◌++◌, map, false}
use Rattle.pq_base.specs.Answer.{class_of}
use Rattle.pq_base.specs.Canonical.{all_images}
use Rattle.pc_presentation.specs.Definition.{definition_of}
use Rattle.p_cover.specs.Wanted.{wanted}
use Rattle.p_cover.proofs.want.push_images.Given as goal

abbrev pub invariant-loop-k : goal.invariant-loop-k
invariant-loop-k l =
    map definition_of l.sources.items
    ≡ map definition_of l.initial.sources.items ++ wanted l.answer (class_of l.answer) false (all_images l.k)
