use Rattle.std.proofs.Common.{◌≡◌, map}
use Rattle.pq_base.specs.Answer.Definition.{image}
use Rattle.pq_base.specs.Canonical.{numbers_from}
use Rattle.pc_presentation.specs.Definition.{definition_of}
use Rattle.p_cover.specs.Sources.{place_in}
use Rattle.p_cover.proofs.image_tails.image_tails.Given as goal

abbrev pub invariant-loop-k : goal.invariant-loop-k
invariant-loop-k l = l.tails.items ≡ map (λ i. place_in (map definition_of l.sources) (image i)) (numbers_from 1 l.k)
