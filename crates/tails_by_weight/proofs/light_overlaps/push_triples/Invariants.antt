use Rattle.std.proofs.Common.{◌≡◌, ◌++◌}
use Rattle.std.specs.List.{flat_map}
use Rattle.pq_base.specs.Canonical.{numbers_from}
use Rattle.tails_by_weight.specs.LightOverlaps.{light_triples_with}
use Rattle.tails_by_weight.proofs.light_overlaps.push_triples.Given as goal

abbrev pub invariant-loop-k : goal.invariant-loop-k
invariant-loop-k l = l.tests.items ≡ l.initial.tests.items ++ flat_map (light_triples_with l.answer) (numbers_from 1 l.k)
