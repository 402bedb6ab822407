use Rattle.std.proofs.Common.{◌≡◌, ◌++◌}
use Rattle.std.specs.List.{flat_map}
use Rattle.pq_base.specs.Canonical.{numbers_from}
use Rattle.tails_by_weight.specs.LightOverlaps.{light_triples_of}
use Rattle.tails_by_weight.proofs.light_overlaps.push_triples_with.Given as goal

abbrev pub invariant-loop-j : goal.invariant-loop-j
invariant-loop-j l = l.tests.items ≡ l.initial.tests.items ++ flat_map (light_triples_of l.answer l.k) (numbers_from 1 l.j)
