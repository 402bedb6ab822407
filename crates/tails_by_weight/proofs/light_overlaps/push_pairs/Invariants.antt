use Rattle.std.proofs.Common.{◌≡◌, ◌++◌}
use Rattle.std.specs.List.{flat_map}
use Rattle.pq_base.specs.Canonical.{numbers_from}
use Rattle.tails_by_weight.specs.LightOverlaps.{light_pairs_with}
use Rattle.tails_by_weight.specs.LightParts.{pair_of}
use Rattle.tails_by_weight.proofs.light_overlaps.push_pairs.Given as goal

abbrev pub invariant-loop-j : goal.invariant-loop-j
invariant-loop-j l = l.tests.items ≡ l.initial.tests.items ++ flat_map (light_pairs_with (pair_of l.side) l.answer) (numbers_from 1 l.j)
