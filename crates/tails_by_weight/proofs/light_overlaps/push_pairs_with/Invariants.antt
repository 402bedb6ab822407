use Rattle.std.proofs.Common.{◌≡◌, ◌++◌, map}
use Rattle.pq_base.specs.Canonical.{numbers_from}
use Rattle.tails_by_weight.specs.LightParts.{pair_of}
use Rattle.tails_by_weight.proofs.light_overlaps.push_pairs_with.Given as goal

abbrev pub invariant-loop-i : goal.invariant-loop-i
invariant-loop-i l = l.tests.items ≡ l.initial.tests.items ++ map (pair_of l.side l.j) (numbers_from 1 l.i)
