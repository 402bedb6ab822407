use Rattle.std.proofs.Common.{◌≡◌, ◌++◌, map}
use Rattle.pq_base.specs.Canonical.{numbers_from}
use Rattle.pc_presentation.specs.declared.overlap.Overlap.TheVariants.{Triple}
use Rattle.tails_by_weight.proofs.light_overlaps.push_triples_of.Given as goal

abbrev pub invariant-loop-i : goal.invariant-loop-i
invariant-loop-i l = l.tests.items ≡ l.initial.tests.items ++ map (Triple l.k l.j) (numbers_from 1 l.i)
