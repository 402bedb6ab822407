use Rattle.std.proofs.Common.{◌≡◌, ◌++◌, map}
use Rattle.pq_base.specs.Canonical.{numbers_from}
use Rattle.pc_presentation.specs.declared.overlap.Overlap.TheVariants.{Own}
use Rattle.tails_by_weight.proofs.light_overlaps.push_owns.Given as goal

abbrev pub invariant-loop-i : goal.invariant-loop-i
invariant-loop-i l = l.tests.items ≡ l.initial.tests.items ++ map Own (numbers_from 1 l.i)
