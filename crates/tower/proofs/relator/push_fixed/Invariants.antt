use Rattle.std.proofs.Common.{◌≡◌, ◌++◌, map}
use Rattle.pq_base.specs.Canonical.{numbers_from}
use Rattle.tower.specs.declared.relator.Relator.TheVariants.{Fixed}
use Rattle.tower.proofs.relator.push_fixed.Given as goal

-- the relators of the numbers so far were put at the end
abbrev pub invariant-loop-i : goal.invariant-loop-i
invariant-loop-i l = l.relators.items ≡ l.initial.relators.items ++ map Fixed (numbers_from 1 l.i)
