use Rattle.std.proofs.Common.{◌≡◌, ◌++◌, map}
use Rattle.pq_base.specs.Canonical.{numbers_from}
use Rattle.tower.specs.NamedParts.{iterated_at}
use Rattle.tower.proofs.relator.push_iterated.Given as goal

-- the relators of the numbers so far were put at the end
abbrev pub invariant-loop-i : goal.invariant-loop-i
invariant-loop-i l = l.relators.items ≡ l.initial.relators.items ++ map iterated_at (numbers_from 1 l.i)
