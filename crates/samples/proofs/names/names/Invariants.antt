use Rattle.std.proofs.Common.{◌≡◌, map}
use Rattle.pq_base.specs.Canonical.{numbers_from}
use Rattle.samples.proofs.SampleNames.{name_of_number}
use Rattle.samples.proofs.names.names.Given as goal

-- the names so far
abbrev pub invariant-loop-k : goal.invariant-loop-k
invariant-loop-k l = l.names.items ≡ map name_of_number (numbers_from 1 l.k)
