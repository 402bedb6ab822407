use Rattle.std.proofs.Common.{◌≡◌, ◌≤◌, take}
use Rattle.samples.specs.Summary.{count_of}
use Rattle.samples.proofs.summaries.count_of.Given as goal

-- how many there are so far
abbrev pub invariant-loop-i : goal.invariant-loop-i
invariant-loop-i l = (l.count ≡ count_of l.k (take l.i l.pcp.weights)) × (l.count ≤ l.i)
