use Rattle.std.proofs.Common.{◌≡◌, take}
use Rattle.pq_base.proofs.name.bytes_copied.Given as goal

-- the first bytes are copied
abbrev pub invariant-loop-b : goal.invariant-loop-b
invariant-loop-b l = l.copy.items ≡ take l.b-index l.bytes
