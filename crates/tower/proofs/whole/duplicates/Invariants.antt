use Rattle.std.proofs.Common.{◌≡◌, take}
use Rattle.tower.proofs.whole.duplicates.Given as goal

-- the relators so far are copied
abbrev pub invariant-loop-relator : goal.invariant-loop-relator
invariant-loop-relator l = l.copies.items ≡ take l.relator-index l.relators
