use Rattle.std.proofs.Common.{◌≡◌, map, take}
use Rattle.tower.specs.NamedParts.{recorded_source}
use Rattle.tower.proofs.relator.sources.Given as goal

-- the relators so far are recorded
abbrev pub invariant-loop-relator : goal.invariant-loop-relator
invariant-loop-relator l = l.sources.items ≡ map recorded_source (take l.relator-index l.relators)
