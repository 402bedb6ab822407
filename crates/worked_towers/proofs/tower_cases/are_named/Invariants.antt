use Rattle.std.proofs.Common.{take}
use Rattle.std.specs.List.{All}
use Rattle.tower.specs.NamedParts.{IsNamed}
use Rattle.worked_towers.proofs.tower_cases.are_named.Given as goal

-- the relators so far
abbrev pub invariant-loop-relator : goal.invariant-loop-relator
invariant-loop-relator l = All (IsNamed l.pres) (take l.relator-index l.relators)
