use Rattle.std.proofs.Common.{◌≡◌, ◌++◌}
use Rattle.tower.specs.SpunParts.{spun_relators}
use Rattle.tower.proofs.closing.relators_of.Given as goal

-- the relators of the names so far
abbrev pub invariant-loop-name : goal.invariant-loop-name
invariant-loop-name l =
    (l.yielded ++ l.name-iterator.rest.items ≡ l.fn.names.items)
    × (l.relators.items ≡ spun_relators l.yielded)
