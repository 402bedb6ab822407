use Rattle.std.proofs.Common.{◌≡◌, ◌++◌, codes, drop}
use Rattle.lpres_reader.specs.CanonicalText.{preceded}
use Rattle.lpres_reader.proofs.canonical.push_generators.Given as goal

-- what is written, and the names that are left, are all
abbrev pub invariant-loop-name : goal.invariant-loop-name
invariant-loop-name l =
    l.out.items ++ preceded (codes " ") (drop l.name-index l.names) ≡ l.initial.out.items ++ preceded (codes " ") l.names
