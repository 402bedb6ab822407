use Rattle.std.proofs.Common.{◌≡◌, ◌++◌}
use Rattle.lpres_reader.specs.Recipes.{power_of}
use Rattle.lpres_reader.proofs.writing.push_power.Given as goal

-- so many copies stand at the end
abbrev pub invariant-loop : goal.invariant-loop
invariant-loop l = l.out.items ≡ l.initial.out.items ++ power_of l.inverted l.word l.counter
