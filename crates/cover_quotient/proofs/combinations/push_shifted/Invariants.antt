use Rattle.std.proofs.Common.{◌≡◌, ◌++◌, map, take}
use Rattle.cover_quotient.specs.NextParts.{shifted}
use Rattle.cover_quotient.proofs.combinations.push_shifted.Given as goal

abbrev pub invariant-loop-k : goal.invariant-loop-k
invariant-loop-k l = l.word.items ≡ l.initial.word.items ++ map (shifted l.by) (take l.k l.end)
