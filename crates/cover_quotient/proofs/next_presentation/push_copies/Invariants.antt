use Rattle.std.proofs.Common.{◌≡◌, ◌++◌, replicate}
use Rattle.cover_quotient.proofs.next_presentation.push_copies.Given as goal

abbrev pub invariant-loop : goal.invariant-loop
invariant-loop l = l.weights.items ≡ l.initial.weights.items ++ replicate l.counter l.weight
