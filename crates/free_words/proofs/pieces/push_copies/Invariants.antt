use Rattle.std.proofs.Common.{◌≡◌, ◌++◌}
use Rattle.pq_base.specs.SignedWord.{copies}
use Rattle.free_words.proofs.pieces.push_copies.Given as goal

-- so many copies stand at the end
abbrev pub invariant-loop : goal.invariant-loop
invariant-loop l = l.out.items ≡ l.initial.out.items ++ copies l.word l.counter
