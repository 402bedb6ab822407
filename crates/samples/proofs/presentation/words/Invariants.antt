use Rattle.std.proofs.Common.{◌≡◌, ◌+◌, ◌++◌, ℕ}
use Rattle.samples.specs.Samples.{drawn_words}
use Rattle.samples.proofs.presentation.words.Given as goal

-- the words so far and those that are still drawn are all
abbrev pub invariant-loop : goal.invariant-loop
invariant-loop l = (k : ℕ) → l.counter + k ≡ 30 → l.words.items ++ drawn_words k l.draws ≡ drawn_words 30 l.n
