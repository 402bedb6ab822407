use Rattle.std.proofs.Common.{◌≡◌, ◌+◌, ◌++◌, ℕ}
use Rattle.samples.specs.Samples.{number_after, drawn_word}
use Rattle.samples.proofs.draws.Draws.word.Given as goal

-- the letters so far with those that are still drawn are the word, and its last number comes last
abbrev pub invariant-loop : goal.invariant-loop
invariant-loop l = (k : ℕ) → l.counter + k ≡ 200
    → (l.letters.items ++ drawn_word k l.self ≡ drawn_word 200 l.initial.self) × (number_after k l.self ≡ number_after 200 l.initial.self)
