use Rattle.std.proofs.Common.{◌≡◌, string_bytes}
use Rattle.samples.specs.Summary.{factors_text}
use Rattle.samples.proofs.summaries.factors.Given as goal

-- the numbers so far
abbrev pub invariant-loop-k : goal.invariant-loop-k
invariant-loop-k l = string_bytes l.text ≡ factors_text l.k l.answer.weights
