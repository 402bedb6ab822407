use Rattle.std.proofs.Common.{◌≡◌, ◌≤◌, ◌+◌, ◌++◌, length}
use Rattle.pq_base.specs.Prime.{prime_value}
use Rattle.pq_base.specs.Lines.{text_of_lines}
use Rattle.answer_text.specs.ReadSoFar.{source_lines, AreSources}
use Rattle.answer_text.proofs.generator_reading.read_generators.Given as goal

-- the lines that were read, and what is left, are the text
abbrev pub invariant-loop-k : goal.invariant-loop-k
invariant-loop-k l = record {
  weights : length l.weights.items ≡ l.k;
  sources : length l.sources.items ≡ l.k;
  shorter : length l.rest + l.k ≤ length l.fn.text;
  legible : AreSources l.head.rank l.weights.items l.sources.items;
  lines : l.fn.text ≡ text_of_lines (source_lines (prime_value l.head.prime) 0 l.weights.items l.sources.items) ++ l.rest;
}
