use Rattle.std.proofs.Common.{◌≤◌, ◌+◌, length}
use Rattle.pq_base.specs.Prime.{prime_value}
use Rattle.pc_presentation.specs.Parts.{words_of}
use Rattle.answer_text.specs.Drafts.{so_far}
use Rattle.answer_text.specs.BodyRead.{IsBodyRead}
use Rattle.answer_text.proofs.body_reading.read_body.Given as goal

-- each line has a byte at least, and the lines that were read, and what is left, are the text
abbrev pub invariant-loop-line : goal.invariant-loop-line
invariant-loop-line l = record {
  bytes : l.number + length l.rest ≤ l.head.rank + 5 + length l.fn.text;
  read : IsBodyRead (prime_value l.head.prime) l.head.rank l.initial.body.builder.built.weights l.fn.text l.rest l.number
      (so_far l.body.builder l.body.last l.body.names.items (words_of l.body.images.items));
}

abbrev pub decreases-loop-line : goal.decreases-loop-line
decreases-loop-line l = length l.rest
