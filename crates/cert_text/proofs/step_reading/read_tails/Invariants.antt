use Rattle.std.proofs.Common.{◌≡◌, ◌≤◌, ◌+◌, ◌++◌, true, length, map}
use Rattle.pq_base.specs.Lines.{text_of_lines}
use Rattle.pq_base.specs.Prime.{prime_value}
use Rattle.derivation_log.specs.CertificateForms.{are_tail_lines}
use Rattle.cert_text.specs.CertificateText.{tail_line}
use Rattle.cert_text.proofs.step_reading.read_tails.Given as goal

-- the lines of the tails that were read, and what is left, are the text
abbrev pub invariant-loop-tails : goal.invariant-loop-tails
invariant-loop-tails l = record {
  lines : l.fn.text ≡ text_of_lines (map tail_line l.tails.items) ++ l.rest;
  tails : are_tail_lines (prime_value l.fn.prime) l.fn.n l.tails.items 1 l.tails.items ≡ true;
  shorter : length l.tails.items + length l.rest ≤ length l.fn.text;
}

abbrev pub decreases-loop-tails : goal.decreases-loop-tails
decreases-loop-tails l = length l.rest
