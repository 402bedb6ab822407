use Rattle.std.proofs.Common.{◌≡◌, ◌≤◌, ◌+◌, ◌++◌, true, length, map}
use Rattle.pq_base.specs.Lines.{text_of_lines}
use Rattle.derivation_log.specs.CertificateForms.{are_sources_in}
use Rattle.cert_text.specs.CertificateText.{source_line}
use Rattle.cert_text.proofs.step_reading.read_sources.Given as goal

-- the lines of the sources that were read, and what is left, are the text
abbrev pub invariant-loop-sources : goal.invariant-loop-sources
invariant-loop-sources l = record {
  lines : l.fn.text ≡ text_of_lines (map source_line l.sources.items) ++ l.rest;
  named : are_sources_in l.fn.pres l.fn.run l.sources.items ≡ true;
  shorter : length l.sources.items + length l.rest ≤ length l.fn.text;
}

abbrev pub decreases-loop-sources : goal.decreases-loop-sources
decreases-loop-sources l = length l.rest
