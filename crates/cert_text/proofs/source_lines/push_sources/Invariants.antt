use Rattle.std.proofs.Common.{◌≡◌, ◌++◌, drop, map}
use Rattle.pq_base.specs.Lines.{text_of_lines}
use Rattle.cert_text.specs.CertificateText.{source_line}
use Rattle.cert_text.proofs.source_lines.push_sources.Given as goal

-- what is written, and the lines of the sources that are left, are all
abbrev pub invariant-loop-source : goal.invariant-loop-source
invariant-loop-source l = l.out.items ++ text_of_lines (map source_line (drop l.source-index l.sources)) ≡ l.initial.out.items
    ++ text_of_lines (map source_line l.sources)
