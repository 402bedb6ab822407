use Rattle.std.proofs.Common.{◌≡◌, ◌++◌, drop, map}
use Rattle.pq_base.specs.Lines.{text_of_lines}
use Rattle.cert_text.specs.CertificateText.{tail_line}
use Rattle.cert_text.proofs.tail_lines.push_tails.Given as goal

-- what is written, and the lines of the tails that are left, are all
abbrev pub invariant-loop-line : goal.invariant-loop-line
invariant-loop-line l = l.out.items ++ text_of_lines (map tail_line (drop l.line-index l.lines)) ≡ l.initial.out.items
    ++ text_of_lines (map tail_line l.lines)
