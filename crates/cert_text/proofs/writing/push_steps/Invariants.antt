use Rattle.std.proofs.Common.{◌≡◌, ◌++◌, drop}
use Rattle.pq_base.specs.Lines.{text_of_lines}
use Rattle.cert_text.specs.CertificateText.{steps_lines}
use Rattle.cert_text.proofs.writing.push_steps.Given as goal

-- what is written, and the lines of the steps that are left, are all
abbrev pub invariant-loop-place : goal.invariant-loop-place
invariant-loop-place l = l.out.items ++ text_of_lines (steps_lines l.place (drop l.place l.steps)) ≡ l.initial.out.items
    ++ text_of_lines (steps_lines 0 l.steps)
