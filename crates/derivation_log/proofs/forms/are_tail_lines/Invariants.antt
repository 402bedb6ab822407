use Rattle.std.proofs.Common.{◌≡◌, true, take}
use Rattle.derivation_log.specs.CertificateForms.{are_tail_lines}
use Rattle.derivation_log.proofs.forms.are_tail_lines.Given as goal

-- the lines before this place may stand in a step
abbrev pub invariant-loop-place : goal.invariant-loop-place
invariant-loop-place l = are_tail_lines l.p l.n (take l.place l.lines) 1 (take l.place l.lines) ≡ true
