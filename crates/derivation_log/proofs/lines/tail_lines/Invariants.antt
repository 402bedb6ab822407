use Rattle.std.proofs.Common.{◌≡◌}
use Rattle.derivation_log.specs.HeldLines.{tail_lines}
use Rattle.derivation_log.proofs.lines.tail_lines.Given as goal

-- the lines of the columns so far
abbrev pub invariant-loop-c : goal.invariant-loop-c
invariant-loop-c l = l.lines.items ≡ tail_lines l.basis.prime l.c l.basis.rows
