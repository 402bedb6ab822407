use Rattle.std.proofs.Common.{◌≡◌, ◌≤◌, ◌-◌, ◌++◌, take, drop, length}
use Rattle.cert_text.specs.ReadSoFar.{first_lines}
use Rattle.cert_text.proofs.presentation_lines.first_lines.Given as goal

-- what was passed, and the first of the lines that are left, are the first lines
abbrev pub invariant-loop-left : goal.invariant-loop-left
invariant-loop-left l = record {
  bounds : l.at ≤ length l.text;
  lines : take l.at l.text ++ first_lines l.left (drop l.at l.text) ≡ first_lines l.count l.text;
}

abbrev pub decreases-loop-left : goal.decreases-loop-left
decreases-loop-left l = length l.text - l.at
