use Rattle.std.proofs.Common.{◌<◌, ◌≤◌, ◌-◌, ℕ, length}
use Rattle.derivation_log.proofs.NextTailLines.{tail_at}
use Rattle.derivation_log.proofs.forms.has_line.Given as goal

-- the tails before the first bound are below t, and those from the second on are above it
abbrev pub invariant-loop-low : goal.invariant-loop-low
invariant-loop-low l = record {
  bounds : l.high ≤ length l.lines;
  below : (i : ℕ) → i < l.low → tail_at l.lines i < l.t;
  above : (i : ℕ) → l.high ≤ i → i < length l.lines → l.t < tail_at l.lines i;
}

abbrev pub decreases-loop-low : goal.decreases-loop-low
decreases-loop-low l = l.high - l.low
