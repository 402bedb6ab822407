use Rattle.std.proofs.Common.{◌≡◌, ◌<◌, ◌-◌, ◌≤◌, []}
use Rattle.std.specs.Prelude.{◌⊎◌}
use Rattle.cert_text.specs.ReadSoFar.{first_lines, IsCanonical}
use Rattle.cert_text.proofs.presentation_lines.canonical_lines.Given as goal

-- the lines up to the first bound are canonical, and those up to the second aren't
abbrev pub invariant-loop-low : goal.invariant-loop-low
invariant-loop-low l = record {
  bounds : l.low ≤ l.high;
  order : (l.low < l.high) ⊎ (l.high ≡ 0);
  inside : l.high ≤ l.count;
  empty : l.high ≡ 0 → l.text ≡ [];
  low : (l.low ≡ 0) ⊎ IsCanonical (first_lines l.low l.text);
  high : ¬ IsCanonical (first_lines l.high l.text);
}

abbrev pub decreases-loop-low : goal.decreases-loop-low
decreases-loop-low l = l.high - l.low
