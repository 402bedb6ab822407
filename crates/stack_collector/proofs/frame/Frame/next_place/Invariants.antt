use Rattle.std.proofs.Common.{◌≡◌, ◌≤◌, ◌<◌, ◌-◌, ℕ, get_or}
use Rattle.stack_collector.proofs.frame.Frame.next_place.Given as goal

-- those before are 0
abbrev pub invariant-loop-place : goal.invariant-loop-place
invariant-loop-place l =
    (l.self.next ≤ l.place) × (l.place < l.self.end) × ((k : ℕ) → l.self.next ≤ k → k < l.place → get_or l.self.later k 0 ≡ 0)

abbrev pub decreases-loop-place : goal.decreases-loop-place
decreases-loop-place l = l.self.end - l.place
