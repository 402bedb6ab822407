use Rattle.std.proofs.Common.{◌≡◌, ◌≤◌, ◌-◌, ◌++◌, take, drop, length}
use Rattle.fp_rows.specs.Rows.{add_scaled}
use Rattle.fp_rows.proofs.kernel.add_scaled_by_lanes.Given as goal

abbrev pub invariant-loop-i : goal.invariant-loop-i
invariant-loop-i l = (l.i ≤ length l.fn.xs) × (l.xs ≡ take l.i (add_scaled l.fn.p l.fn.k l.fn.xs l.fn.ys) ++ drop l.i l.fn.xs)

abbrev pub decreases-loop-i : goal.decreases-loop-i
decreases-loop-i l = l.last - l.i
