use Rattle.std.proofs.Common.{◌≤◌, ◌-◌, take, length}
use Rattle.fp_rows.specs.Row.{IsZeroRow}
use Rattle.fp_rows.proofs.kernel.is_zero_by_lanes.Given as goal

abbrev pub invariant-loop-i : goal.invariant-loop-i
invariant-loop-i l = (l.i ≤ length l.xs) × IsZeroRow (take l.i l.xs)

abbrev pub decreases-loop-i : goal.decreases-loop-i
decreases-loop-i l = l.last - l.i
