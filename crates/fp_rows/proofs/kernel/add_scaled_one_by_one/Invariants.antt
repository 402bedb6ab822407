use Rattle.std.proofs.Common.{◌≡◌, ◌++◌, take, drop}
use Rattle.fp_rows.specs.Rows.{add_scaled}
use Rattle.fp_rows.proofs.kernel.add_scaled_one_by_one.Given as goal

abbrev pub invariant-loop-i : goal.invariant-loop-i
invariant-loop-i l = l.xs ≡ take l.i (add_scaled l.fn.p l.k l.initial.xs l.ys) ++ drop l.i l.initial.xs
