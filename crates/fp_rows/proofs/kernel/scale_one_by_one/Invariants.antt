use Rattle.std.proofs.Common.{◌≡◌, ◌++◌, take, drop}
use Rattle.fp_rows.specs.Rows.{scale_row}
use Rattle.fp_rows.proofs.kernel.scale_one_by_one.Given as goal

abbrev pub invariant-loop-i : goal.invariant-loop-i
invariant-loop-i l = l.xs ≡ take l.i (scale_row l.fn.p l.k l.initial.xs) ++ drop l.i l.initial.xs
