use Rattle.std.proofs.Common.{◌≡◌, take}
use Rattle.cover_quotient.specs.Kept.{kept_columns, kept_rows}
use Rattle.class_step.proofs.kept.kept_combinations.Given as goal

abbrev pub invariant-loop-t : goal.invariant-loop-t
invariant-loop-t l = l.combinations ≡ record {
  prime = l.basis.prime;
  kept = kept_columns l.basis.width l.basis.rows;
  rows = take l.t (kept_rows l.basis.prime l.basis.width l.basis.rows);
}
