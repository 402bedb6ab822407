use Rattle.std.proofs.Common.{◌≡◌, length}
use Rattle.p_cover.specs.Covers.{all_sources}
use Rattle.worked_rows.proofs.step_cases.basis_of.Given as goal

abbrev pub invariant-loop-row : goal.invariant-loop-row
invariant-loop-row l = record {
  prime : l.basis.prime ≡ l.answer.presentation.prime;
  width : l.basis.width ≡ length (all_sources l.answer);
}
