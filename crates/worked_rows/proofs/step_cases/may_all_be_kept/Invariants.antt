use Rattle.std.proofs.Common.{◌≤◌, ℕ}
use Rattle.fp_echelon.specs.Reduced.{IsPivot}
use Rattle.worked_rows.proofs.KeptTails.{MayAt}
use Rattle.worked_rows.proofs.step_cases.may_all_be_kept.Given as goal

-- each column so far has a pivot or may be kept
abbrev pub invariant-loop-c : goal.invariant-loop-c
invariant-loop-c l = (t : ℕ) → 1 ≤ t → t ≤ l.c → ¬ IsPivot t l.basis.rows → MayAt l.cover t
