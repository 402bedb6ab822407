use Rattle.std.proofs.Common.{◌≡◌, length}
use Rattle.fp_echelon.proofs.MatrixStorage.{first_multiples}
use Rattle.fp_echelon.proofs.matrix.add_multiples.Given as goal

abbrev pub invariant-loop-place : goal.invariant-loop-place
invariant-loop-place l =
    l.out ≡ record { prime = l.row.prime; entries = first_multiples l.row.prime (length l.row.entries) l.rows l.row.entries l.place }
