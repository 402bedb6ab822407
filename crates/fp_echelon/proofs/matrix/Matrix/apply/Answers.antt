use Rattle.std.proofs.Common.{subst}
use Rattle.pq_base.specs.Prime.{prime_value}
use Rattle.fp_rows.proofs.RowStorage.{prime_value-two}
use Rattle.fp_echelon.specs.Matrix.{IsMatrix}
use Rattle.fp_echelon.proofs.MatrixStorage.{IsMatrix-held}
use Rattle.fp_echelon.proofs.matrix.Matrix.apply.Goals as goal

pub returns-clause-matrix : goal.returns-clause-matrix
returns-clause-matrix c =
    subst IsMatrix c.self.view_is
    (IsMatrix-held (prime_value c.self.inside.prime) c.self.inside.width c.self.inside.rows.items
    (prime_value-two c.self.inside.prime) c.self.invariant)
