-- The span of no rows holds the row of zeros alone, so each matrix carries it into itself.
use Rattle.std.proofs.Common.{◌≡◌, ℕ, zero, suc, ◌<◌, [], ◌∷◌, subst, arith}
use Rattle.fp_echelon.specs.Span.{AreRows}
use Rattle.fp_echelon.specs.Matrix.{PrimeMatrix, IsMatrix}
use Rattle.fp_echelon.proofs.MatrixLaws.{matrices_carry_spans}
use Rattle.relator_spin.specs.Closure.{IsClosed}

pub no_rows-closed : (p width : ℕ) (m : PrimeMatrix) → IsMatrix m → m.prime ≡ p → m.width ≡ width → IsClosed p width (m ∷ []) []
no_rows-closed p width m is prime wide zero l =
    let big = is.prime in
    let some : 0 < p = omega (arith, prime) in
    matrices_carry_spans p width m.rows [] [] some
    (subst (λ (q : ℕ). AreRows q width m.rows) prime (subst (λ (w : ℕ). AreRows m.prime w m.rows) wide is.rows)) tt tt tt
no_rows-closed p width m is prime wide (suc e) l = absurd (omega (arith, l))
