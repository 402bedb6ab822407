use Rattle.std.proofs.Common.{◌≡◌, ◌-◌, ◌<◌, [], ℕ, get_or, sym, subst, ap, arith}
use Rattle.pq_base.specs.Prime.{prime_value}
use Rattle.fp_rows.proofs.RowStorage.{prime_value-two}
use Rattle.fp_echelon.specs.Matrix.{PrimeMatrix, IsMatrix}
use Rattle.fp_echelon.proofs.MatrixStorage.{row-held, IsMatrix-held}
use Rattle.fp_echelon.proofs.matrix.Matrix.row.Goals as goal

pub returns-clause-row : goal.returns-clause-row
returns-clause-row c =
    let last : c.args.number - 1 < c.self.inside.width =
    subst (λ (n : ℕ). c.args.number - 1 < n) (sym (ap (λ (m : PrimeMatrix). m.width) c.self.view_is))
    (omega (arith, c.requires.first, c.requires.last)) in
    subst (λ (m : PrimeMatrix). c.index.result.now ≡ record { prime = m.prime; entries = get_or m.rows (c.args.number - 1) [] })
    c.self.view_is
    (row-held (prime_value c.self.inside.prime) c.self.inside.width c.self.inside.rows.items (c.args.number - 1) c.index.result.now last
    c.self.invariant c.index.ensures)

pub returns-clause-matrix : goal.returns-clause-matrix
returns-clause-matrix c =
    subst IsMatrix c.self.view_is
    (IsMatrix-held (prime_value c.self.inside.prime) c.self.inside.width c.self.inside.rows.items
    (prime_value-two c.self.inside.prime) c.self.invariant)
