use Rattle.std.proofs.Common.{ℕ, List, ap, ◌∙◌}
use Rattle.pq_base.specs.Prime.{prime_value}
use Rattle.pq_base.specs.Elementary.{zeros}
use Rattle.fp_rows.specs.Row.{PrimeRow}
use Rattle.fp_rows.proofs.RowStorage.{prime_value-pos}
use Rattle.fp_echelon.specs.Matrix.{entries_of}
use Rattle.fp_echelon.proofs.MatrixStorage.{HoldsMatrix-new, entries_of-replicate}
use Rattle.fp_echelon.proofs.matrix.Matrix.new.Goals as goal

pub invariant_of-result : goal.invariant_of-result
invariant_of-result c =
    HoldsMatrix-new (prime_value c.args.prime) c.args.width c.in_ok-zero_rows.field-0.items
    (prime_value-pos c.args.prime) c.in_ok-zero_rows.ensures

pub returns : goal.returns
returns c =
    let zero_row : PrimeRow = record { prime = prime_value c.args.prime; entries = zeros c.args.width } in
    ap (λ (l : List (List ℕ)). record { prime = prime_value c.args.prime; width = c.args.width; rows = l })
    (ap entries_of c.in_ok-zero_rows.ensures ∙ entries_of-replicate c.args.width zero_row)
