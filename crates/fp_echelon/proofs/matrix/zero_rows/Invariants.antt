use Rattle.std.proofs.Common.{◌≡◌, replicate}
use Rattle.pq_base.specs.Prime.{prime_value}
use Rattle.pq_base.specs.Elementary.{zeros}
use Rattle.fp_echelon.proofs.matrix.zero_rows.Given as goal

abbrev pub invariant-loop-number : goal.invariant-loop-number
invariant-loop-number l = l.rows.items ≡ replicate l._number (record { prime = prime_value l.prime; entries = zeros l.width })
