use Rattle.fp_echelon.proofs.SpanTheorems as theorem
use Rattle.fp_echelon.proofs.laws.rows_of_the_span_reduce_to_zero.Goals as goal

pub returns : goal.returns
returns c = theorem.rows_of_the_span_reduce_to_zero
