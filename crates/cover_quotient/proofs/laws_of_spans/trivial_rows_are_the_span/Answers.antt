use Rattle.cover_quotient.proofs.spans.OverlapRows.{trivial_rows_are_the_span}
use Rattle.cover_quotient.proofs.laws_of_spans.trivial_rows_are_the_span.Goals as goal

pub returns : goal.returns
returns c = trivial_rows_are_the_span
