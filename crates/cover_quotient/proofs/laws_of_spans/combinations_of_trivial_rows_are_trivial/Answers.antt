use Rattle.cover_quotient.proofs.spans.TrivialRows.{combinations_of_trivial_rows_are_trivial}
use Rattle.cover_quotient.proofs.laws_of_spans.combinations_of_trivial_rows_are_trivial.Goals as goal

pub returns : goal.returns
returns c = combinations_of_trivial_rows_are_trivial
