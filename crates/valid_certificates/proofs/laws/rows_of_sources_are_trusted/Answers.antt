-- The law is the lemma of the same name.
use Rattle.valid_certificates.proofs.SourceRows.{rows_of_sources_are_trusted}
use Rattle.valid_certificates.proofs.laws.rows_of_sources_are_trusted.Goals as goal

pub returns : goal.returns
returns c = rows_of_sources_are_trusted
