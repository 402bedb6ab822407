-- The law is the lemma of the same name.
use Rattle.valid_certificates.proofs.LineBases.{lines_have_bases}
use Rattle.valid_certificates.proofs.laws.lines_have_bases.Goals as goal

pub returns : goal.returns
returns c = lines_have_bases
