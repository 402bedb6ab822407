-- The law is the lemma of the same name.
use Rattle.certified_runs.proofs.CertifiedRuns.{images_make_maps}
use Rattle.certified_runs.proofs.laws.images_make_maps.Goals as goal

pub returns : goal.returns
returns c = images_make_maps
