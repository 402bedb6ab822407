use Rattle.pq_base.proofs.SeriesLaws as SeriesLaws
use Rattle.pq_base.proofs.laws.classes_grow.Goals as goal

pub returns : goal.returns
returns c = SeriesLaws.classes_grow
