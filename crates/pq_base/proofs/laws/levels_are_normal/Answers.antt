use Rattle.pq_base.proofs.SeriesLaws as SeriesLaws
use Rattle.pq_base.proofs.laws.levels_are_normal.Goals as goal

pub returns : goal.returns
returns c = SeriesLaws.levels_are_normal
