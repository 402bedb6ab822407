-- The law is the lemma of the same name.
use Rattle.tails_by_weight.proofs.LightSpans.{light_overlaps_span_all}
use Rattle.tails_by_weight.proofs.laws.light_overlaps_span_all.Goals as goal

pub returns : goal.returns
returns c = light_overlaps_span_all
