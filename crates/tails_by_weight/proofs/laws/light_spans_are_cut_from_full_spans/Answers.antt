-- The law is the lemma of the same name.
use Rattle.tails_by_weight.proofs.LightSpans.{light_spans_are_cut_from_full_spans}
use Rattle.tails_by_weight.proofs.laws.light_spans_are_cut_from_full_spans.Goals as goal

pub returns : goal.returns
returns c = light_spans_are_cut_from_full_spans
