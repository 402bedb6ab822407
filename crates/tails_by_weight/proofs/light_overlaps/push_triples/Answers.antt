use Rattle.tails_by_weight.specs.LightOverlaps.{light_triples_with}
use Rattle.tails_by_weight.proofs.PushedLists.{pushed-flat_map}
use Rattle.tails_by_weight.proofs.light_overlaps.push_triples.Goals as goal

pub loop-k-preserved : goal.loop-k-preserved
loop-k-preserved c =
    pushed-flat_map (light_triples_with c.args.answer.now) c.loop-k.k c.args.tests.now.items
    c.loop-k.tests.items c.push_triples_with.new.tests.items c.loop-k.invariant c.in_ok-push_triples_with.ensures
