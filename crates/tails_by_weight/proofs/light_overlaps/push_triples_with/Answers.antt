use Rattle.tails_by_weight.specs.LightOverlaps.{light_triples_of}
use Rattle.tails_by_weight.proofs.PushedLists.{pushed-flat_map}
use Rattle.tails_by_weight.proofs.light_overlaps.push_triples_with.Goals as goal

pub loop-j-preserved : goal.loop-j-preserved
loop-j-preserved c =
    pushed-flat_map (light_triples_of c.args.answer.now c.args.k) c.loop-j.j c.args.tests.now.items
    c.loop-j.tests.items c.push_triples_of.new.tests.items c.loop-j.invariant c.in_ok-push_triples_of.ensures
