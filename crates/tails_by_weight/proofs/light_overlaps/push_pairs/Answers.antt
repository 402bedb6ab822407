use Rattle.tails_by_weight.specs.LightOverlaps.{light_pairs_with}
use Rattle.tails_by_weight.specs.LightParts.{pair_of}
use Rattle.tails_by_weight.proofs.PushedLists.{pushed-flat_map}
use Rattle.tails_by_weight.proofs.light_overlaps.push_pairs.Goals as goal

pub loop-j-preserved : goal.loop-j-preserved
loop-j-preserved c =
    pushed-flat_map (light_pairs_with (pair_of c.args.side) c.args.answer.now) c.loop-j.j c.args.tests.now.items
    c.loop-j.tests.items c.push_pairs_with.new.tests.items c.loop-j.invariant c.in_ok-push_pairs_with.ensures
