use Rattle.pc_presentation.specs.declared.overlap.Overlap.TheVariants.{Triple}
use Rattle.tails_by_weight.proofs.PushedLists.{pushed-map}
use Rattle.tails_by_weight.proofs.light_overlaps.push_triples_of.Goals as goal

pub loop-i-preserved : goal.loop-i-preserved
loop-i-preserved c =
    pushed-map (Triple c.args.k c.args.j) c.loop-i.i c.args.tests.now.items c.loop-i.tests.items c.push.new.self.items
    c.loop-i.invariant c.in_ok-push.ensures.items
