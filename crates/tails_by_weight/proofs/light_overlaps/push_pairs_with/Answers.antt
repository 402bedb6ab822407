use Rattle.std.proofs.Common.{[], ◌∷◌, ◌++◌, ap, ◌∙◌}
use Rattle.pc_presentation.specs.declared.overlap.Overlap.{Overlap}
use Rattle.tails_by_weight.specs.LightParts.{pair_of}
use Rattle.tails_by_weight.proofs.PushedLists.{pushed-map}
use Rattle.tails_by_weight.proofs.light_overlaps.push_pairs_with.Goals as goal

pub loop-i-preserved : goal.loop-i-preserved
loop-i-preserved c =
    pushed-map (pair_of c.args.side c.args.j) c.loop-i.i c.args.tests.now.items c.loop-i.tests.items c.push.new.self.items
    c.loop-i.invariant (c.in_ok-push.ensures.items ∙ ap (λ (o : Overlap). c.loop-i.tests.items ++ o ∷ []) c.pair.ensures)
