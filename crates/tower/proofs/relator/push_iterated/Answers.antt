use Rattle.std.proofs.Common.{append_assoc}
use Rattle.pq_base.proofs.NumberLists.{map_numbers-more}
use Rattle.tower.specs.NamedParts.{iterated_at}
use Rattle.tower.proofs.relator.push_iterated.Goals as goal

pub loop-i-preserved : goal.loop-i-preserved
loop-i-preserved c =
    rw (map_numbers-more iterated_at c.loop-i.i) (search (append_assoc, c.loop-i.invariant, c.in_ok-of.ensures, c.in_ok-push.ensures.items))
