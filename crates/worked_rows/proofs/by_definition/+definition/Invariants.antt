use Rattle.std.proofs.Common.{◌+◌, ◌*◌}
use Rattle.worked_rows.proofs.by_definition.+definition.Given as goal

abbrev pub decreases-push : goal.decreases-push
decreases-push l = 2 * l.depth

abbrev pub decreases-push_side : goal.decreases-push_side
decreases-push_side l = 2 * l.depth + 1
