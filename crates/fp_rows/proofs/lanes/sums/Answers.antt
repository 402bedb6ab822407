use Rattle.std.proofs.Common.{◌∙◌}
use Rattle.fp_rows.proofs.LaneLaws.{sums-below, remainders-sums}
use Rattle.fp_rows.proofs.lanes.sums.Goals as goal

pub remainders-requires-clause-small : goal.remainders-requires-clause-small
remainders-requires-clause-small c = sums-below c.args.p c.args.xs c.args.ys c.requires.few c.requires.left c.requires.right

pub returns : goal.returns
returns c = c.remainders.ensures ∙ remainders-sums c.args.p c.args.xs c.args.ys c.requires.few c.requires.left c.requires.right
