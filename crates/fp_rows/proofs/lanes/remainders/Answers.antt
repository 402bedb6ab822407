use Rattle.fp_rows.proofs.LaneLaws.{remainders-folded}
use Rattle.fp_rows.proofs.lanes.remainders.Goals as goal

pub returns : goal.returns
returns c = remainders-folded c.args.m 16 c.args.xs c.fits-xs.0 c.requires.few c.requires.small
