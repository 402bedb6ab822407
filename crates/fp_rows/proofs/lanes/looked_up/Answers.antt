use Rattle.fp_rows.proofs.LaneLaws.{looked_up_fits, looked_up-map}
use Rattle.fp_rows.proofs.lanes.looked_up.Goals as goal

pub swizzle : goal.swizzle
swizzle c = looked_up_fits c.args.xs c.fits-xs.0 c.requires

pub returns : goal.returns
returns c = looked_up-map c.args.table c.args.xs c.fits-xs.0 c.requires
