use Rattle.fp_rows.proofs.LaneLaws.{bitmask-IsZeroRow}
use Rattle.fp_rows.proofs.lanes.are_zeros.Goals as goal

pub returns : goal.returns
returns c = bitmask-IsZeroRow c.args.xs c.fits-xs.0
