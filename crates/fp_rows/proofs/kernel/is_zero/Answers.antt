use Rattle.fp_rows.proofs.RowStorage.{IsZeroRow-tested}
use Rattle.fp_rows.proofs.kernel.is_zero.Goals as goal

pub returns-then-xs-lt16 : goal.returns-then-xs-lt16
returns-then-xs-lt16 c = IsZeroRow-tested c.args.xs.now c.each_is_zero.result c.each_is_zero.ensures
