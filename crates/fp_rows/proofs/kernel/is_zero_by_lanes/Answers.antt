use Rattle.std.proofs.Common.{◌+◌, ◌-◌, length, refl, sym, ◌∙◌, arith}
use Rattle.fp_rows.proofs.RowParts.{IsZeroRow-take_more, IsZeroRow-part, IsZeroRow-overlapped}
use Rattle.fp_rows.proofs.kernel.is_zero_by_lanes.Goals as goal

pub returns-then-not-are_zeros : goal.returns-then-not-are_zeros
returns-then-not-are_zeros c = (
  λ t. absurd (cc t),
  λ h. sym c.if-not-are_zeros.true ∙ c.are_zeros.ensures.1 (IsZeroRow-part c.loop-i.i 16 c.args.xs.now h),
)

pub loop-i-preserved : goal.loop-i-preserved
loop-i-preserved c = (
  omega arith,
  IsZeroRow-take_more c.args.xs.now c.loop-i.i 16 (c.loop-i.i + 16) refl c.loop-i.invariant.1
      (c.are_zeros.ensures.0 c.if-not-are_zeros.false),
)

pub returns : goal.returns
returns c = (
  λ t. IsZeroRow-overlapped c.args.xs.now c.loop-i.i (length c.args.xs.now - 16) 16 (omega arith) (omega arith)
      c.loop-i.invariant.1 (c.are_zeros-2.ensures.0 t),
  λ h. c.are_zeros-2.ensures.1 (IsZeroRow-part (length c.args.xs.now - 16) 16 c.args.xs.now h),
)
