use Rattle.std.proofs.Common.{ℕ}
use Rattle.pc_presentation.specs.declared.overlap.Overlap.TheVariants.{Left, Right}
use Rattle.cert_checker.specs.AgreedOverlaps.{Agrees}
use Rattle.cert_checker.proofs.AgreedLaws.{one_more}
use Rattle.cert_checker.proofs.overlaps.pairs_agree.Goals as goal

pub loop-i-preserved : goal.loop-i-preserved
loop-i-preserved c =
    let P = c.args.pcp.now.presentation in (
      c.agrees-else-not-agrees.ensures.scratch,
      one_more (λ (i : ℕ). Agrees P (Left c.args.k i) × Agrees P (Right c.args.k i)) c.loop-i.i c.loop-i.invariant.1
          (c.agrees.ensures.agree.0 c.if-not-agrees.false, c.agrees-else-not-agrees.ensures.agree.0 c.if-not-agrees-2.false),
    )
