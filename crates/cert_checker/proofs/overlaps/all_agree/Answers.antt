use Rattle.std.proofs.Common.{ℕ, refl, arith}
use Rattle.cert_checker.specs.AgreedOverlaps.{AgreeUpTo}
use Rattle.cert_checker.proofs.AgreedLaws.{one_more}
use Rattle.cert_checker.proofs.overlaps.all_agree.Goals as goal

pub loop-k-preserved : goal.loop-k-preserved
loop-k-preserved c = (
  c.agree_up_to.ensures.scratch,
  one_more (λ (k : ℕ). AgreeUpTo c.args.pcp.now.presentation k) c.loop-k.k c.loop-k.invariant.1
      (c.agree_up_to.ensures.agree.0 c.if-not-agree_up_to.false),
)

pub returns-else-not-agree_up_to-clause-agree : goal.returns-else-not-agree_up_to-clause-agree
returns-else-not-agree_up_to-clause-agree c =
    let further = one_more (λ (k : ℕ). AgreeUpTo c.args.pcp.now.presentation k) c.loop-k.k c.loop-k.invariant.1
    (c.agree_up_to.ensures.agree.0 c.if-not-agree_up_to.false) in
    (λ t k positive less. further k positive (omega arith), λ all. refl)
