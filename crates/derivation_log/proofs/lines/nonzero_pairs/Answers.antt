use Rattle.std.proofs.Common.{◌≡◌, ◌+◌, ◌-◌, ℕ, get_or, ap, arith}
use Rattle.fp_rows.specs.Row.{at_column}
use Rattle.derivation_log.proofs.LineParts.{pairs-step}
use Rattle.derivation_log.proofs.lines.nonzero_pairs.Goals as goal

pub loop-k-preserved : goal.loop-k-preserved
loop-k-preserved c =
    let entries = c.args.coefficients.now in
    let place : c.loop-k.k ≡ c.loop-k.k + 1 - 1 = omega arith in
    pairs-step (at_column entries) c.loop-k.k
    (get_or entries c.loop-k.k 0) c.loop-k.pairs.items c.push_pair.new.pairs.items c.loop-k.invariant
    (ap (λ (k : ℕ). get_or entries k 0) place) c.in_ok-push_pair.ensures
