use Rattle.derivation_log.specs.HeldLines.{kept_coefficient}
use Rattle.derivation_log.proofs.LineParts.{pairs-step}
use Rattle.derivation_log.proofs.lines.kept_pairs.Goals as goal

pub loop-c-preserved : goal.loop-c-preserved
loop-c-preserved c =
    pairs-step (kept_coefficient c.args.row.now.prime c.args.pivot c.args.row.now.entries) c.loop-c.c c.kept_coefficient.result
    c.loop-c.pairs.items c.push_pair.new.pairs.items c.loop-c.invariant c.kept_coefficient.ensures c.in_ok-push_pair.ensures
