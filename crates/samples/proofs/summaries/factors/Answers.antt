-- One number more.
use Rattle.std.proofs.Common.{◌≡◌, ◌+◌, ℕ, List, ap, sym, ◌∙◌}
use Rattle.samples.specs.Summary.{count_of}
use Rattle.samples.proofs.SummaryTexts.{factors_text-more}
use Rattle.samples.proofs.summaries.factors.Goals as goal

pub loop-k-preserved : goal.loop-k-preserved
loop-k-preserved c =
    let weights = c.args.answer.now.weights in
    let count : c.count_of-count.result ≡ count_of (c.loop-k.k + 1) weights =
    c.count_of-count.ensures ∙ ap (λ (ws : List ℕ). count_of (c.loop-k.k + 1) ws) c.pcp.ensures.weights in
    rw (c.in_ok-push_str.ensures.bytes, c.loop-k.invariant, c.deref.ensures, c.in_ok-number.ensures.ok, count)
    (sym (factors_text-more c.loop-k.k weights))
