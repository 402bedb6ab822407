use Rattle.std.proofs.lemmas.Result.{on_ok_weaker}
use Rattle.cert_text.proofs.lines.WrittenLines.{step-written}
use Rattle.cert_text.proofs.writing.push_step.Goals as goal

pub returns : goal.returns
returns c =
    on_ok_weaker c.push_tails.result
    (λ e. step-written c.args.out.now.items c.push_step_line.new.out.items c.push_sources.new.out.items c.push_tails.new.out.items
    c.args.number c.args.step.now
    c.sources.result.now c.tails.result.now c.sources.ensures c.tails.ensures c.in_ok-push_step_line.ensures c.in_ok-push_sources.ensures e)
    c.push_tails.ensures
