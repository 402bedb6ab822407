use Rattle.std.proofs.Common.{◌<◌, ◌+◌, ℕ, List, length, arith}
use Rattle.std.proofs.lemmas.List.{get_or_read}
use Rattle.derivation_log.specs.Certificates.{StepLines}
use Rattle.cert_text.specs.CertificatePlaces.{no_lines}
use Rattle.cert_text.proofs.lines.WrittenLines.{step-next}
use Rattle.cert_text.proofs.writing.push_steps.Goals as goal

pub loop-place-preserved : goal.loop-place-preserved
loop-place-preserved c =
    let k : ℕ = c.loop-place.place in
    let steps : List StepLines = c.args.steps.now in
    let inside : k < length steps = omega (arith, c.loop-place-test.true) in
    step-next k (k + 1) steps c.index-steps-place.result c.loop-place.out.items c.push_step.new.out.items _ (omega arith) inside
    (get_or_read steps k c.index-steps-place.result inside c.index-steps-place.is no_lines) c.in_ok-push_step.ensures c.loop-place.invariant
