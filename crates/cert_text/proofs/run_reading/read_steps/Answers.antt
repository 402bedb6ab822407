use Rattle.std.proofs.Common.{◌≡◌, ◌+◌, ◌∷◌, ◌++◌, ℕ, suc, List, length, ap, ◌∙◌, arith}
use Rattle.std.proofs.lemmas.List.{length-append}
use Rattle.pq_base.specs.Prime.{prime_value}
use Rattle.derivation_log.specs.Certificates.{StepLines}
use Rattle.answer_text.proofs.DraftAdded.{IfSome-at}
use Rattle.cert_text.specs.CertificateText.{step_line}
use Rattle.cert_text.proofs.lines.RunsRead.{steps-next}
use Rattle.cert_text.proofs.run_reading.read_steps.Goals as goal

pub loop-steps-preserved : goal.loop-steps-preserved
loop-steps-preserved c =
    let rest : List ℕ = c.loop-steps.rest.now in
    let lines : List ℕ = c.in-Some.lines.now in
    let before : List StepLines = c.loop-steps.steps.items in
    let j : ℕ = c.len.result + 1 in
    let count : j ≡ length before + 1 = omega (arith, c.len.ensures) in
    let line : rest ≡ step_line j ++ 10 ∷ lines =
    IfSome-at c.in_ok-lines.field-0 c.in-Some.lines (λ x. rest ≡ step_line j ++ 10 ∷ x.now) c.in-Some.is c.in_ok-lines.ensures.some in
    let sizes : length rest ≡ length (step_line j) + suc (length lines) = ap (λ (t : List ℕ). length t) line
    ∙ length-append (step_line j) (10 ∷ lines) in record {
      read =
          steps-next c.args.pres.now (prime_value c.args.prime) c.args.run c.args.text.now c.args.first before c.push.new.self.items
          c.in_ok-step.step rest lines c.in_ok-step.more.now
          c.loop-steps.number c.in_ok-step.next j c.in_ok-push.ensures.items count line c.in_ok-step.ensures.read
          c.in_ok-step.ensures.numbered c.loop-steps.invariant.read;
      shorter = omega (arith, c.in_ok-step.ensures.shorter, c.loop-steps.invariant.shorter);
    }
