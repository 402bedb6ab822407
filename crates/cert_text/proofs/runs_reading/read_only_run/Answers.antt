use Rattle.std.proofs.Common.{◌≡◌, [], ◌+◌, false, refl, ap, ◌∙◌}
use Rattle.pq_base.specs.LPresentation.{LPresentation}
use Rattle.pq_base.specs.Prime.{prime_value}
use Rattle.derivation_log.specs.declared.source.Run.TheVariants.{Whole}
use Rattle.derivation_log.specs.Certificates.{has_two_runs}
use Rattle.answer_text.proofs.faults.FaultsOfParts.{IfErr-given}
use Rattle.cert_text.specs.CertificateText.{run_line}
use Rattle.cert_text.specs.CertificatePlaces.{Head, IsHead}
use Rattle.cert_text.specs.CertificatePlaces.Place.{for_run, in_run}
use Rattle.cert_text.specs.CertificatePlaces.HasForm.{only_run}
use Rattle.cert_text.specs.ReadSoFar.{IsBadAt}
use Rattle.cert_text.specs.declared.fault.CertFault.{CertFault}
use Rattle.cert_text.proofs.lines.BadLines.{IsBadAt-next, run_line-bad}
use Rattle.cert_text.proofs.runs_reading.read_only_run.Goals as goal

pub returns-in_default-clause-err : goal.returns-in_default-clause-err
returns-in_default-clause-err c H head same_presentation same_prime =
    run_line-bad H false c.args.text.now c.args.first (ap (λ (L : LPresentation). has_two_runs L) same_presentation ∙ c.requires.one)
    c.in_default.ensures.none

pub returns-in_err-whole-clause-err : goal.returns-in_err-whole-clause-err
returns-in_err-whole-clause-err c =
    let Aim : CertFault → Type 0 = λ fault. (H : Head) → IsHead H → H.presentation ≡ c.args.pres.now → H.prime ≡ prime_value c.args.prime
    → IsBadAt (for_run H) c.args.text.now c.args.first fault in
    IfErr-given c.from_residual.result c.in_err-whole.field-0.0 Aim c.from_residual.ensures.1 (λ H head same_presentation same_prime.
    IsBadAt-next (for_run H) (in_run H Whole [] []) (run_line Whole) c.args.text.now c.in-Some.lines.now c.args.first
    (c.args.first + 1) c.in_err-whole.field-0.0
    (only_run H (ap (λ (L : LPresentation). has_two_runs L) same_presentation ∙ c.requires.one)) c.in-Some.ensures.some refl
    (c.in_err-whole.ensures.err H [] head same_presentation same_prime))
