use Rattle.std.proofs.Common.{◌≡◌, ◌+◌, [], ℕ, true, refl, ap, sym, subst, ◌∙◌}
use Rattle.pq_base.specs.LPresentation.{LPresentation}
use Rattle.pq_base.specs.Prime.{prime_value}
use Rattle.derivation_log.specs.declared.source.Run.TheVariants.{Iterated}
use Rattle.derivation_log.specs.Certificates.{has_two_runs}
use Rattle.answer_text.proofs.faults.FaultsOfParts.{IfErr-given}
use Rattle.cert_text.specs.CertificateText.{run_line}
use Rattle.cert_text.specs.CertificatePlaces.{Head, IsHead}
use Rattle.cert_text.specs.CertificatePlaces.Place.{for_run, in_run}
use Rattle.cert_text.specs.CertificatePlaces.HasForm.{first_of_two_runs}
use Rattle.cert_text.specs.ReadSoFar.{IsBadAt, IsRunRead}
use Rattle.cert_text.specs.declared.fault.CertFault.{CertFault}
use Rattle.cert_text.proofs.lines.BadLines.{IsBadAt-next, run_line-bad, second-bad, two-runs-read}
use Rattle.cert_text.proofs.runs_reading.read_two_runs.Goals as goal

pub returns-in_default-clause-err : goal.returns-in_default-clause-err
returns-in_default-clause-err c H head same_presentation same_prime =
    run_line-bad H true c.args.text.now c.args.first (ap (λ (L : LPresentation). has_two_runs L) same_presentation ∙ c.requires.two)
    c.in_default.ensures.none

pub returns-in_err-iterated-clause-err : goal.returns-in_err-iterated-clause-err
returns-in_err-iterated-clause-err c =
    let Aim : CertFault → Type 0 = λ fault. (H : Head) → IsHead H → H.presentation ≡ c.args.pres.now → H.prime ≡ prime_value c.args.prime
    → IsBadAt (for_run H) c.args.text.now c.args.first fault in
    IfErr-given c.from_residual.result c.in_err-iterated.field-0.0 Aim c.from_residual.ensures.1 (λ H head same_presentation same_prime.
    IsBadAt-next (for_run H) (in_run H Iterated [] []) (run_line Iterated) c.args.text.now c.in-Some.lines.now c.args.first
    (c.args.first + 1) c.in_err-iterated.field-0.0
    (first_of_two_runs H (ap (λ (L : LPresentation). has_two_runs L) same_presentation ∙ c.requires.two)) c.in-Some.ensures.some refl
    (c.in_err-iterated.ensures.err H [] head same_presentation same_prime))

pub returns-in_err-whole-clause-err : goal.returns-in_err-whole-clause-err
returns-in_err-whole-clause-err c =
    let Aim : CertFault → Type 0 = λ fault. (H : Head) → IsHead H → H.presentation ≡ c.args.pres.now → H.prime ≡ prime_value c.args.prime
    → IsBadAt (for_run H) c.args.text.now c.args.first fault in
    IfErr-given c.from_residual-in_err-whole.result c.in_err-whole.field-0.0 Aim c.from_residual-in_err-whole.ensures.1
    (λ H head same_presentation same_prime.
    let read =
    subst (λ (p : ℕ). IsRunRead H.presentation p Iterated c.in-Some.lines.now (c.args.first + 1) c.in_ok-iterated.iterated.items
    c.in_ok-iterated.rest.now c.in_ok-iterated.number) (sym same_prime)
    (subst (λ (L : LPresentation). IsRunRead L (prime_value c.args.prime) Iterated c.in-Some.lines.now
    (c.args.first + 1) c.in_ok-iterated.iterated.items c.in_ok-iterated.rest.now c.in_ok-iterated.number)
    (sym same_presentation) c.in_ok-iterated.ensures.read) in
    second-bad H head c.args.text.now c.in-Some.lines.now c.in_ok-iterated.rest.now c.args.first
    (c.args.first + 1) c.in_ok-iterated.number c.in_ok-iterated.iterated.items c.in_err-whole.field-0.0
    (ap (λ (L : LPresentation). has_two_runs L) same_presentation ∙ c.requires.two) c.in-Some.ensures.some refl read
    (c.in_err-whole.ensures.err H c.in_ok-iterated.iterated.items head same_presentation same_prime))

pub returns-clause-read : goal.returns-clause-read
returns-clause-read c =
    two-runs-read c.args.pres.now (prime_value c.args.prime) c.args.text.now c.in-Some.lines.now c.in_ok-iterated.rest.now
    c.in_ok-whole.rest.now c.args.first (c.args.first + 1) c.in_ok-iterated.number
    c.in_ok-whole.number c.in_ok-iterated.iterated.items c.in_ok-whole.whole.items c.requires.two c.in-Some.ensures.some refl
    c.in_ok-iterated.ensures.read c.in_ok-whole.ensures.read
