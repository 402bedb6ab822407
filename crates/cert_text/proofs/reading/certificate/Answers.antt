use Rattle.std.proofs.Common.{◌+◌, ◌-◌, ℕ, ap, sym, subst, ◌∙◌, arith}
use Rattle.pq_base.specs.Prime.{prime_value}
use Rattle.derivation_log.specs.Certificates.{Certificate}
use Rattle.cert_text.specs.CertificateFaults.{IsFaultLine}
use Rattle.cert_text.specs.CertificatePlaces.{Head, head_of}
use Rattle.cert_text.specs.CertificateText.{IsWritable, certificate_text}
use Rattle.cert_text.proofs.CertificatesRead.{certificate-read, end-fault, newlines-few}
use Rattle.cert_text.proofs.reading.certificate.Goals as goal

pub overflow_add-end : goal.overflow_add-end
overflow_add-end c = omega (arith, c.requires.limit, c.newlines.ensures, newlines-few c.args.text.now)

pub returns-in-Some-clause-text : goal.returns-in-Some-clause-text
returns-in-Some-clause-text c =
    let F = c.args.front in
    let H : Head = head_of F.pres (prime_value F.prime) F.asked in
    let done = certificate-read c.args.bytes.now H F.runs.iterated.items F.runs.whole.items c.args.text.now c.args.number c.requires.front
    c.args.answer c.requires.writable c.requires.answer c.in-Some.ensures.conditions in
    done.1 ∙ ap (λ (x : Certificate). certificate_text x) (sym c.in-Some.ensures.some)

pub returns-in-Some-clause-writable : goal.returns-in-Some-clause-writable
returns-in-Some-clause-writable c =
    let F = c.args.front in
    let H : Head = head_of F.pres (prime_value F.prime) F.asked in
    let done = certificate-read c.args.bytes.now H F.runs.iterated.items F.runs.whole.items c.args.text.now c.args.number c.requires.front
    c.args.answer c.requires.writable c.requires.answer c.in-Some.ensures.conditions in
    subst IsWritable (sym c.in-Some.ensures.some) done.0

pub returns-in-None-clause-fault : goal.returns-in-None-clause-fault
returns-in-None-clause-fault c =
    let F = c.args.front in
    let H : Head = head_of F.pres (prime_value F.prime) F.asked in
    subst (λ (n : ℕ). IsFaultLine c.args.bytes.now (c.args.number - 1 + n)) (sym c.newlines.ensures)
    (end-fault c.args.bytes.now H F.runs.iterated.items F.runs.whole.items c.args.text.now c.args.number c.requires.front c.args.answer
    c.requires.writable c.requires.answer c.in-None.ensures.none)
