use Rattle.std.proofs.Common.{ℕ, refl}
use Rattle.pq_base.specs.Prime.{prime_value}
use Rattle.pq_base.proofs.PrimeLaws.{prime_value-offered}
use Rattle.answer_text.proofs.faults.FaultsOfParts.{IfErr-given}
use Rattle.cert_text.specs.CertificatePlaces.{head_of}
use Rattle.cert_text.specs.CertificatePlaces.Place.{for_version}
use Rattle.cert_text.specs.ReadSoFar.{IsBadAt}
use Rattle.cert_text.proofs.lines.FrontsRead.{version-bad, presentation-fault, size-fault, runs-fault, is_head, front-read}
use Rattle.cert_text.proofs.reading.read_front.Goals as goal

pub returns-in_default-clause-err : goal.returns-in_default-clause-err
returns-in_default-clause-err c = version-bad c.args.bytes.now c.in_default.ensures.none

pub returns-in_err-pres-clause-err : goal.returns-in_err-pres-clause-err
returns-in_err-pres-clause-err c =
    IfErr-given c.from_residual.result c.in_err-pres.field-0.0 (IsBadAt for_version c.args.bytes.now 1) c.from_residual.ensures.1
    (presentation-fault c.args.bytes.now c.in-Some.text.now c.in-Some.ensures.some c.in_err-pres.field-0.0 c.in_err-pres.ensures.err)

pub returns-in_err-prime-clause-err : goal.returns-in_err-prime-clause-err
returns-in_err-prime-clause-err c =
    IfErr-given c.from_residual-in_err-prime.result c.in_err-prime.field-0.0
    (IsBadAt for_version c.args.bytes.now 1) c.from_residual-in_err-prime.ensures.1
    (size-fault c.args.bytes.now c.in-Some.text.now c.in-Some.ensures.some c.in_ok-pres.pres c.in_ok-pres.rest.now c.in_ok-pres.number
    c.in_ok-pres.ensures.read c.in_err-prime.field-0.0
    (c.in_err-prime.ensures.err c.in_ok-pres.pres))

pub returns-in_err-runs-clause-err : goal.returns-in_err-runs-clause-err
returns-in_err-runs-clause-err c =
    let p : ℕ = prime_value c.in_ok-prime.prime in
    let offered = prime_value-offered c.in_ok-prime.prime in
    let head = is_head c.args.bytes.now c.in-Some.text.now c.in-Some.ensures.some c.in_ok-pres.pres c.in_ok-pres.rest.now
    c.in_ok-pres.number c.in_ok-pres.ensures.read p c.in_ok-prime.asked c.in_ok-prime.rest.now offered c.in_ok-prime.ensures.read in
    IfErr-given c.from_residual-in_err-runs.result c.in_err-runs.field-0.0
    (IsBadAt for_version c.args.bytes.now 1) c.from_residual-in_err-runs.ensures.1
    (runs-fault c.args.bytes.now c.in-Some.text.now c.in-Some.ensures.some c.in_ok-pres.pres c.in_ok-pres.rest.now c.in_ok-pres.number
    c.in_ok-pres.ensures.read p c.in_ok-prime.asked c.in_ok-prime.rest.now
    offered c.in_ok-prime.ensures.read c.in_err-runs.field-0.0
    (c.in_err-runs.ensures.err (head_of c.in_ok-pres.pres p c.in_ok-prime.asked) head refl refl))

pub returns-clause-read : goal.returns-clause-read
returns-clause-read c =
    front-read c.args.bytes.now c.in-Some.text.now c.in-Some.ensures.some c.in_ok-pres.pres c.in_ok-pres.rest.now c.in_ok-pres.number
    c.in_ok-pres.ensures.read (prime_value c.in_ok-prime.prime) c.in_ok-prime.asked
    c.in_ok-prime.rest.now (prime_value-offered c.in_ok-prime.prime) c.in_ok-prime.ensures.read c.in_ok-runs.runs.iterated.items
    c.in_ok-runs.runs.whole.items c.in_ok-runs.rest.now c.in_ok-runs.number
    c.in_ok-runs.ensures.read
