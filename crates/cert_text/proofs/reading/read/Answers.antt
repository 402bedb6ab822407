use Rattle.std.proofs.Common.{◌+◌, ◌-◌, ℕ, sym, subst, arith}
use Rattle.pq_base.specs.Prime.{prime_value}
use Rattle.answer_text.specs.AnswerFaults as answer_faults
use Rattle.cert_text.specs.CertificateFaults.{IsFaultLine}
use Rattle.cert_text.specs.CertificatePlaces.{head_of}
use Rattle.cert_text.proofs.CertificatesRead.{answer-fault, fault-few}
use Rattle.cert_text.proofs.reading.read.Goals as goal

pub overflow_add-result : goal.overflow_add-result
overflow_add-result c =
    let fault : answer_faults.IsFaultLine c.in_ok-front.rest.now c.in-Err-Line.line =
    subst (answer_faults.IsFaultOf c.in_ok-front.rest.now) c.in-Err-Line.field-0-is c.in-Err-Line.ensures.fault in
    let few = fault-few c.in_ok-front.rest.now c.in-Err-Line.line fault in
    omega (arith, few, c.in_ok-front.ensures.shorter, c.requires)

pub returns-in-Err-Line-clause-fault : goal.returns-in-Err-Line-clause-fault
returns-in-Err-Line-clause-fault c =
    let F = c.in_ok-front.front in
    let fault : answer_faults.IsFaultLine c.in_ok-front.rest.now c.in-Err-Line.line =
    subst (answer_faults.IsFaultOf c.in_ok-front.rest.now) c.in-Err-Line.field-0-is c.in-Err-Line.ensures.fault in
    subst (λ (n : ℕ). IsFaultLine c.args.bytes.now (c.in_ok-front.number - 1 + n)) (sym c.in-Err-Line.line-is)
    (answer-fault c.args.bytes.now (head_of F.pres (prime_value F.prime) F.asked) F.runs.iterated.items F.runs.whole.items
    c.in_ok-front.rest.now c.in_ok-front.number c.in_ok-front.ensures.read
    c.in-Err-Line.line fault)
