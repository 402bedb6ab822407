use Rattle.pq_base.specs.Prime.{prime_value}
use Rattle.cert_text.proofs.lines.WrittenLines.{certificate-written}
use Rattle.cert_text.proofs.writing.write.Goals as goal

pub returns-clause-text : goal.returns-clause-text
returns-clause-text c =
    certificate-written c.args.cert.now c.new-out.result.items c.push_version.new.out.items c.push_presentation.new.out.items
    c.push_prime_and_class.new.out.items
    c.push_iterated_run.new.out.items c.push_run.new.out.items c.push_answer.new.out.items
    c.version.result (prime_value c.prime.result) c.asked.result c.pres.result.now c.pres-2.result.now c.steps.result.now
    c.steps-2.result.now c.answer.result.now
    c.version.ensures.version c.pres.ensures c.prime.ensures c.asked.ensures c.pres-2.ensures c.steps.ensures c.steps-2.ensures
    c.answer.ensures
    c.new-out.ensures.items c.in_ok-push_version.ensures c.in_ok-push_presentation.ensures c.in_ok-push_prime_and_class.ensures
    c.in_ok-push_iterated_run.ensures c.in_ok-push_run.ensures c.in_ok-push_answer.ensures
