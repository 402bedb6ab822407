-- What the log holds after the tower makes a valid certificate.
use Rattle.pq_base.specs.Prime.{prime_value}
use Rattle.pq_base.proofs.PrimeLaws.{prime_value-offered}
use Rattle.pq_run.proofs.CertifiedOutputs.{holds-tower, one_run, fits, certifies}
use Rattle.pq_run.proofs.certify_output.certificate_of.Goals as goal

pub finish-requires-clause-steps : goal.finish-requires-clause-steps
finish-requires-clause-steps c =
    let e = c.in_ok-answer.ensures in
    fits c.args.pres.now (prime_value c.args.prime) c.args.class c.largest.new.log c.in_ok-answer.answer
    (prime_value-offered c.args.prime) c.requires.0 c.names-names.ensures.presentation
    (holds-tower c.new-log.result c.largest.new.log c.args.pres.now (prime_value c.args.prime) c.args.class c.in_ok-answer.answer
    c.new-log.ensures e.quotient e.small e.other e.held e.held_part)

pub finish-requires-clause-one_run : goal.finish-requires-clause-one_run
finish-requires-clause-one_run c =
    let e = c.in_ok-answer.ensures in
    one_run c.args.pres.now (prime_value c.args.prime) c.args.class c.largest.new.log c.in_ok-answer.answer
    (prime_value-offered c.args.prime) c.requires.0 c.names-names.ensures.presentation
    (holds-tower c.new-log.result c.largest.new.log c.args.pres.now (prime_value c.args.prime) c.args.class c.in_ok-answer.answer
    c.new-log.ensures e.quotient e.small e.other e.held e.held_part)

pub returns-clause-certifies : goal.returns-clause-certifies
returns-clause-certifies c =
    let e = c.in_ok-answer.ensures in
    certifies c.args.pres.now (prime_value c.args.prime) c.args.class c.largest.new.log c.in_ok-answer.answer
    (prime_value-offered c.args.prime) c.requires.0 c.names-names.ensures.presentation
    (holds-tower c.new-log.result c.largest.new.log c.args.pres.now (prime_value c.args.prime) c.args.class c.in_ok-answer.answer
    c.new-log.ensures e.quotient e.small e.other e.held e.held_part)
    c.in_ok-finish.field-0 c.in_ok-finish.ensures
