-- What is found for the presentation of the sample is found for the sample.
use Rattle.std.proofs.lemmas.Result.{err_from_is_err_and}
use Rattle.pq_base.specs.Prime.{prime_value}
use Rattle.pq_run.proofs.SampleOutputs.{small_sample_ranks, sample_refused}
use Rattle.pq_run.proofs.sample_output.output_of_sample.Goals as goal

pub returns-clause-small : goal.returns-clause-small
returns-clause-small c =
    small_sample_ranks c.args.n c.in_ok-pres.pres (prime_value c.sample_prime-prime.result) c.in_ok-pres.ensures
    c.sample_prime-prime.ensures
    c.in_ok-answer.answer c.in_ok-answer.ensures.quotient

pub returns-in_err-answer-clause-err : goal.returns-in_err-answer-clause-err
returns-in_err-answer-clause-err c =
    let p = err_from_is_err_and c.from_residual-in_err-answer.result c.from_residual-in_err-answer.ensures.1 in
    rw (p.1, p.2) (sample_refused c.args.n c.in_ok-pres.pres (prime_value c.sample_prime-prime.result) c.in_ok-pres.ensures
    c.sample_prime-prime.ensures c.in_err-answer.field-0.0 c.in_err-answer.ensures.refusal)
