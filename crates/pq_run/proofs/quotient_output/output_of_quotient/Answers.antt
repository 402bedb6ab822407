-- What the presentation is refused for, the input is refused for.
use Rattle.std.proofs.lemmas.Result.{err_from_is_err_and}
use Rattle.pq_base.specs.Prime.{prime_value}
use Rattle.pq_run.proofs.quotient_output.output_of_quotient.Goals as goal

pub returns-in_err-pres-clause-err : goal.returns-in_err-pres-clause-err
returns-in_err-pres-clause-err g c =
    let p = err_from_is_err_and c.from_residual.result c.from_residual.ensures.1 in
    rw (p.1, p.2) (c.in_err-pres.ensures.err (prime_value c.args.prime) c.args.class)
