use Rattle.std.proofs.lemmas.Result.{err_from_is_err_and}
use Rattle.lpres_reader.proofs.recipes.PlainRuns.{factors_run_on, factors_refused}
use Rattle.lpres_reader.proofs.steps.plain_steps.Goals as goal

pub returns-in_err-word-in-Before : goal.returns-in_err-word-in-Before
returns-in_err-word-in-Before c =
    let p = err_from_is_err_and c.from_residual.result c.from_residual.ensures.1 in
    rw (
      p.1,
      p.2,
    ) (factors_refused c.args.names.now.keys c.args.line.now c.args.so_far c.in-Before.before c.in-Before.is
    c.in_err-word-in-Before.field-0.0 c.in_err-word-in-Before.ensures)

pub returns-in_ok-word-in-Before : goal.returns-in_ok-word-in-Before
returns-in_ok-word-in-Before c =
    rw c.value_at.ensures (factors_run_on c.args.names.now.keys c.args.line.now c.args.so_far c.in-Before.before c.in-Before.is
    c.in_ok-word-in-Before.rest.now c.in_ok-word-in-Before.word c.in_ok-word-in-Before.ensures)
