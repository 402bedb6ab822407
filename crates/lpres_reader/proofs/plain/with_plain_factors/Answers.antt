use Rattle.std.proofs.lemmas.Result.{err_from_is_err_and}
use Rattle.lpres_reader.proofs.recipes.ValueRuns.{runs_first}
use Rattle.lpres_reader.proofs.recipes.PlainRuns.{rest_behind_plain, plain_taken, plain_refused}
use Rattle.lpres_reader.proofs.plain.with_plain_factors.Goals as goal

pub loop-place-init : goal.loop-place-init
loop-place-init c a = runs_first c.args.names.now.keys c.args.line.now _

pub returns-in_err-word : goal.returns-in_err-word
returns-in_err-word c =
    let p = err_from_is_err_and c.from_residual.result c.from_residual.ensures.1 in
    rw (
      p.1,
      p.2,
    ) (plain_refused c.args.names.now.keys c.args.line.now c.loop-place.rest.now c.in-Some.after.now c.in-Some.place c.in-Some.ensures
    c.args.before c.loop-place.word c.loop-place.invariant c.in_err-word.field-0.0 c.in_err-word.ensures)

pub loop-place-smaller : goal.loop-place-smaller
loop-place-smaller c = rest_behind_plain c.args.names.now.keys c.loop-place.rest.now c.in-Some.after.now c.in-Some.place c.in-Some.ensures

pub loop-place-preserved : goal.loop-place-preserved
loop-place-preserved c =
    plain_taken c.args.names.now.keys c.args.line.now c.loop-place.rest.now c.in-Some.after.now c.in-Some.place c.in-Some.ensures
    c.args.before c.loop-place.word c.loop-place.invariant c.in_ok-word.word c.in_ok-word.ensures

pub returns : goal.returns
returns c = c.loop-place.invariant
