use Rattle.std.proofs.lemmas.Result.{err_from_is_err_and}
use Rattle.lpres_reader.specs.Front.{token_of}
use Rattle.lpres_reader.proofs.texts.FrontLemmas.{rest_is_shorter}
use Rattle.lpres_reader.proofs.texts.LineTokens.{none_left}
use Rattle.lpres_reader.proofs.recipes.ValueRuns.{runs_first, runs_next, runs_joined, runs_shorten, runs_to_refused, runs_stopped}
use Rattle.lpres_reader.proofs.recipes.ValueRuns.{runs_nowhere, runs_to_end, given_same, given_stop}
use Rattle.lpres_reader.proofs.item.gather.Goals as goal

pub loop-so_far-init : goal.loop-so_far-init
loop-so_far-init c = runs_first c.args.names.now.keys c.args.line.now c.args.first

pub loop-so_far-smaller : goal.loop-so_far-smaller
loop-so_far-smaller c =
    let here = rw c.in-Some.is at c.in_ok-token.ensures in
    let shorter = rest_is_shorter c.loop-so_far.rest.now c.in-Some.after.now (token_of c.in-Some.token) here in
    runs_shorten c.args.names.now.keys c.in-Some.after.now c.in_ok-next.left.now c.in_ok-stepped.stepped c.in_ok-next.next
    c.in_ok-next.ensures shorter

pub loop-so_far-preserved : goal.loop-so_far-preserved
loop-so_far-preserved c =
    let here = rw c.in-Some.is at c.in_ok-token.ensures in
    let stepped =
    runs_next c.args.names.now.keys c.args.line.now c.loop-so_far.rest.now c.in-Some.after.now c.args.first c.loop-so_far.so_far
    c.in_ok-stepped.stepped (token_of c.in-Some.token) c.loop-so_far.invariant here c.in_ok-stepped.ensures in
    runs_joined c.args.names.now.keys c.args.line.now c.in-Some.after.now c.in_ok-next.left.now c.args.first c.in_ok-stepped.stepped
    c.in_ok-next.next stepped c.in_ok-next.ensures

pub returns-in_err-token : goal.returns-in_err-token
returns-in_err-token c ts d =
    absurd (runs_nowhere c.args.names.now.keys c.args.line.now c.loop-so_far.rest.now c.args.first c.loop-so_far.so_far
    c.loop-so_far.invariant c.in_err-token.ensures ts d)

pub returns-in_err-stepped : goal.returns-in_err-stepped
returns-in_err-stepped c ts d =
    let p = err_from_is_err_and c.from_residual-in_err-stepped.result c.from_residual-in_err-stepped.ensures.1 in
    let here = rw c.in-Some.is at c.in_ok-token.ensures in
    rw (p.1, p.2) (given_stop c.in_err-stepped.field-0.0 _ _
    (λ e. runs_stopped c.args.names.now.keys c.args.line.now c.loop-so_far.rest.now c.in-Some.after.now c.args.first c.loop-so_far.so_far
    (token_of c.in-Some.token) c.in_err-stepped.field-0.0 c.loop-so_far.invariant here e ts d)
    c.in_err-stepped.ensures)

pub returns-in_err-next : goal.returns-in_err-next
returns-in_err-next c ts d =
    let p = err_from_is_err_and c.from_residual-in_err-next.result c.from_residual-in_err-next.ensures.1 in
    let here = rw c.in-Some.is at c.in_ok-token.ensures in
    let stepped =
    runs_next c.args.names.now.keys c.args.line.now c.loop-so_far.rest.now c.in-Some.after.now c.args.first c.loop-so_far.so_far
    c.in_ok-stepped.stepped (token_of c.in-Some.token) c.loop-so_far.invariant here c.in_ok-stepped.ensures in
    rw (
      p.1,
      p.2,
    ) (runs_to_refused c.args.names.now.keys c.args.line.now c.in-Some.after.now c.args.first c.in_ok-stepped.stepped stepped
    c.in_err-next.field-0.0 c.in_err-next.ensures ts d)

pub returns : goal.returns
returns c ts d =
    let end = none_left c.in_ok-token.field-0 _ _ c.in_default.not-Some c.in_ok-token.ensures in
    given_same c.end.result _ _
    (runs_to_end c.args.names.now.keys c.args.line.now c.loop-so_far.rest.now c.args.first c.loop-so_far.so_far c.loop-so_far.invariant end
    ts d) c.end.ensures
