use Rattle.std.proofs.Common.{refl, sym, ◌∙◌}
use Rattle.std.proofs.lemmas.Result.{err_from_is_err_and}
use Rattle.lpres_reader.specs.Front.{token_of}
use Rattle.lpres_reader.specs.Faults.{ItemForm}
use Rattle.lpres_reader.specs.Forms.{first_form, form_step}
use Rattle.lpres_reader.proofs.texts.FrontLemmas.{rest_is_shorter}
use Rattle.lpres_reader.proofs.texts.LineTokens.{none_left}
use Rattle.lpres_reader.proofs.faults.Refusing.{refuses_map, found_refuses}
use Rattle.lpres_reader.proofs.names.KnownRuns.{KnownSoFar, knows_first, known_next, known_end}
use Rattle.lpres_reader.proofs.trees.PlainForms.{form_passes, known_passes, passes_within}
use Rattle.lpres_reader.proofs.trees.FormRuns.{form_first, form_next, form_whole, no_form_unnamed, no_form_first, no_form_at_token}
use Rattle.lpres_reader.proofs.trees.FormRuns.{no_form_behind, no_form_here}
use Rattle.lpres_reader.proofs.syntax.check_form.Goals as goal

pub loop-so_far-init : goal.loop-so_far-init
loop-so_far-init c = record {
  form = form_first c.args.line.now c.in_ok-keyword.behind.now c.in_ok-keyword.keyword.now c.in_ok-so_far.so_far c.in_ok-keyword.ensures
      c.in_ok-so_far.ensures;
  known = knows_first c.args.names.now.keys c.in_ok-keyword.behind.now;
}

pub loop-so_far-smaller : goal.loop-so_far-smaller
loop-so_far-smaller c =
    let here = rw c.in-Some.is at c.in_ok-token.ensures in
    let shorter = rest_is_shorter c.loop-so_far.rest.now c.in-Some.after.now (token_of c.in-Some.token) here in
    passes_within c.args.names.now.keys c.in-Some.after.now c.passed_over-rest.result.now c.in_ok-so_far-2.so_far.stage
    c.passed_over-rest.ensures shorter

pub loop-so_far-preserved : goal.loop-so_far-preserved
loop-so_far-preserved c =
    let here = rw c.in-Some.is at c.in_ok-token.ensures in
    let form =
    form_next c.args.line.now c.loop-so_far.rest.now c.in-Some.after.now c.loop-so_far.so_far c.in_ok-so_far-2.so_far
    (token_of c.in-Some.token) c.loop-so_far.invariant.form here c.in_ok-so_far-2.ensures in
    let known : KnownSoFar c.args.names.now.keys c.in_ok-keyword.behind.now c.in-Some.after.now c.are_known-known.result =
    rw c.are_known-known.ensures
    (known_next c.args.names.now.keys c.in_ok-keyword.behind.now c.loop-so_far.rest.now c.in-Some.after.now
    (token_of c.in-Some.token) c.loop-so_far.known _ c.loop-so_far.invariant.known here refl) in
    record {
      form = form_passes c.args.names.now.keys c.args.line.now c.in-Some.after.now c.passed_over-rest.result.now c.in_ok-so_far-2.so_far
          c.passed_over-rest.ensures form;
      known = known_passes c.args.names.now.keys c.in_ok-keyword.behind.now c.in-Some.after.now c.passed_over-rest.result.now
          c.in_ok-so_far-2.so_far.stage c.are_known-known.result c.passed_over-rest.ensures known;
    }

pub returns-in_err-keyword : goal.returns-in_err-keyword
returns-in_err-keyword c =
    let p = err_from_is_err_and c.from_residual.result c.from_residual.ensures.1 in
    rw (p.1, p.2) (refuses_map _ _ c.in_err-keyword.field-0.0 (λ k h. (h.0, no_form_unnamed c.args.line.now h.1)) c.in_err-keyword.ensures)

pub returns-in_err-so_far : goal.returns-in_err-so_far
returns-in_err-so_far c =
    let p = err_from_is_err_and c.from_residual-in_err-so_far.result c.from_residual-in_err-so_far.ensures.1 in
    rw (p.1, p.2) (found_refuses (first_form c.in_ok-keyword.keyword.now) (¬ ItemForm c.args.line.now) c.in_err-so_far.field-0.0
    (λ none. no_form_first c.args.line.now c.in_ok-keyword.behind.now c.in_ok-keyword.keyword.now c.in_ok-keyword.ensures none)
    c.in_err-so_far.ensures)

pub returns-in_err-token : goal.returns-in_err-token
returns-in_err-token c =
    let p = err_from_is_err_and c.from_residual-in_err-token.result c.from_residual-in_err-token.ensures.1 in
    rw (p.1, p.2) (
      refl,
      no_form_at_token c.args.line.now c.loop-so_far.rest.now c.loop-so_far.so_far c.loop-so_far.invariant.form c.in_err-token.ensures,
    )

pub returns-in_err-so_far-2 : goal.returns-in_err-so_far-2
returns-in_err-so_far-2 c =
    let p = err_from_is_err_and c.from_residual-in_err-so_far-2.result c.from_residual-in_err-so_far-2.ensures.1 in
    let here = rw c.in-Some.is at c.in_ok-token.ensures in
    rw (
      p.1,
      p.2,
    ) (found_refuses (form_step c.loop-so_far.so_far (token_of c.in-Some.token)) (¬ ItemForm c.args.line.now) c.in_err-so_far-2.field-0.0
    (λ none. no_form_behind c.args.line.now c.loop-so_far.rest.now c.in-Some.after.now c.loop-so_far.so_far
    (token_of c.in-Some.token) c.loop-so_far.invariant.form here none) c.in_err-so_far-2.ensures)

pub returns-then-is_whole : goal.returns-then-is_whole
returns-then-is_whole c =
    let end = none_left c.in_ok-token.field-0 _ _ c.in_default.not-Some c.in_ok-token.ensures in
    record {
      form = form_whole c.args.line.now c.loop-so_far.rest.now c.loop-so_far.so_far c.loop-so_far.invariant.form end
          (sym c.is_whole.ensures ∙ c.if-is_whole.true);
      keyword = c.in_ok-keyword.keyword.now;
      rest = c.in_ok-keyword.behind.now;
      front = c.in_ok-keyword.ensures;
      tells = known_end c.args.names.now.keys c.in_ok-keyword.behind.now c.loop-so_far.rest.now c.loop-so_far.known
          c.loop-so_far.invariant.known end;
    }

pub returns-else-is_whole : goal.returns-else-is_whole
returns-else-is_whole c =
    let end = none_left c.in_ok-token.field-0 _ _ c.in_default.not-Some c.in_ok-token.ensures in
    rw c.no_form.ensures (
      refl,
      no_form_here c.args.line.now c.loop-so_far.rest.now c.loop-so_far.so_far c.loop-so_far.invariant.form end
          (sym c.is_whole.ensures ∙ c.if-is_whole.false),
    )
