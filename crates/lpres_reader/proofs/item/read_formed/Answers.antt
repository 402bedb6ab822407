use Rattle.std.proofs.Common.{List, ℕ, subst}
use Rattle.std.proofs.lemmas.Result.{err_from_is_err_and}
use Rattle.pq_base.specs.LPresentation.{AreDistinct}
use Rattle.lpres_reader.specs.Values.{RunsTo}
use Rattle.lpres_reader.proofs.items.ItemReads.{unbegun_gives, formed_gives, unnamed_gives}
use Rattle.lpres_reader.proofs.item.read_formed.Goals as goal

pub returns-in_err-keyword : goal.returns-in_err-keyword
returns-in_err-keyword c i d =
    let p = err_from_is_err_and c.from_residual.result c.from_residual.ensures.1 in
    rw (p.1, p.2) (unnamed_gives c.args.pres.now c.args.line.now c.in_err-keyword.field-0.0 c.in_err-keyword.ensures i d)

pub returns-in_err-first : goal.returns-in_err-first
returns-in_err-first c i d =
    let p = err_from_is_err_and c.from_residual-in_err-first.result c.from_residual-in_err-first.ensures.1 in
    let distinct = subst AreDistinct c.requires.names c.requires.generators.distinct in
    rw (
      p.1,
      p.2,
    ) (unbegun_gives c.args.pres.now distinct c.args.line.now c.in_ok-keyword.after.now c.in_ok-keyword.keyword.now
    c.in_ok-keyword.ensures c.in_err-first.field-0.0 c.in_err-first.ensures i d)

pub returns : goal.returns
returns c i d =
    let distinct = subst AreDistinct c.requires.names c.requires.generators.distinct in
    let runs =
    subst (λ (names : List (List ℕ)). RunsTo names c.in_ok-first.first c.in_ok-keyword.after.now c.gather.result) c.requires.names
    c.gather.ensures in
    formed_gives c.args.pres.now distinct c.args.line.now c.in_ok-keyword.after.now c.in_ok-keyword.keyword.now c.in_ok-keyword.ensures
    c.in_ok-first.first c.gather.result c.in_ok-first.ensures runs i d
