use Rattle.std.proofs.Common.{ap, List, ℕ, true, false, subst}
use Rattle.std.proofs.lemmas.Result.{err_from_is_err_and}
use Rattle.pq_base.specs.LPresentation.{AreDistinct}
use Rattle.lpres_reader.specs.Faults.{fails, holds}
use Rattle.lpres_reader.specs.Stops.{kind_of}
use Rattle.lpres_reader.specs.Known.{IsChecked}
use Rattle.lpres_reader.proofs.faults.Refusing.{refuses_map}
use Rattle.lpres_reader.proofs.items.ItemReads.{unknown_fault, known_body, item_answers}
use Rattle.lpres_reader.proofs.item.read_item.Goals as goal

pub returns-in_err-known : goal.returns-in_err-known
returns-in_err-known c =
    let p = err_from_is_err_and c.from_residual.result c.from_residual.ensures.1 in
    let shallow = c.is_shallow.ensures.shallow c.if-not-is_shallow.false in
    rw (p.1, p.2) (refuses_map _ _ c.in_err-known.field-0.0 (λ k h. holds shallow (fails h.1 (ap kind_of h.0))) c.in_err-known.ensures)

pub returns-then-not-known : goal.returns-then-not-known
returns-then-not-known c =
    let shallow = c.is_shallow.ensures.shallow c.if-not-is_shallow.false in
    let distinct = subst AreDistinct c.requires.names c.requires.generators.distinct in
    let checked =
    subst (λ (names : List (List ℕ)). IsChecked names c.args.line.now false) c.requires.names
    (rw c.if-not-known.true at c.in_ok-known.ensures) in
    unknown_fault c.args.pres.now distinct c.args.line.now checked.rest checked.keyword checked.front shallow checked.form checked.tells

pub returns : goal.returns
returns c =
    let shallow = c.is_shallow.ensures.shallow c.if-not-is_shallow.false in
    let distinct = subst AreDistinct c.requires.names c.requires.generators.distinct in
    let checked =
    subst (λ (names : List (List ℕ)). IsChecked names c.args.line.now true) c.requires.names
    (rw c.if-not-known.false at c.in_ok-known.ensures) in
    let known = known_body c.args.pres.now distinct c.args.line.now checked.rest checked.keyword checked.front checked.form checked.tells in
    item_answers c.args.pres.now c.args.line.now c.read_formed.result shallow checked.form known
    (c.read_formed.ensures checked.form.tree checked.form.spelled)
