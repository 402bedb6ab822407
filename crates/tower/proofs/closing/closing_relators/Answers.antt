use Rattle.std.proofs.Common.{List, ap, sym, subst}
use Rattle.std.proofs.lemmas.Result.{IfOk-weaker}
use Rattle.pq_base.specs.Answer.{class_of}
use Rattle.fp_rows.specs.Row.{PrimeRow}
use Rattle.fp_echelon.specs.Matrix.{PrimeMatrix}
use Rattle.pc_presentation.specs.Tailed.{rowed_presentation}
use Rattle.p_cover.specs.Covers.{cover_presentation}
use Rattle.relator_spin.specs.declared.spun.Spun.{Spun}
use Rattle.relator_spin.specs.Closure.{AreOver, AreMatricesOver, IsClosed}
use Rattle.tower.specs.StepRows.{StepRows}
use Rattle.tower.proofs.ClassSteps.{cover-meaning}
use Rattle.tower.proofs.InducedStages.{stages_induce}
use Rattle.tower.proofs.SpunSteps.{uncarried-die}
use Rattle.tower.proofs.ClosingRelators.{IsNamedBy, named-by, closing-rows, closing-matrices, closing-closed, closing-iterated}
use Rattle.tower.proofs.ClosingRelators.{closing-suffice}
use Rattle.tower.proofs.closing.closing_relators.Goals as goal

pub iterated_rows-requires-clause-killed : goal.iterated_rows-requires-clause-killed
iterated_rows-requires-clause-killed g c =
    let A = c.args.cover.now.answer in uncarried-die c.args.pres.now A.presentation.prime (class_of A) A c.requires.stage

pub lifted_endos-requires-clause-induce : goal.lifted_endos-requires-clause-induce
lifted_endos-requires-clause-induce g c =
    let A = c.args.cover.now.answer in
    stages_induce c.args.pres.now c.names-names.ensures.presentation A.presentation.prime (class_of A) A c.requires.stage

pub close-requires-clause-rows : goal.close-requires-clause-rows
close-requires-clause-rows g c =
    let C = c.args.cover.now in
    let push = g.C.Collect.meaning (rowed_presentation (cover_presentation C)) in
    let K = c.in_ok-overlaps.overlaps in
    subst (AreOver K.prime K.width) (sym c.deref.ensures.value)
    (closing-rows c.args.pres.now c.names-names.ensures.presentation (class_of C.answer) C c.pcp-pcp.ensures.cover push
    (cover-meaning g.C.Collect.meaning g.met.C.Collect.reaches C c.pcp-pcp.ensures.cover) c.requires.stage c.in_ok-matrices.matrices.items
    c.in_ok-matrices.ensures.lifts c.in_ok-given.given.items c.in_ok-given.ensures.rows c.args.rows.now c.requires.over c.requires.overlaps
    c.requires.trivial
    c.rows.inside.basis K (ap (λ (R : StepRows). R.basis) c.rows.view_is) c.in_ok-overlaps.ensures)

pub close-requires-clause-matrices : goal.close-requires-clause-matrices
close-requires-clause-matrices g c =
    let C = c.args.cover.now in
    let push = g.C.Collect.meaning (rowed_presentation (cover_presentation C)) in
    let K = c.in_ok-overlaps.overlaps in
    subst (AreMatricesOver K.prime K.width) (sym c.deref-2.ensures.value)
    (closing-matrices c.args.pres.now c.names-names.ensures.presentation (class_of C.answer) C c.pcp-pcp.ensures.cover push
    (cover-meaning g.C.Collect.meaning g.met.C.Collect.reaches C c.pcp-pcp.ensures.cover) c.requires.stage c.in_ok-matrices.matrices.items
    c.in_ok-matrices.ensures.lifts c.in_ok-given.given.items c.in_ok-given.ensures.rows c.args.rows.now c.requires.over c.requires.overlaps
    c.requires.trivial
    c.rows.inside.basis K (ap (λ (R : StepRows). R.basis) c.rows.view_is) c.in_ok-overlaps.ensures)

pub close-requires-clause-closed : goal.close-requires-clause-closed
close-requires-clause-closed g c =
    let C = c.args.cover.now in
    let push = g.C.Collect.meaning (rowed_presentation (cover_presentation C)) in
    let K = c.in_ok-overlaps.overlaps in
    subst (λ (ms : List PrimeMatrix). IsClosed K.prime K.width ms K.added) (sym c.deref-2.ensures.value)
    (closing-closed c.args.pres.now c.names-names.ensures.presentation (class_of C.answer) C c.pcp-pcp.ensures.cover push
    (cover-meaning g.C.Collect.meaning g.met.C.Collect.reaches C c.pcp-pcp.ensures.cover) c.requires.stage c.in_ok-matrices.matrices.items
    c.in_ok-matrices.ensures.lifts c.in_ok-given.given.items c.in_ok-given.ensures.rows c.args.rows.now c.requires.over c.requires.overlaps
    c.requires.trivial
    c.rows.inside.basis K (ap (λ (R : StepRows). R.basis) c.rows.view_is) c.in_ok-overlaps.ensures)

pub returns-clause-iterated : goal.returns-clause-iterated
returns-clause-iterated g c =
    let C = c.args.cover.now in
    let push = g.C.Collect.meaning (rowed_presentation (cover_presentation C)) in
    let K = c.in_ok-overlaps.overlaps in
    let xs : List PrimeRow = c.in_ok-given.given.items in
    let ms : List PrimeMatrix = c.in_ok-matrices.matrices.items in
    let names : List Spun = c.in_ok-_basis.names.items in
    let closed : IsNamedBy K xs ms c.in_ok-_basis._basis.added names =
    named-by K c.deref.result.now xs c.deref-2.result.now ms c.in_ok-_basis._basis.added names c.deref.ensures.value c.deref-2.ensures.value
    c.in_ok-_basis.ensures.added c.in_ok-_basis.ensures.names c.in_ok-_basis.ensures.images in
    IfOk-weaker c.relators_of.result _ _
    (λ rs are.
    closing-iterated c.args.pres.now c.names-names.ensures.presentation (class_of C.answer) C c.pcp-pcp.ensures.cover push
    (cover-meaning g.C.Collect.meaning g.met.C.Collect.reaches C c.pcp-pcp.ensures.cover) c.requires.stage ms c.in_ok-matrices.ensures.lifts
    xs
    c.in_ok-given.ensures.rows c.args.rows.now c.requires.over c.requires.overlaps c.requires.trivial c.rows.inside.basis K
    (ap (λ (R : StepRows). R.basis) c.rows.view_is) c.in_ok-overlaps.ensures c.in_ok-_basis._basis.added names closed rs.items are)
    c.relators_of.ensures

pub returns-clause-suffice : goal.returns-clause-suffice
returns-clause-suffice g c =
    let C = c.args.cover.now in
    let push = g.C.Collect.meaning (rowed_presentation (cover_presentation C)) in
    let K = c.in_ok-overlaps.overlaps in
    let xs : List PrimeRow = c.in_ok-given.given.items in
    let ms : List PrimeMatrix = c.in_ok-matrices.matrices.items in
    let names : List Spun = c.in_ok-_basis.names.items in
    let closed : IsNamedBy K xs ms c.in_ok-_basis._basis.added names =
    named-by K c.deref.result.now xs c.deref-2.result.now ms c.in_ok-_basis._basis.added names c.deref.ensures.value c.deref-2.ensures.value
    c.in_ok-_basis.ensures.added c.in_ok-_basis.ensures.names c.in_ok-_basis.ensures.images in
    IfOk-weaker c.relators_of.result _ _
    (λ rs are.
    closing-suffice c.args.pres.now c.names-names.ensures.presentation (class_of C.answer) C c.pcp-pcp.ensures.cover push
    (cover-meaning g.C.Collect.meaning g.met.C.Collect.reaches C c.pcp-pcp.ensures.cover) c.requires.stage ms c.in_ok-matrices.ensures.lifts
    xs
    c.in_ok-given.ensures.rows c.args.rows.now c.requires.over c.requires.overlaps c.requires.trivial c.rows.inside.basis K
    (ap (λ (R : StepRows). R.basis) c.rows.view_is) c.in_ok-overlaps.ensures c.in_ok-_basis._basis.added names closed rs.items are)
    c.relators_of.ensures
