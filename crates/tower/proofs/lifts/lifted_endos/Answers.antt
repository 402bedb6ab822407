use Rattle.std.proofs.Common.{◌≡◌, ℕ, ℤ, List, [], suc, ◌+◌, length, get_or, ap, sym, ◌∙◌, subst, arith}
use Rattle.pq_base.specs.LPresentation.{endo_at}
use Rattle.endo_lift.specs.Lifts.{Induces, CarriesRows}
use Rattle.tower.proofs.GivenRows.{counted, lifts-more}
use Rattle.tower.proofs.lifts.lifted_endos.Goals as goal

pub loop-e-preserved : goal.loop-e-preserved
loop-e-preserved g c =
    let endos : List (List (List ℤ)) = c.args.pres.now.endos in
    let C = c.args.cover.now in
    let m = c.in_ok-matrix.field-0 in
    let e : ℕ = c.loop-e.e in
    let place : e + 1 ≡ suc e = omega arith in
    let same : c.endo.result.now ≡ get_or endos e [] = c.endo.ensures.images ∙ ap (endo_at endos) place in
    let count : length c.endos.result.now ≡ length endos = counted _ c.endos.result.now endos c.endos.ensures in
    let limits = c.names-names.ensures.limits in
    let induces = c.requires.induce e (omega (arith, c.loop-e-test.true, count, limits.endos)) in
    let carries : CarriesRows C c.endo.result.now m.rows =
    c.in_ok-matrix.ensures.carries c.requires.consistent (subst (Induces C.answer) (sym same) induces) c.requires.left_out in (
      c.matrix.ensures.scratch,
      lifts-more C endos e c.loop-e.matrices.items c.push.new.self.items m c.loop-e.invariant.1 c.in_ok-matrix.ensures.matrix
          (subst (λ (f : List (List ℤ)). CarriesRows C f m.rows) same carries) c.in_ok-push.ensures.items,
    )
