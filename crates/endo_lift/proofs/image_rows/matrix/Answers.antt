use Rattle.std.proofs.Common.{ℕ, ap, ◌∙◌, subst}
use Rattle.pq_base.specs.Prime.{prime_value}
use Rattle.fp_echelon.specs.Span.{AreRows}
use Rattle.pc_presentation.specs.Pcp.{TailedPresentation}
use Rattle.endo_lift.proofs.MatrixLaws.{matrices_carry_rows}
use Rattle.endo_lift.proofs.ValueRows.{matrix-new, image-rows}
use Rattle.endo_lift.proofs.image_rows.matrix.Goals as goal

pub set_rows-requires-clause-matrix : goal.set_rows-requires-clause-matrix
set_rows-requires-clause-matrix g c =
    let prime = c.prime.ensures ∙ ap (λ (T : TailedPresentation). T.presentation.prime) c.pcp-pcp.ensures.presentation in
    matrix-new c.args.cover.now c.in_ok-matrix.matrix (prime_value c.prime.result) c.tails.result
    c.pcp-pcp.ensures.cover.answer.presentation.prime prime c.tails.ensures c.in_ok-matrix.ensures

pub returns-clause-carries : goal.returns-clause-carries
returns-clause-carries g c consistent induces leaves =
    let C = c.args.cover.now in
    let endo = c.args.endo.now in
    let m = c.set_rows.new.matrix in
    let is = c.pcp-pcp.ensures.cover in
    let over = c.set_rows.ensures.matrix in
    let rows = subst (λ (p : ℕ). AreRows p m.width m.rows) over.prime over.matrix.rows in
    matrices_carry_rows C is leaves endo c.requires.count induces m.rows (over.matrix.count ∙ over.width)
    (subst (λ (n : ℕ). AreRows C.answer.presentation.prime n m.rows) over.width rows)
    (image-rows C is consistent endo m.rows induces c.set_rows.ensures.rows)
