use Rattle.std.proofs.Common.{◌≡◌, ◌+◌, ◌-◌, ◌<◌, ℕ, get_or, length, set, ap, sym, ◌∙◌, subst, arith}
use Rattle.pq_base.specs.Answer.Definition.{image}
use Rattle.pq_base.specs.EntryWords.{IsSourceOf}
use Rattle.fp_rows.specs.Row.{PrimeRow}
use Rattle.fp_echelon.specs.Matrix.{PrimeMatrix}
use Rattle.pc_presentation.specs.Pcp.{TailedPresentation}
use Rattle.pc_presentation.specs.Definition.{definition_of}
use Rattle.endo_lift.proofs.ValueRows.{source-at, rows-more, set-before, matrix-set}
use Rattle.endo_lift.proofs.image_rows.set_rows.Goals as goal

pub entry_value-requires-clause-source : goal.entry_value-requires-clause-source
entry_value-requires-clause-source g c =
    let C = c.args.cover.now in
    let t = c.loop-t.t in
    let tails : c.tails-t-end.result ≡ length C.sources =
    c.tails-t-end.ensures ∙ ap (λ (T : TailedPresentation). T.tails) c.pcp.ensures.presentation in
    let inside : t < length C.sources = omega (arith, c.loop-t-test.true, tails) in
    let place : t + 1 - 1 ≡ t = omega arith in
    subst (IsSourceOf C.answer)
    (sym (c.source_of-source.ensures ∙ ap (λ (n : ℕ). get_or C.sources n (image 0)) place))
    (source-at C c.pcp.ensures.cover t inside)

pub loop-t-preserved : goal.loop-t-preserved
loop-t-preserved g c =
    let C = c.args.cover.now in
    let t = c.loop-t.t in
    let m = c.loop-t.matrix in
    let e = c.entry_value.new.room.value in
    let x = c.tail.result.now.entries in
    let inv = c.loop-t.invariant in
    let tails : c.tails-t-end.result ≡ length C.sources =
    c.tails-t-end.ensures ∙ ap (λ (T : TailedPresentation). T.tails) c.pcp.ensures.presentation in
    let count : length m.rows ≡ length C.sources = inv.2.matrix.count ∙ inv.2.width in
    let inside : t < length m.rows = omega (arith, c.loop-t-test.true, tails, count) in
    let place : t + 1 - 1 ≡ t = omega arith in
    let row : x ≡ e.state.row = ap (λ (r : PrimeRow). r.entries) c.tail.ensures in
    let next : c.set_row.new.self ≡ record { prime = m.prime; width = m.width; rows = set m.rows t x } =
    set-before m c.set_row.new.self t x c.set_row.ensures in
    let source : definition_of c.source_of-source.result ≡ get_or C.sources t (image 0) =
    c.source_of-source.ensures ∙ ap (λ (n : ℕ). get_or C.sources n (image 0)) place in (
      c.entry_value.ensures.scratch,
      c.entry_value.ensures.room,
      matrix-set C m c.set_row.new.self t e x inv.2 c.entry_value.ensures.value.element row next,
      rows-more C c.args.endo.now m.rows c.set_row.new.self.rows t x (definition_of c.source_of-source.result) e inside inv.3
          (ap (λ (n : PrimeMatrix). n.rows) next) row source c.entry_value.ensures.value,
    )
