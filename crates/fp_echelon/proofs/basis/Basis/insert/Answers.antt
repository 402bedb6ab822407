use Rattle.std.proofs.Common.{◌≡◌, List, ℕ, ap, sym, ◌∙◌, subst, arith}
use Rattle.pq_base.specs.Elementary.{zeros}
use Rattle.fp_rows.proofs.EntryLaws.{IsZeroRow-is_zeros}
use Rattle.fp_echelon.specs.Span.{InSpan}
use Rattle.fp_echelon.proofs.SpanLaws.{InSpan-zeros}
use Rattle.fp_echelon.proofs.basis.Basis.insert.Goals as goal
use Rattle.fp_echelon.proofs.basis.Basis.insert.Goals.{then-is_zero-via-then-is_zero, then-is_zero-via-else-is_zero+then-reduces_to_zero}

pub returns-then-is_zero-clause-dependent : goal.returns-then-is_zero-clause-dependent
returns-then-is_zero-clause-dependent c =
    let B = c.args.self.now in
    let basis = c.rank-basis.ensures.basis in
    let two = basis.prime in
    elim c.then-is_zero.branch [
      | then-is_zero-via-then-is_zero w ↦
          let zero_row : c.args.row.now.entries ≡ zeros B.width =
          IsZeroRow-is_zeros c.args.row.now.entries (c.is_zero.ensures.0 w.if-is_zero.true) ∙ ap zeros c.requires.width in
          subst (λ (x : List ℕ). InSpan B.prime B.width B.added x) (sym zero_row)
          (InSpan-zeros B.prime B.width B.added (omega arith) basis.added)
      | then-is_zero-via-else-is_zero+then-reduces_to_zero w ↦ w.reduces_to_zero.ensures.span w.if-reduces_to_zero.true
    ]
