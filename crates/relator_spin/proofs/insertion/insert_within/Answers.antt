use Rattle.std.proofs.Common.{◌≤◌, ℕ, List, length, sym, ◌∙◌, subst, arith}
use Rattle.fp_rows.specs.Rows.{IsRow}
use Rattle.fp_echelon.specs.Span.{InSpan}
use Rattle.fp_echelon.proofs.SpanLaws.{InSpan-last}
use Rattle.fp_echelon.proofs.BasisLaws.{basis_spans}
use Rattle.fp_echelon.proofs.FullRank.{full-spans}
use Rattle.relator_spin.proofs.insertion.insert_within.Goals as goal

pub returns-then-spare-eq0-clause-in_span : goal.returns-then-spare-eq0-clause-in_span
returns-then-spare-eq0-clause-in_span c =
    let p : ℕ = c.args.basis.now.prime in
    let width : ℕ = c.args.basis.now.width in
    let basis = c.rank-basis.ensures.basis in
    let two = basis.prime in
    let count = basis.count in
    let row : IsRow p width c.args.row.now.entries =
    subst (λ (q : ℕ). IsRow q width c.args.row.now.entries) c.requires.prime
    (subst (λ (v : ℕ). IsRow c.args.row.now.prime v c.args.row.now.entries)
    (c.width-width.ensures.width ∙ c.requires.width) c.width-width.ensures.row) in
    let full : width ≤ length c.args.basis.now.rows = omega (arith, c.requires.room, c.spare.ensures.spare, c.if-spare-eq0.true) in
    (basis_spans c.args.basis.now basis c.args.row.now.entries).1
    (full-spans p width c.args.basis.now.rows basis.reduced (omega arith) full c.args.row.now.entries row)

pub returns-in-Added-clause-in_span : goal.returns-in-Added-clause-in_span
returns-in-Added-clause-in_span c =
    let p : ℕ = c.args.basis.now.prime in
    let width : ℕ = c.args.basis.now.width in
    let basis = c.rank-basis.ensures.basis in
    let two = basis.prime in
    let row : IsRow p width c.args.row.now.entries =
    subst (λ (q : ℕ). IsRow q width c.args.row.now.entries) c.requires.prime
    (subst (λ (v : ℕ). IsRow c.args.row.now.prime v c.args.row.now.entries)
    (c.width-width.ensures.width ∙ c.requires.width) c.width-width.ensures.row) in
    subst (λ (l : List (List ℕ)). InSpan p width l c.args.row.now.entries) (sym c.in-Added.ensures.added)
    (InSpan-last p width c.args.basis.now.added c.args.row.now.entries (omega arith) basis.added row)
