use Rattle.std.proofs.Common.{◌≡◌, ℕ, ◌+◌, ◌-◌, ◌<◌, List, [], ◌∷◌, ◌++◌, length, get_or, ap, sym, ◌∙◌, subst, arith}
use Rattle.fp_rows.specs.Row.{PrimeRow}
use Rattle.fp_echelon.specs.Span.{InSpan}
use Rattle.fp_echelon.proofs.SpanLaws.{AreRows-entry}
use Rattle.tower.proofs.Copies.{copy-added, copy-left_out}
use Rattle.tower.proofs.closing.copy_of.Goals.{in-Added, in-Dependent}
use Rattle.tower.proofs.closing.copy_of.Goals as goal

pub insert-requires-clause-width : goal.insert-requires-clause-width
insert-requires-clause-width c =
    let B = c.args.basis.now in
    let i : ℕ = c.loop-i.i + 1 - 1 in
    let row =
    AreRows-entry B.prime B.width B.added i [] (omega (arith, c.loop-i-test.true, c.rank-rank.ensures.added))
    c.rank-rank.ensures.basis.added in
    ap (λ (r : PrimeRow). length r.entries) c.added.ensures ∙ row.count ∙ sym c.loop-i.invariant.width

pub loop-i-preserved : goal.loop-i-preserved
loop-i-preserved c =
    let B = c.args.basis.now in
    let K = c.loop-i.copy in
    let N = c.insert.new.self in
    let i : ℕ = c.loop-i.i in
    let place : i + 1 - 1 ≡ i = omega arith in
    let here : c.added.result.now.entries ≡ get_or B.added i [] =
    ap (λ (r : PrimeRow). r.entries) c.added.ensures ∙ ap (λ (n : ℕ). get_or B.added n []) place in
    let basis = c.rank-rank.ensures.basis in
    let l : i < length B.added = omega (arith, c.loop-i-test.true, c.rank-rank.ensures.added) in
    elim c.match-insert.branch [
      | in-Added w ↦
          copy-added B K i c.loop-i.invariant basis l N c.insert.ensures.basis c.insert.ensures.prime c.insert.ensures.width
          w.in-Added.ensures.spare
          (w.in-Added.ensures.added ∙ ap (λ (x : List ℕ). K.added ++ x ∷ []) here)
      | in-Dependent w ↦
          copy-left_out B K i c.loop-i.invariant basis l N w.in-Dependent.ensures.unchanged
          (subst (InSpan K.prime K.width K.added) here w.in-Dependent.ensures.dependent)
    ]
