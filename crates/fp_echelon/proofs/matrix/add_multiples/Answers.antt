use Rattle.std.proofs.Common.{◌≡◌, ◌+◌, ◌-◌, ◌<◌, ℕ, List, get_or, length, ap, sym, ◌∙◌, subst, arith}
use Rattle.fp_rows.specs.Row.{PrimeRow}
use Rattle.fp_rows.specs.Rows.{IsRow}
use Rattle.fp_echelon.proofs.MatrixStorage.{HoldsMatrix-at, IsRow-first_multiples, added_more, same_more}
use Rattle.fp_echelon.proofs.matrix.add_multiples.Goals as goal
use Rattle.fp_echelon.proofs.matrix.add_multiples.Goals.{then-k-ne0, else-k-ne0}

pub add_scaled-requires-clause-prime : goal.add_scaled-requires-clause-prime
add_scaled-requires-clause-prime c =
    let here =
    HoldsMatrix-at c.args.row.now.prime (length c.args.row.now.entries) c.args.rows.now c.loop-place.place c.index-rows-place.result
    (omega (arith, c.loop-place-test.true, c.width-place-end.ensures.width)) c.requires.rows c.index-rows-place.is in
    here.prime ∙ sym (ap (λ (r : PrimeRow). r.prime) c.loop-place.invariant)

pub add_scaled-requires-clause-width : goal.add_scaled-requires-clause-width
add_scaled-requires-clause-width c =
    let p : ℕ = c.args.row.now.prime in
    let width : ℕ = length c.args.row.now.entries in
    let here = HoldsMatrix-at p width c.args.rows.now c.loop-place.place c.index-rows-place.result
    (omega (arith, c.loop-place-test.true, c.width-place-end.ensures.width)) c.requires.rows c.index-rows-place.is in
    let sum = IsRow-first_multiples p width (omega (arith, c.get-k.ensures.residue)) c.args.rows.now c.requires.rows c.args.row.now.entries
    (subst (λ (n : ℕ). IsRow p n c.args.row.now.entries) c.width-place-end.ensures.width c.width-place-end.ensures.row)
    c.loop-place.place in
    here.row.count ∙ sym sum.count ∙ sym (ap (λ (r : PrimeRow). length r.entries) c.loop-place.invariant)

pub loop-place-preserved : goal.loop-place-preserved
loop-place-preserved c =
    let p : ℕ = c.args.row.now.prime in
    let x : List ℕ = c.args.row.now.entries in
    let i : ℕ = c.loop-place.place in
    let within : i < length x = omega (arith, c.loop-place-test.true, c.width-place-end.ensures.width) in
    let some : 0 < p = omega (arith, c.get-k.ensures.residue) in
    let row : IsRow p (length x) x = subst (λ (n : ℕ). IsRow p n x) c.width-place-end.ensures.width c.width-place-end.ensures.row in
    let place : i + 1 - 1 ≡ i = omega arith in
    let entry : c.get-k.result ≡ get_or x i 0 = c.get-k.ensures.entry ∙ ap (λ (j : ℕ). get_or x j 0) place in
    elim c.if-k-ne0.branch [
      | then-k-ne0 w ↦
          added_more p (length x) some c.args.rows.now c.requires.rows x row i c.get-k.result w.index-rows-place.result c.loop-place.out
          c.if-k-ne0.out
          within entry w.index-rows-place.is c.loop-place.invariant (w.out-is ∙ w.add_scaled.ensures)
      | else-k-ne0 w ↦ w.out-is
          ∙ same_more p (length x) some c.args.rows.now c.requires.rows x row i c.get-k.result c.loop-place.out within entry
          w.if-k-ne0.false c.loop-place.invariant
    ]
