-- A map of rows that is given by the rows of the tails is linear: it keeps sums, of any two lists of entries, and
-- multiples, differences and combinations of rows.
use Rattle.std.proofs.Common.{◌≡◌, ℕ, ◌+◌, ◌-◌, ◌%◌, ◌<◌, List, [], ◌∷◌, length, map, refl, ap, ap₂, sym, ◌∙◌, arith}
use Rattle.pq_base.specs.Elementary.{zeros}
use Rattle.pq_base.specs.Presentation.{IsNormal}
use Rattle.fp_rows.specs.Rows.{IsRow, add_rows, scale_row}
use Rattle.fp_rows.proofs.RowLaws.{IsRow-scale_row, length-scale_row, add_rows_swap, scale_row-add, scale_row-mod}
use Rattle.fp_rows.specs.Differences.{difference}
use Rattle.fp_echelon.specs.Span.{combine, AreRows}
use Rattle.fp_echelon.proofs.SpanLaws.{IsRow-combine, combine-add_rows, combine-scale_row}
use Rattle.pc_presentation.specs.Rowed.{row_sum}
use Rattle.pc_presentation.proofs.rows.RowLaws.{zeros-normal, row_sum-zeros, zeros-row_sum}
use Rattle.pc_presentation.proofs.rows.RowsCentral.{row_sum-add_rows}
use Rattle.cover_quotient.specs.Carried.{carried}

-- rows of residues by either name
pub row_from_normal : (p n : ℕ) (x : List ℕ) → IsNormal p n x → IsRow p n x
row_from_normal p n x h = record { count = h.count; below = h.below }

pub normal_from_row : (p n : ℕ) (x : List ℕ) → IsRow p n x → IsNormal p n x
normal_from_row p n x h = record { count = h.count; below = h.below }

module _ (p width : ℕ) (positive : 0 < p) where
  pub carried-row : (rows : List (List ℕ)) (x : List ℕ) → AreRows p width rows → IsRow p width (carried p width rows x)
  carried-row rows x are = IsRow-combine p width x rows positive are

  carried-normal : (rows : List (List ℕ)) (x : List ℕ) → AreRows p width rows → IsNormal p width (carried p width rows x)
  carried-normal rows x are = normal_from_row p width (carried p width rows x) (carried-row rows x are)

  pub carried-sum : (rows : List (List ℕ)) (x y : List ℕ) → AreRows p width rows
      → carried p width rows (row_sum p x y) ≡ row_sum p (carried p width rows x) (carried p width rows y)
  carried-sum rows [] y are = sym (zeros-row_sum p width (carried p width rows y) (carried-normal rows y are))
  carried-sum rows (a ∷ x) [] are = sym (row_sum-zeros p width (carried p width rows (a ∷ x)) (carried-normal rows (a ∷ x) are))
  carried-sum [] (a ∷ x) (b ∷ y) are = sym (row_sum-zeros p width (zeros width) (zeros-normal p width positive))
  carried-sum (r ∷ rows) (a ∷ x) (b ∷ y) are =
      let u : List ℕ = carried p width rows x in
      let v : List ℕ = carried p width rows y in
      ap₂ (add_rows p) (scale_row-mod p (a + b) r ∙ scale_row-add p a b r)
      (carried-sum rows x y are.1 ∙ row_sum-add_rows p u v ((carried-row rows x are.1).count ∙ sym (carried-row rows y are.1).count))
      ∙ add_rows_swap p (scale_row p a r) (scale_row p b r) u v
      ∙ sym (row_sum-add_rows p (carried p width (r ∷ rows) (a ∷ x)) (carried p width (r ∷ rows) (b ∷ y))
      ((carried-row (r ∷ rows) (a ∷ x) are).count ∙ sym (carried-row (r ∷ rows) (b ∷ y) are).count))

  pub carried-difference : (rows : List (List ℕ)) (x y : List ℕ) → length x ≡ length y
      → carried p width rows (difference p x y) ≡ difference p (carried p width rows x) (carried p width rows y)
  carried-difference rows x y e =
      combine-add_rows p width x (scale_row p (p - 1) y) rows positive (e ∙ sym (length-scale_row p (p - 1) y))
      ∙ ap (add_rows p (carried p width rows x)) (combine-scale_row p width (p - 1) y rows positive)

-- a linear map, from rows of one width to rows of another
pub record IsLinear (p from to : ℕ) (f : List ℕ → List ℕ) : Type 0 where
  pub nothing : f (zeros from) ≡ zeros to
  pub sums : (x y : List ℕ) → IsRow p from x → IsRow p from y → f (add_rows p x y) ≡ add_rows p (f x) (f y)
  pub multiples : (k : ℕ) (x : List ℕ) → IsRow p from x → f (scale_row p k x) ≡ scale_row p k (f x)

-- it takes a combination of rows to the combination of what it takes them to
pub combine-linear : (p from to : ℕ) (f : List ℕ → List ℕ) → 0 < p → IsLinear p from to f → (cs : List ℕ) (rows : List (List ℕ))
    → AreRows p from rows → f (combine p from cs rows) ≡ combine p to cs (map f rows)
combine-linear p from to f h linear [] rows are = linear.nothing
combine-linear p from to f h linear (c ∷ cs) [] are = linear.nothing
combine-linear p from to f h linear (c ∷ cs) (r ∷ rows) are =
    linear.sums (scale_row p c r) (combine p from cs rows) (IsRow-scale_row p from c r h are.0) (IsRow-combine p from cs rows h are.1)
    ∙ ap₂ (add_rows p) (linear.multiples c r are.0) (combine-linear p from to f h linear cs rows are.1)
