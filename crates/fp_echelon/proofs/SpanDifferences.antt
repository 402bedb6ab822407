-- Rows that differ by a row of a span: differences that lie in it.
use Rattle.std.proofs.Common.{ℕ, ◌-◌, ◌<◌, List, sym, subst, arith}
use Rattle.fp_rows.specs.Rows.{IsRow, scale_row}
use Rattle.fp_rows.specs.Differences.{difference}
use Rattle.fp_rows.proofs.DifferenceLaws.{difference-self, difference-add_rows, difference-trans, difference-turned}
use Rattle.fp_echelon.specs.Span.{AreRows, InSpan}
use Rattle.fp_echelon.proofs.SpanLaws.{InSpan-zeros, InSpan-add_rows, InSpan-scale_row}

module _ (p width : ℕ) (some : 1 < p) (rows : List (List ℕ)) (are : AreRows p width rows) where
  pub InSpan-self : (x : List ℕ) → IsRow p width x → InSpan p width rows (difference p x x)
  InSpan-self x row =
      subst (λ (l : List ℕ). InSpan p width rows l) (sym (difference-self p width some x row)) (InSpan-zeros p width rows (omega arith) are)

  pub InSpan-through : (x y z : List ℕ) → IsRow p width x → IsRow p width y → IsRow p width z
      → InSpan p width rows (difference p x y) → InSpan p width rows (difference p y z) → InSpan p width rows (difference p x z)
  InSpan-through x y z row row' row'' s t =
      subst (λ (l : List ℕ). InSpan p width rows l) (difference-trans p width some x y z row row' row'')
      (InSpan-add_rows p width rows (difference p x y) (difference p y z) (omega arith) s t)

  pub InSpan-turned : (x y : List ℕ) → IsRow p width x → IsRow p width y
      → InSpan p width rows (difference p x y) → InSpan p width rows (difference p y x)
  InSpan-turned x y row row' s =
      subst (λ (l : List ℕ). InSpan p width rows l) (difference-turned p width some x y row row')
      (InSpan-scale_row p width (p - 1) rows (difference p x y) (omega arith) s)

  -- a row lies in a span that holds another and their difference
  pub InSpan-shifted : (x y : List ℕ) → IsRow p width x → IsRow p width y
      → InSpan p width rows (difference p x y) → InSpan p width rows y → InSpan p width rows x
  InSpan-shifted x y row row' s t =
      subst (λ (l : List ℕ). InSpan p width rows l) (difference-add_rows p width some x y row row')
      (InSpan-add_rows p width rows (difference p x y) y (omega arith) s t)

  pub InSpan-difference : (x y : List ℕ) → InSpan p width rows x → InSpan p width rows y → InSpan p width rows (difference p x y)
  InSpan-difference x y s t =
      InSpan-add_rows p width rows x (scale_row p (p - 1) y) (omega arith) s
      (InSpan-scale_row p width (p - 1) rows y (omega arith) t)
