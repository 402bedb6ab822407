-- A span that holds a row and that each matrix carries into itself holds the row times the matrices of any list. And a span is
-- carried into itself where the old one is and the images of the new rows lie in it.
use Rattle.std.proofs.Common.{◌≡◌, ℕ, zero, suc, ◌+◌, ◌-◌, ◌<◌, ⊎_elim, List, [], ◌∷◌, ◌++◌, length, get_or, map, sym, subst, arith}
use Rattle.std.proofs.Common.{length-append}
use Rattle.std.proofs.lemmas.Bool.{cases_lt}
use Rattle.std.proofs.lemmas.List.{get_or_append_left, get_or-map, length-map}
use Rattle.pq_base.specs.Elementary.{zeros}
use Rattle.pq_base.specs.LPresentation.{AreEndoNumbers}
use Rattle.fp_rows.specs.Row.{PrimeRow}
use Rattle.fp_echelon.specs.Span.{AreRows, InSpan, EachInSpan}
use Rattle.fp_echelon.specs.Matrix.{PrimeMatrix, times_matrix, entries_of}
use Rattle.fp_echelon.proofs.SpanLaws.{InSpan-zeros, EachInSpan-own}
use Rattle.fp_echelon.proofs.MatrixLaws.{Carries-from_rows}
use Rattle.relator_spin.specs.declared.spun.Spun.{Spun}
use Rattle.relator_spin.specs.Closure.{matrix_at, row_along, spun_rows, AreNames, IsClosed}
use Rattle.relator_spin.proofs.SpanParts.{EachInSpan-at, EachInSpan-by_place, AreRows-front, InSpan-longer}

module _ (p width : ℕ) (ms : List PrimeMatrix) (others : List (List ℕ)) (closed : IsClosed p width ms others) where
  pub InSpan-row_along : (s : List ℕ) (x : List ℕ) → AreEndoNumbers (length ms) s → InSpan p width others x
      → InSpan p width others (row_along p width ms s x)
  InSpan-row_along [] x numbers h = h
  InSpan-row_along (zero ∷ s) x numbers h = elim numbers [ ]
  InSpan-row_along (suc e ∷ s) x numbers h =
      closed e numbers.0 (row_along p width ms s x) (InSpan-row_along s x numbers.1 h)

  pub EachInSpan-spun_rows : (rows : List PrimeRow) (names : List Spun) → EachInSpan p width others (entries_of rows)
      → AreNames (length rows) (length ms) names → EachInSpan p width others (spun_rows p width rows ms names)
  EachInSpan-spun_rows rows [] each are = tt
  EachInSpan-spun_rows rows (s ∷ names) each are =
      let first = are.0 in
      let last = are.1 in (
        InSpan-row_along s.along (get_or (entries_of rows) (s.row - 1) []) are.2
            (EachInSpan-at p width others (entries_of rows) (s.row - 1) []
            (omega (arith, length-map rows (λ (r : PrimeRow). r.entries))) each),
        EachInSpan-spun_rows rows names each are.3,
      )

module _ (p width : ℕ) (some : 1 < p) (ms : List PrimeMatrix) (old more : List (List ℕ)) (are : AreRows p width (old ++ more)) where
  -- the images of old rows and of new ones
  pub InSpan-image : (e i : ℕ) → e < length ms → i < length (old ++ more) → IsClosed p width ms old
      → ((j : ℕ) → j < length more
      → InSpan p width (old ++ more) (times_matrix p width (matrix_at ms (suc e)) (get_or (old ++ more) (length old + j) [])))
      → InSpan p width (old ++ more) (times_matrix p width (matrix_at ms (suc e)) (get_or (old ++ more) i []))
  InSpan-image e i l h closed images =
      let m : List (List ℕ) = matrix_at ms (suc e) in
      ⊎_elim
      (λ older.
      subst (λ (x : List ℕ). InSpan p width (old ++ more) (times_matrix p width m x)) (sym (get_or_append_left old more [] i older))
      (InSpan-longer p width some old more are (times_matrix p width m (get_or old i []))
      (closed e l (get_or old i [])
      (EachInSpan-at p width old old i [] older (EachInSpan-own p width old some (AreRows-front p width old more are))))))
      (λ newer.
      let place : length old + (i - length old) ≡ i = omega arith in
      subst (λ (k : ℕ). InSpan p width (old ++ more) (times_matrix p width m (get_or (old ++ more) k []))) place
      (images (i - length old) (omega (arith, length-append old more)))) (cases_lt i (length old))

  pub IsClosed-more : IsClosed p width ms old
      → ((j e : ℕ) → j < length more → e < length ms
      → InSpan p width (old ++ more) (times_matrix p width (matrix_at ms (suc e)) (get_or (old ++ more) (length old + j) [])))
      → IsClosed p width ms (old ++ more)
  IsClosed-more closed images e l =
      let m : List (List ℕ) = matrix_at ms (suc e) in
      Carries-from_rows p width (omega arith) m (old ++ more)
      (InSpan-longer p width some old more are (times_matrix p width m (zeros width))
      (closed e l (zeros width) (InSpan-zeros p width old (omega arith) (AreRows-front p width old more are))))
      (old ++ more) are
      (EachInSpan-by_place p width (old ++ more) (map (times_matrix p width m) (old ++ more))
      (λ i h.
      let within : i < length (old ++ more) = omega (arith, length-map (old ++ more) (times_matrix p width m)) in
      subst (λ (x : List ℕ). InSpan p width (old ++ more) x) (sym (get_or-map (times_matrix p width m) (old ++ more) i [] [] within))
      (InSpan-image e i l within closed (λ j h'. images j e h' l))))
