-- Combinations are linear in their coefficients, so a span holds the zero row, sums, multiples, each of its rows, and
-- whatever is spanned by rows that it holds.
use Rattle.std.proofs.Common.{◌≡◌, ℕ, zero, suc, ◌+◌, ◌*◌, ◌%◌, ◌-◌, ◌<◌, ◌≤◌, List, [], ◌∷◌, ◌++◌, get_or, length, refl, ap, ap₂, sym, ◌∙◌}
use Rattle.std.proofs.Common.{subst, arith, mod-eq_of_lt, length-append}
use Rattle.pq_base.specs.Table.{AllBelow}
use Rattle.pq_base.specs.Elementary.{zeros}
use Rattle.fp_rows.specs.Rows.{IsRow, add_rows, scale_row, add_scaled}
use Rattle.fp_rows.proofs.RowLaws.{IsRow-zeros, IsRow-add_rows, IsRow-scale_row, add_rows-zeros, zeros-add_rows, add_rows_comm}
use Rattle.fp_rows.proofs.RowLaws.{add_rows_assoc, add_rows_swap, scale_row-add_rows, scale_row-scale_row, scale_row-add, scale_row-mod}
use Rattle.fp_rows.proofs.RowLaws.{scale_row-one, scale_row-zero, scale_row-zeros}
use Rattle.fp_echelon.specs.Span.{combine, AreRows, InSpan, EachInSpan}

pub IsRow-combine : (p width : ℕ) (cs : List ℕ) (rows : List (List ℕ)) → 0 < p → AreRows p width rows
    → IsRow p width (combine p width cs rows)
IsRow-combine p width [] rows h are = IsRow-zeros p width h
IsRow-combine p width (c ∷ cs) [] h are = IsRow-zeros p width h
IsRow-combine p width (c ∷ cs) (r ∷ rows) h are =
    IsRow-add_rows p width (scale_row p c r) (combine p width cs rows) h
    (IsRow-scale_row p width c r h are.0) (IsRow-combine p width cs rows h are.1)

-- an entry of rows is a row
pub AreRows-entry : (p width : ℕ) (rows : List (List ℕ)) (t : ℕ) (d : List ℕ) → t < length rows → AreRows p width rows
    → IsRow p width (get_or rows t d)
AreRows-entry p width [] t d l are = absurd (omega arith)
AreRows-entry p width (r ∷ rows) zero d l are = are.0
AreRows-entry p width (r ∷ rows) (suc t) d l are = AreRows-entry p width rows t d (omega arith) are.1

add_zeros : (p width : ℕ) → 0 < p → zeros width ≡ add_rows p (zeros width) (zeros width)
add_zeros p width h = sym (zeros-add_rows p width (zeros width) (IsRow-zeros p width h))

pub combine-add_rows : (p width : ℕ) (cs ds : List ℕ) (rows : List (List ℕ)) → 0 < p → length cs ≡ length ds
    → combine p width (add_rows p cs ds) rows ≡ add_rows p (combine p width cs rows) (combine p width ds rows)
combine-add_rows p width [] [] rows h e = add_zeros p width h
combine-add_rows p width [] (d ∷ ds) rows h e = absurd (omega arith)
combine-add_rows p width (c ∷ cs) [] rows h e = absurd (omega arith)
combine-add_rows p width (c ∷ cs) (d ∷ ds) [] h e = add_zeros p width h
combine-add_rows p width (c ∷ cs) (d ∷ ds) (r ∷ rows) h e =
    ap₂ (add_rows p) (scale_row-mod p (c + d) r ∙ scale_row-add p c d r) (combine-add_rows p width cs ds rows h (omega arith))
    ∙ add_rows_swap p (scale_row p c r) (scale_row p d r) (combine p width cs rows) (combine p width ds rows)

pub combine-scale_row : (p width k : ℕ) (cs : List ℕ) (rows : List (List ℕ)) → 0 < p
    → combine p width (scale_row p k cs) rows ≡ scale_row p k (combine p width cs rows)
combine-scale_row p width k [] rows h = sym (scale_row-zeros p k width h)
combine-scale_row p width k (c ∷ cs) [] h = sym (scale_row-zeros p k width h)
combine-scale_row p width k (c ∷ cs) (r ∷ rows) h =
    ap₂ (add_rows p) (scale_row-mod p (k * c) r ∙ sym (scale_row-scale_row p k c r)) (combine-scale_row p width k cs rows h)
    ∙ sym (scale_row-add_rows p k (scale_row p c r) (combine p width cs rows))

pub combine-zeros : (p width n : ℕ) (rows : List (List ℕ)) → 0 < p → AreRows p width rows → combine p width (zeros n) rows ≡ zeros width
combine-zeros p width zero rows h are = refl
combine-zeros p width (suc n) [] h are = refl
combine-zeros p width (suc n) (r ∷ rows) h are =
    ap₂ (add_rows p) (scale_row-zero p r h ∙ ap zeros are.0.count) (combine-zeros p width n rows h are.1)
    ∙ sym (add_zeros p width h)

-- one more row at the end
pub combine-push : (p width c : ℕ) (cs : List ℕ) (r : List ℕ) (rows : List (List ℕ)) → 0 < p → length cs ≡ length rows
    → IsRow p width r → AreRows p width rows
    → combine p width (cs ++ c ∷ []) (rows ++ r ∷ []) ≡ add_rows p (combine p width cs rows) (scale_row p c r)
combine-push p width c [] r [] h e row are = add_rows_comm p (scale_row p c r) (zeros width)
combine-push p width c [] r (s ∷ rows) h e row are = absurd (omega arith)
combine-push p width c (d ∷ cs) r [] h e row are = absurd (omega arith)
combine-push p width c (d ∷ cs) r (s ∷ rows) h e row are =
    ap (λ (x : List ℕ). add_rows p (scale_row p d s) x) (combine-push p width c cs r rows h (omega arith) row are.1)
    ∙ sym (add_rows_assoc p (scale_row p d s) (combine p width cs rows) (scale_row p c r))

-- spans
pub IsRow-InSpan : (p width : ℕ) (rows : List (List ℕ)) (x : List ℕ) → 0 < p → AreRows p width rows → InSpan p width rows x
    → IsRow p width x
IsRow-InSpan p width rows x h are s =
    subst (λ (l : List ℕ). IsRow p width l) s.sum (IsRow-combine p width s.coefficients rows h are)

pub InSpan-zeros : (p width : ℕ) (rows : List (List ℕ)) → 0 < p → AreRows p width rows → InSpan p width rows (zeros width)
InSpan-zeros p width rows h are = record {
  coefficients = zeros (length rows);
  fits = IsRow-zeros p (length rows) h;
  sum = combine-zeros p width (length rows) rows h are;
}

pub InSpan-add_rows : (p width : ℕ) (rows : List (List ℕ)) (x y : List ℕ) → 0 < p → InSpan p width rows x → InSpan p width rows y
    → InSpan p width rows (add_rows p x y)
InSpan-add_rows p width rows x y h s t = record {
  coefficients = add_rows p s.coefficients t.coefficients;
  fits = IsRow-add_rows p (length rows) s.coefficients t.coefficients h s.fits t.fits;
  sum = combine-add_rows p width s.coefficients t.coefficients rows h (s.fits.count ∙ sym t.fits.count) ∙ ap₂ (add_rows p) s.sum t.sum;
}

pub InSpan-scale_row : (p width k : ℕ) (rows : List (List ℕ)) (x : List ℕ) → 0 < p → InSpan p width rows x
    → InSpan p width rows (scale_row p k x)
InSpan-scale_row p width k rows x h s = record {
  coefficients = scale_row p k s.coefficients;
  fits = IsRow-scale_row p (length rows) k s.coefficients h s.fits;
  sum = combine-scale_row p width k s.coefficients rows h ∙ ap (scale_row p k) s.sum;
}

-- more rows span more
pub InSpan-cons : (p width : ℕ) (r : List ℕ) (rows : List (List ℕ)) (x : List ℕ) → 0 < p → IsRow p width r → AreRows p width rows
    → InSpan p width rows x → InSpan p width (r ∷ rows) x
InSpan-cons p width r rows x h row are s = record {
  coefficients = 0 ∷ s.coefficients;
  fits = record { count = ap (λ (n : ℕ). suc n) s.fits.count; below = (h, s.fits.below) };
  sum =
      ap (λ (l : List ℕ). add_rows p l (combine p width s.coefficients rows)) (scale_row-zero p r h ∙ ap zeros row.count)
      ∙ zeros-add_rows p width (combine p width s.coefficients rows) (IsRow-combine p width s.coefficients rows h are)
      ∙ s.sum;
}

pub InSpan-head : (p width : ℕ) (r : List ℕ) (rows : List (List ℕ)) → 1 < p → IsRow p width r → AreRows p width rows
    → InSpan p width (r ∷ rows) r
InSpan-head p width r rows h row are = record {
  coefficients = 1 ∷ zeros (length rows);
  fits = record {
    count = ap (λ (n : ℕ). suc n) (IsRow-zeros p (length rows) (omega arith)).count;
    below = (h, (IsRow-zeros p (length rows) (omega arith)).below);
  };
  sum =
      ap₂ (add_rows p) (scale_row-one p r row.below) (combine-zeros p width (length rows) rows (omega arith) are)
      ∙ ap (λ (n : ℕ). add_rows p r (zeros n)) (sym row.count)
      ∙ add_rows-zeros p r row.below;
}

pub EachInSpan-cons : (p width : ℕ) (r : List ℕ) (rows xs : List (List ℕ)) → 0 < p → IsRow p width r → AreRows p width rows
    → EachInSpan p width rows xs → EachInSpan p width (r ∷ rows) xs
EachInSpan-cons p width r rows [] h row are each = tt
EachInSpan-cons p width r rows (x ∷ xs) h row are each =
    (InSpan-cons p width r rows x h row are each.0, EachInSpan-cons p width r rows xs h row are each.1)

-- rows are in their own span
pub EachInSpan-own : (p width : ℕ) (rows : List (List ℕ)) → 1 < p → AreRows p width rows → EachInSpan p width rows rows
EachInSpan-own p width [] h are = tt
EachInSpan-own p width (r ∷ rows) h are = (
  InSpan-head p width r rows h are.0 are.1,
  EachInSpan-cons p width r rows rows (omega arith) are.0 are.1 (EachInSpan-own p width rows h are.1),
)

-- a span holds what rows that it holds span
combine-InSpan : (p width : ℕ) (rows : List (List ℕ)) (cs : List ℕ) (xs : List (List ℕ)) → 0 < p → AreRows p width rows
    → EachInSpan p width rows xs → InSpan p width rows (combine p width cs xs)
combine-InSpan p width rows [] xs h are each = InSpan-zeros p width rows h are
combine-InSpan p width rows (c ∷ cs) [] h are each = InSpan-zeros p width rows h are
combine-InSpan p width rows (c ∷ cs) (x ∷ xs) h are each =
    InSpan-add_rows p width rows (scale_row p c x) (combine p width cs xs) h
    (InSpan-scale_row p width c rows x h each.0) (combine-InSpan p width rows cs xs h are each.1)

pub InSpan-trans : (p width : ℕ) (rows xs : List (List ℕ)) (x : List ℕ) → 0 < p → AreRows p width rows
    → EachInSpan p width rows xs → InSpan p width xs x → InSpan p width rows x
InSpan-trans p width rows xs x h are each s =
    subst (λ (l : List ℕ). InSpan p width rows l) s.sum (combine-InSpan p width rows s.coefficients xs h are each)

pub EachInSpan-trans : (p width : ℕ) (rows xs ys : List (List ℕ)) → 0 < p → AreRows p width rows
    → EachInSpan p width rows xs → EachInSpan p width xs ys → EachInSpan p width rows ys
EachInSpan-trans p width rows xs [] h are each each' = tt
EachInSpan-trans p width rows xs (y ∷ ys) h are each each' =
    (InSpan-trans p width rows xs y h are each each'.0, EachInSpan-trans p width rows xs ys h are each each'.1)

-- one more row at the end
pub AreRows-push : (p width : ℕ) (rows : List (List ℕ)) (r : List ℕ) → AreRows p width rows → IsRow p width r
    → AreRows p width (rows ++ r ∷ [])
AreRows-push p width [] r are row = (row, tt)
AreRows-push p width (s ∷ rows) r are row = (are.0, AreRows-push p width rows r are.1 row)

pub EachInSpan-front : (p width : ℕ) (rows : List (List ℕ)) (r : List ℕ) → 1 < p → AreRows p width rows → IsRow p width r
    → EachInSpan p width (rows ++ r ∷ []) rows
EachInSpan-front p width [] r h are row = tt
EachInSpan-front p width (s ∷ rows) r h are row = (
  InSpan-head p width s (rows ++ r ∷ []) h are.0 (AreRows-push p width rows r are.1 row),
  EachInSpan-cons p width s (rows ++ r ∷ []) rows (omega arith) are.0 (AreRows-push p width rows r are.1 row)
      (EachInSpan-front p width rows r h are.1 row),
)

pub InSpan-push : (p width : ℕ) (rows : List (List ℕ)) (r x : List ℕ) → 1 < p → AreRows p width rows → IsRow p width r
    → InSpan p width rows x → InSpan p width (rows ++ r ∷ []) x
InSpan-push p width rows r x h are row s =
    InSpan-trans p width (rows ++ r ∷ []) rows x (omega arith) (AreRows-push p width rows r are row)
    (EachInSpan-front p width rows r h are row) s

pub InSpan-last : (p width : ℕ) (rows : List (List ℕ)) (r : List ℕ) → 1 < p → AreRows p width rows → IsRow p width r
    → InSpan p width (rows ++ r ∷ []) r
InSpan-last p width [] r h are row = InSpan-head p width r [] h row tt
InSpan-last p width (s ∷ rows) r h are row =
    InSpan-cons p width s (rows ++ r ∷ []) r (omega arith) are.0 (AreRows-push p width rows r are.1 row)
    (InSpan-last p width rows r h are.1 row)

pub EachInSpan-push : (p width : ℕ) (rows xs : List (List ℕ)) (x : List ℕ) → EachInSpan p width rows xs → InSpan p width rows x
    → EachInSpan p width rows (xs ++ x ∷ [])
EachInSpan-push p width rows [] x each s = (s, tt)
EachInSpan-push p width rows (y ∷ xs) x each s = (each.0, EachInSpan-push p width rows xs x each.1 s)
