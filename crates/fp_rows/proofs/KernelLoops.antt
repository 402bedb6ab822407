-- Each step of the loops that add a multiple of one list to another, or scale a list, has room for its sum and writes the
-- entry of the result.
use Rattle.std.proofs.Common.{◌≡◌, ℕ, suc, ◌+◌, ◌*◌, ◌%◌, ◌<◌, ◌≤◌, List, ◌++◌, length, get_or, take, drop, ap, sym, ◌∙◌, arith}
use Rattle.std.proofs.Math.ListN.{set}
use Rattle.pq_base.specs.Table.{AllBelow}
use Rattle.pq_base.proofs.tables.TableLaws.{get_or-below}
use Rattle.fp_rows.specs.Rows.{scale_row, add_scaled}
use Rattle.fp_rows.proofs.RowLaws.{length-scale_row, length-add_scaled}
use Rattle.fp_rows.proofs.EntryLaws.{get_or-add_scaled, get_or-scale_row}
use Rattle.fp_rows.proofs.PlaceByPlace.{SumFits, sum_fits, written_get, written_more, written_all}

module _ (p k : ℕ) (xs ys zs : List ℕ) (i : ℕ) (some : 0 < p) (e : length xs ≡ length ys)
    (written : zs ≡ take i (add_scaled p k xs ys) ++ drop i xs) where
  add_scaled_read : get_or zs i 0 ≡ get_or xs i 0
  add_scaled_read =
      ap (λ (l : List ℕ). get_or l i 0) written ∙ written_get (add_scaled p k xs ys) xs i (length-add_scaled p k xs ys e)

  pub add_scaled_fits : p ≤ 13 → k < p → AllBelow p xs → AllBelow p ys → SumFits p k (get_or zs i 0) (get_or ys i 0)
  add_scaled_fits few factor left right =
      let low : get_or xs i 0 < p = get_or-below p xs i some left in
      let read : get_or zs i 0 ≡ get_or xs i 0 = add_scaled_read in
      sum_fits p k (get_or zs i 0) (get_or ys i 0) few factor (omega arith) (get_or-below p ys i some right)

  pub add_scaled_more : (y : ℕ) → i < length xs → y ≡ (get_or zs i 0 + k * get_or ys i 0) % p
      → set zs i y ≡ take (suc i) (add_scaled p k xs ys) ++ drop (suc i) xs
  add_scaled_more y h is =
      ap (λ (l : List ℕ). set l i y) written
      ∙ written_more (add_scaled p k xs ys) xs i y (length-add_scaled p k xs ys e) h
      (is
      ∙ ap (λ (x : ℕ). (x + k * get_or ys i 0) % p) add_scaled_read
      ∙ sym (get_or-add_scaled p k xs ys i some e))

  pub add_scaled_all : length xs ≤ i → zs ≡ add_scaled p k xs ys
  add_scaled_all h = written ∙ written_all (add_scaled p k xs ys) xs i (length-add_scaled p k xs ys e) h

module _ (p k : ℕ) (xs zs : List ℕ) (i : ℕ) (some : 0 < p) (written : zs ≡ take i (scale_row p k xs) ++ drop i xs) where
  scale_read : get_or zs i 0 ≡ get_or xs i 0
  scale_read = ap (λ (l : List ℕ). get_or l i 0) written ∙ written_get (scale_row p k xs) xs i (length-scale_row p k xs)

  pub scale_fits : p ≤ 13 → k < p → AllBelow p xs → SumFits p k 0 (get_or zs i 0)
  scale_fits few factor below =
      let low : get_or xs i 0 < p = get_or-below p xs i some below in
      let read : get_or zs i 0 ≡ get_or xs i 0 = scale_read in
      sum_fits p k 0 (get_or zs i 0) few factor some (omega arith)

  pub scale_more : (y : ℕ) → i < length xs → y ≡ (k * get_or zs i 0) % p
      → set zs i y ≡ take (suc i) (scale_row p k xs) ++ drop (suc i) xs
  scale_more y h is =
      ap (λ (l : List ℕ). set l i y) written
      ∙ written_more (scale_row p k xs) xs i y (length-scale_row p k xs) h
      (is ∙ ap (λ (x : ℕ). (k * x) % p) scale_read ∙ sym (get_or-scale_row p k xs i some))

  pub scale_all : length xs ≤ i → zs ≡ scale_row p k xs
  scale_all h = written ∙ written_all (scale_row p k xs) xs i (length-scale_row p k xs) h
