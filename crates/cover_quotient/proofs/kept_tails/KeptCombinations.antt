-- A row differs by a row of the span of a reduced basis from the combination of kept tails that it is carried to.
use Rattle.std.proofs.Common.{◌≡◌, ℕ, suc, ◌+◌, ◌<◌, List, [], length, map, get_or, ap, sym, ◌∙◌, arith}
use Rattle.std.proofs.lemmas.List.{length-map, get_or-map, same_lists}
use Rattle.pq_base.specs.Canonical.{numbers_from}
use Rattle.fp_rows.specs.Rows.{IsRow}
use Rattle.fp_rows.specs.Differences.{difference}
use Rattle.fp_echelon.specs.Span.{combine, InSpan}
use Rattle.fp_echelon.specs.Reduced.{BasisRow, rows_of, IsReduced}
use Rattle.fp_echelon.proofs.SpanLaws.{IsRow-combine}
use Rattle.fp_rows.proofs.DifferenceLaws.{IsRow-difference, difference-self}
use Rattle.pc_presentation.specs.Pcp.{unit_row}
use Rattle.cover_quotient.specs.Carried.{carried}
use Rattle.cover_quotient.specs.Kept.{kept_columns, kept_rows}
use Rattle.cover_quotient.proofs.carried_rows.CarriedRows.{carried-difference, carried-row, combine-linear}
use Rattle.cover_quotient.proofs.carried_rows.UnitRows.{unit_rows, IsRow-unit_row, AreRows-unit_rows, combine-unit_rows}
use Rattle.pq_base.proofs.NumberLists.{length-numbers_from, get_or-numbers_from}
use Rattle.cover_quotient.proofs.kept_tails.KeptRows.{kept_entries, kept_entries-linear, kept_rows-are_rows, carried-kept, carried-zero}
use Rattle.cover_quotient.proofs.kept_tails.KeptUnits.{carried-unit}

-- the unit rows of the kept columns
abbrev pub kept_units : ℕ → List BasisRow → List (List ℕ)
kept_units width bs = map (unit_row width) (kept_columns width bs)

module _ (p width : ℕ) (some : 1 < p) (bs : List BasisRow) (reduced : IsReduced p width bs) where
  abbrev K : List ℕ
  K = kept_columns width bs

  abbrev carry : List ℕ → List ℕ
  carry x = carried p (length (kept_columns width bs)) (kept_rows p width bs) x

  units-mapped : map (kept_entries p width some bs reduced) (kept_units width bs) ≡ unit_rows (length K)
  units-mapped =
      let s : ℕ = length (kept_columns width bs) in
      let inner : length (kept_units width bs) ≡ length K = length-map K (unit_row width) in
      let long : length (map (kept_entries p width some bs reduced) (kept_units width bs)) ≡ length K =
      length-map (kept_units width bs) (kept_entries p width some bs reduced) ∙ inner in
      let numbers : length (numbers_from 1 (length K)) ≡ length K = length-numbers_from 1 (length K) in
      let long' : length (unit_rows (length K)) ≡ length K = length-map (numbers_from 1 (length K)) (unit_row (length K)) ∙ numbers in
      same_lists (map (kept_entries p width some bs reduced) (kept_units width bs)) (unit_rows (length K)) (long ∙ sym long')
      (λ k d m.
      let within : k < length K = omega arith in
      let next : 1 + k ≡ suc k = omega arith in
      let c : ℕ = get_or (kept_columns width bs) k 0 in
      get_or-map (kept_entries p width some bs reduced) (kept_units width bs) k [] d (omega arith)
      ∙ ap (kept_entries p width some bs reduced) (get_or-map (unit_row width) K k 0 [] within)
      ∙ sym (carried-kept p width some bs reduced (unit_row width c) (IsRow-unit_row p width c some))
      ∙ carried-unit p width some bs reduced k within
      ∙ sym (get_or-map (unit_row s) (numbers_from 1 s) k 0 d (omega arith)
      ∙ ap (unit_row s) (get_or-numbers_from 1 s k 0 within ∙ next)))

  pub kept_units-rows : (y : List ℕ) → IsRow p width (combine p width y (kept_units width bs))
  kept_units-rows y = IsRow-combine p width y (kept_units width bs) (omega arith) (AreRows-unit_rows p width K some)

  -- a combination of kept tails is carried to its coefficients
  carried-combination : (y : List ℕ) → IsRow p (length K) y → carry (combine p width y (kept_units width bs)) ≡ y
  carried-combination y h =
      let positive : 0 < p = omega arith in
      carried-kept p width some bs reduced (combine p width y (kept_units width bs)) (kept_units-rows y)
      ∙ combine-linear p width (length K) (kept_entries p width some bs reduced) positive (kept_entries-linear p width some bs reduced) y
      (kept_units width bs) (AreRows-unit_rows p width K some)
      ∙ ap (combine p (length K) y) units-mapped
      ∙ combine-unit_rows p (length K) y positive h

  pub carried-is_row : (x : List ℕ)
      → IsRow p (length (kept_columns width bs)) (carried p (length (kept_columns width bs)) (kept_rows p width bs) x)
  carried-is_row x = carried-row p (length K) (omega arith) (kept_rows p width bs) x (kept_rows-are_rows p width some bs reduced)

  pub carried-in_span : (x : List ℕ) → IsRow p width x
      → InSpan p width (rows_of bs)
      (difference p x (combine p width (carried p (length (kept_columns width bs)) (kept_rows p width bs) x) (kept_units width bs)))
  carried-in_span x row =
      let positive : 0 < p = omega arith in
      let y : List ℕ = carried p (length (kept_columns width bs)) (kept_rows p width bs) x in
      let z : List ℕ = combine p width (carried p (length (kept_columns width bs)) (kept_rows p width bs) x) (kept_units width bs) in
      let row' : IsRow p width z = kept_units-rows y in
      let zero = carried-difference p (length K) positive (kept_rows p width bs) x z (row.count ∙ sym row'.count)
      ∙ ap (difference p y) (carried-combination y (carried-is_row x))
      ∙ difference-self p (length K) some y (carried-is_row x) in
      (carried-zero p width some bs reduced (difference p x z) (IsRow-difference p width some x z row row')).0 zero
