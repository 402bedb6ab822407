-- Modulo a reduced basis each kept tail becomes itself: the combinations that the basis makes of the tails keep their tails.
use Rattle.std.proofs.Common.{◌≡◌, ℕ, ◌+◌, ◌-◌, ◌<◌, ◌≤◌, List, [], get_or, length, ap, sym, ◌∙◌, subst, arith}
use Rattle.fp_rows.specs.Rows.{IsRow}
use Rattle.fp_echelon.specs.Reduced.{BasisRow, IsReduced}
use Rattle.fp_echelon.specs.Reduction.{reduce_by}
use Rattle.pc_presentation.specs.Pcp.{unit_row}
use Rattle.pq_base.proofs.NumberLists.{get_or-map_numbers}
use Rattle.cover_quotient.specs.Combinations.{AreKept}
use Rattle.cover_quotient.specs.Kept.{kept_columns, entries_at, kept_rows, kept_combinations}
use Rattle.cover_quotient.proofs.carried_rows.UnitRows.{IsRow-unit_row}
use Rattle.cover_quotient.proofs.kept_tails.KeptColumns.{kept_at}
use Rattle.cover_quotient.proofs.kept_tails.KeptRows.{length-kept_rows, kept_entries-row, carried-kept}
use Rattle.cover_quotient.proofs.kept_tails.KeptUnits.{carried-unit}

-- the row of a tail, counted from 1
pub get_or-kept_rows : (p width : ℕ) (bs : List BasisRow) (t : ℕ) → 1 ≤ t → t ≤ width
    → get_or (kept_rows p width bs) (t - 1) [] ≡ entries_at (kept_columns width bs) (reduce_by p bs (unit_row width t))
get_or-kept_rows p width bs t first last =
    let place : 1 + (t - 1) ≡ t = omega arith in
    get_or-map_numbers (λ (u : ℕ). entries_at (kept_columns width bs) (reduce_by p bs (unit_row width u))) 1 width (t - 1) [] (omega arith)
    ∙ ap (λ (u : ℕ). entries_at (kept_columns width bs) (reduce_by p bs (unit_row width u))) place

module _ (p width : ℕ) (some : 1 < p) (bs : List BasisRow) (reduced : IsReduced p width bs) where
  pub kept_row-fits : (t : ℕ) → 1 ≤ t → t ≤ width → IsRow p (length (kept_columns width bs)) (get_or (kept_rows p width bs) (t - 1) [])
  kept_row-fits t first last =
      subst (IsRow p (length (kept_columns width bs))) (sym (get_or-kept_rows p width bs t first last))
      (kept_entries-row p width some bs reduced (unit_row width t) (IsRow-unit_row p width t some))

  pub AreKept-kept_combinations : AreKept (kept_combinations p width bs)
  AreKept-kept_combinations k l =
      let at = kept_at width bs k l in
      let first = at.first in
      let last = at.last in
      let count = length-kept_rows p width bs in
      let c : ℕ = get_or (kept_columns width bs) k 0 in
      record {
        first = first;
        last = omega arith;
        itself =
            get_or-kept_rows p width bs c first last
            ∙ sym (carried-kept p width some bs reduced (unit_row width c) (IsRow-unit_row p width c some))
            ∙ carried-unit p width some bs reduced k l;
      }
