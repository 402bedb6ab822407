-- What becomes of one tail modulo a reduced basis: one with a pivot becomes minus the other entries of its basis row, and one
-- without becomes itself.
use Rattle.std.proofs.Common.{◌≡◌, ◌≢◌, ℕ, zero, suc, ◌+◌, ◌-◌, ◌*◌, ◌%◌, ◌<◌, ◌≤◌, Bool, cond, eqb, List, [], ◌∷◌, length, map, get_or}
use Rattle.std.proofs.Common.{inl, inr, refl, ap, ap₂, sym, ◌∙◌, subst, arith, eq-eqb, ne_eqb, mod-eq_of_lt, zero-add}
use Rattle.std.specs.Prelude.{All}
use Rattle.std.proofs.Math.Nat.{mul-suc, suc-mul, mul-add-mod_self_left}
use Rattle.std.proofs.lemmas.Bool.{cases_eq}
use Rattle.std.proofs.lemmas.Nat.{mul-mod_first}
use Rattle.std.proofs.lemmas.List.Elements.{All-from_get_or}
use Rattle.fp_rows.specs.Rows.{IsRow}
use Rattle.fp_rows.specs.Row.{at_column, IsColumn}
use Rattle.fp_rows.proofs.EntryLaws.{at_column-below}
use Rattle.fp_echelon.specs.Reduced.{BasisRow, rows_of, IsPivot, at_pivot, IsReduced}
use Rattle.fp_echelon.specs.Reduction.{negative, cleared, reduce_by}
use Rattle.fp_echelon.proofs.ReductionLaws.{at_column-add_scaled, negative-zero, IsRow-cleared, at_column-cleared, at_column-cleared_other}
use Rattle.fp_echelon.proofs.ReductionLaws.{InSpan-cleared}
use Rattle.fp_echelon.proofs.PivotLaws.{representative_is}
use Rattle.fp_echelon.proofs.UniqueBasis.{found, ZeroAtPivots-from}
use Rattle.fp_echelon.proofs.ReduceMap.{reduce_by-fixed}
use Rattle.pc_presentation.specs.Pcp.{unit_row}
use Rattle.cover_quotient.specs.Kept.{kept_columns, entries_at, kept_rows}
use Rattle.cover_quotient.proofs.carried_rows.UnitRows.{IsRow-unit_row, at_column-unit_row, at_column-unit_row_other}
use Rattle.cover_quotient.proofs.kept_tails.KeptColumns.{IsKept, all_kept}
use Rattle.cover_quotient.proofs.kept_tails.KeptThemselves.{get_or-kept_rows}
use Rattle.cover_quotient.proofs.kept_tails.KeptUnits.{pivot-first}

-- minus a residue, as a multiple by minus one
minus_product : (q r : ℕ) → suc r ≤ suc q → q * suc r ≡ suc q * r + (suc q - suc r)
minus_product q r h =
    let a : q * suc r ≡ q * r + q = mul-suc q r in
    let b : suc q * r ≡ q * r + r = suc-mul q r in
    omega arith

minus_times : (q r : ℕ) → r ≤ q → (q * r) % suc q ≡ (suc q - r) % suc q
minus_times q zero h =
    let none : q * 0 ≡ 0 = omega arith in
    let some : 0 < suc q = omega arith in
    ap (λ (n : ℕ). n % suc q) none ∙ mod-eq_of_lt some ∙ sym (negative-zero (suc q))
minus_times q (suc r) h =
    ap (λ (n : ℕ). n % suc q) (minus_product q r (omega arith)) ∙ mul-add-mod_self_left (suc q) r (suc q - suc r)

-- the entry of a row taken once away from 0
taken_away : (p r : ℕ) → 1 < p → r < p → (0 + negative p 1 * r) % p ≡ negative p r
taken_away zero r h l = absurd (omega arith)
taken_away (suc q) r h l =
    let less : suc q - 1 ≡ q = omega arith in
    ap (λ (n : ℕ). n % suc q) (zero-add (negative (suc q) 1 * r))
    ∙ mul-mod_first (suc q - 1) r (suc q) ∙ ap (λ (n : ℕ). (n * r) % suc q) less ∙ minus_times q r (omega arith)

map_agree : (f g : ℕ → ℕ) (P : ℕ → Type 0) (xs : List ℕ) → ((x : ℕ) → P x → f x ≡ g x) → ((k : ℕ) → k < length xs → P (get_or xs k 0))
    → map f xs ≡ map g xs
map_agree f g P [] same all = refl
map_agree f g P (x ∷ xs) same all =
    ap₂ (λ (n : ℕ) (l : List ℕ). n ∷ l) (same x (all 0 (let l : 0 < length (x ∷ xs) = omega arith in l)))
    (map_agree f g P xs same (λ k l. all (suc k) (let m : suc k < length (x ∷ xs) = omega arith in m)))

module _ (p width : ℕ) (some : 1 < p) (bs : List BasisRow) (reduced : IsReduced p width bs) where
  abbrev K : List ℕ
  K = kept_columns width bs

  module _ (t : ℕ) (first : 1 ≤ t) (last : t ≤ width) where
    unit-row : IsRow p width (unit_row width t)
    unit-row = IsRow-unit_row p width t some

    module _ (pivot : IsPivot t bs) where
      abbrev row : List ℕ
      row = (at_pivot t bs).row

      row-row : IsRow p width (at_pivot t bs).row
      row-row = (found p width some t bs reduced pivot).pivot_row.fits

      row-one : at_column (at_pivot t bs).row t ≡ 1
      row-one =
          let f = found p width some t bs reduced pivot in
          ap (at_column (at_pivot t bs).row) (sym f.at) ∙ f.pivot_row.one

      -- the unit row of a pivot is cleared by its basis row alone
      reduce-unit : reduce_by p bs (unit_row width t) ≡ cleared p t (at_pivot t bs).row (unit_row width t)
      reduce-unit =
          let f = found p width some t bs reduced pivot in
          let x : List ℕ = unit_row width t in
          let y : List ℕ = cleared p t row x in
          sym (representative_is p width some bs x y reduced unit-row (record {
            fits = IsRow-cleared p width some row x row-row unit-row t;
            zero = ZeroAtPivots-from y bs (λ d h. elim (cases_eq d t) [
              | inl same ↦
                  ap (at_column y) same ∙ at_column-cleared p width some row x row-row unit-row t row-one
              | inr other ↦
                  at_column-cleared_other p width some row x row-row unit-row t d (f.others d h other)
                  ∙ at_column-unit_row_other width t d (pivot-first p width some bs reduced d h) (λ e. other (sym e))
            ]);
            span = InSpan-cleared p width some row x row-row unit-row t (rows_of bs) f.span;
          }))

      pivot_entry : (c : ℕ) → IsKept width bs c
          → at_column (reduce_by p bs (unit_row width t)) c ≡ negative p (at_column (at_pivot t bs).row c)
      pivot_entry c k =
          let x : List ℕ = unit_row width t in
          let other : t ≢ c = λ e. k.no_pivot (subst (λ (n : ℕ). IsPivot n bs) e pivot) in
          let r : ℕ = at_column (at_pivot t bs).row c in
          ap (λ (l : List ℕ). at_column l c) reduce-unit
          ∙ at_column-add_scaled p (negative p (at_column x t)) x row c (omega arith) (unit-row.count ∙ sym row-row.count)
          ∙ ap₂ (λ (a b : ℕ). (a + negative p b * r) % p) (at_column-unit_row_other width t c k.first other)
          (at_column-unit_row width t first last)
          ∙ taken_away p r some (at_column-below p row c (omega arith) row-row.below)

      -- a tail with a pivot becomes minus the other entries of its basis row
      pub kept_row-pivot : get_or (kept_rows p width bs) (t - 1) []
          ≡ map (λ c. negative p (at_column (at_pivot t bs).row c)) (kept_columns width bs)
      kept_row-pivot =
          get_or-kept_rows p width bs t first last
          ∙ map_agree (at_column (reduce_by p bs (unit_row width t))) (λ c. negative p (at_column (at_pivot t bs).row c))
          (IsKept width bs) K pivot_entry
          (λ k l. all_kept width bs k 0 l)

      -- whose columns they are
      pub kept-columns : All (IsColumn (at_pivot t bs).row) (kept_columns width bs)
      kept-columns =
          let long = row-row.count in
          All-from_get_or (IsColumn (at_pivot t bs).row) K 0 (λ k l.
          let h = all_kept width bs k 0 l in
          let low = h.first in
          let high = h.last in
          record { first = low; last = omega arith })

    module _ (none : IsPivot t bs → ⊥) where
      plain_entry : (c : ℕ) → IsKept width bs c → at_column (unit_row width t) c ≡ cond (eqb t c) 1 0
      plain_entry c k = elim (cases_eq t c) [
        | inl same ↦
            ap (at_column (unit_row width t)) (sym same) ∙ at_column-unit_row width t first last
            ∙ ap (λ (b : Bool). cond b 1 0) (sym (eq-eqb t c same))
        | inr other ↦
            at_column-unit_row_other width t c k.first other ∙ ap (λ (b : Bool). cond b 1 0) (sym (ne_eqb t c other))
      ]

      -- a tail without one becomes itself
      pub kept_row-no_pivot : get_or (kept_rows p width bs) (t - 1) []
          ≡ map (λ c. cond (eqb t c) 1 0) (kept_columns width bs)
      kept_row-no_pivot =
          get_or-kept_rows p width bs t first last
          ∙ ap (entries_at K) (reduce_by-fixed p width some bs (unit_row width t) reduced unit-row
          (ZeroAtPivots-from (unit_row width t) bs (λ d h.
          at_column-unit_row_other width t d (pivot-first p width some bs reduced d h)
          (λ e. none (subst (λ (n : ℕ). IsPivot n bs) (sym e) h)))))
          ∙ map_agree (at_column (unit_row width t)) (λ c. cond (eqb t c) 1 0) (IsKept width bs) K plain_entry
          (λ k l. all_kept width bs k 0 l)
