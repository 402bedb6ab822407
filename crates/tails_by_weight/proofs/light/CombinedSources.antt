-- Combinations of rows that are given for the sources on a list. Where a source stands on the list, the combination that the row of
-- its place says is the row given for the source; and sources with coefficient 0 may be left out of the list.
use Rattle.std.proofs.Common.{◌≡◌, ◌-◌, ◌+◌, ◌<◌, ◌≤◌, ℕ, suc, Bool, false, Option, None, Some, List, [], ◌∷◌, get_or, length, map, inl}
use Rattle.std.proofs.Common.{inr, refl, ap, ap₂, sym, ◌∙◌, arith}
use Rattle.std.specs.Prelude.{filter}
use Rattle.std.proofs.lemmas.Bool.{cases_Bool, cond-true, cond-false}
use Rattle.std.proofs.lemmas.List.{length-map, get_or-map}
use Rattle.pq_base.specs.Elementary.{zeros}
use Rattle.pq_base.specs.Answer.{Definition as Source}
use Rattle.pq_base.specs.Answer.Definition.{image}
use Rattle.pq_base.specs.Canonical.{numbers_from}
use Rattle.fp_rows.specs.Rows.{IsRow, add_rows, scale_row}
use Rattle.fp_rows.proofs.RowLaws.{scale_row-zero, zeros-add_rows}
use Rattle.fp_echelon.specs.Span.{combine, AreRows}
use Rattle.fp_echelon.proofs.SpanLaws.{IsRow-combine, combine-zeros}
use Rattle.pc_presentation.specs.Pcp.{row_of}
use Rattle.p_cover.specs.Sources.{place_in}
use Rattle.p_cover.proofs.PlaceLaws.{place_from-has}
use Rattle.cover_quotient.proofs.carried_rows.UnitRows.{combine-unit_row}

-- a list whose entries have values by their numbers
pub map-by_number : {X Y : Type 0} (f : X → Y) (g : ℕ → Y) (a : ℕ) (xs : List X) (d : X)
    → ((i : ℕ) → i < length xs → f (get_or xs i d) ≡ g (a + i)) → map f xs ≡ map g (numbers_from a (length xs))
map-by_number f g a [] d e = refl
map-by_number {X} {Y} f g a (x ∷ xs) d e =
    let here : a + 0 ≡ a = omega arith in
    ap₂ (λ (y : Y) (ys : List Y). y ∷ ys) (e 0 (omega arith) ∙ ap g here)
    (map-by_number f g (suc a) xs d
    (λ i l. (let next : a + suc i ≡ suc a + i = omega arith in e (suc i) (omega arith) ∙ ap g next)))

module _ (p q : ℕ) (positive : 0 < p) (row : Source → List ℕ) (is_row : (d : Source) → IsRow p q (row d)) where
  pub AreRows-given : (ds : List Source) → AreRows p q (map row ds)
  AreRows-given [] = tt
  AreRows-given (d ∷ ds) = (is_row d, AreRows-given ds)

  -- the combination that the row of a place says
  pub combine-source_row : (ds : List Source) (d : Source) (t : ℕ) → place_in ds d ≡ Some t
      → combine p q (row_of (length ds) (place_in ds d)) (map row ds) ≡ row d
  combine-source_row ds d t e =
      let h = place_from-has 1 ds d t e in
      let low : 1 ≤ t = h.first in
      let high : t < 1 + length ds = h.last in
      ap (λ (o : Option ℕ). combine p q (row_of (length ds) o) (map row ds)) e
      ∙ combine-unit_row p q (length ds) t (map row ds) positive (AreRows-given ds) (length-map ds row) low (omega arith)
      ∙ get_or-map row ds (t - 1) (image 0) [] (omega arith)
      ∙ ap row h.entry

  pub combine-no_source : (ds : List Source) (d : Source) → place_in ds d ≡ None
      → combine p q (row_of (length ds) (place_in ds d)) (map row ds) ≡ zeros q
  combine-no_source ds d e =
      ap (λ (o : Option ℕ). combine p q (row_of (length ds) o) (map row ds)) e
      ∙ combine-zeros p q (length ds) (map row ds) positive (AreRows-given ds)

  -- a source with coefficient 0
  module _ (coefficient : Source → ℕ) where
    abbrev combined : List Source → List ℕ
    combined ds = combine p q (map coefficient ds) (map row ds)

    combined-without : (d : Source) (ds : List Source) → coefficient d ≡ 0 → combined (d ∷ ds) ≡ combined ds
    combined-without d ds e =
        ap (λ (c : ℕ). add_rows p (scale_row p c (row d)) (combined ds)) e
        ∙ ap (λ (r : List ℕ). add_rows p r (combined ds)) (scale_row-zero p (row d) positive ∙ ap zeros (is_row d).count)
        ∙ zeros-add_rows p q (combined ds) (IsRow-combine p q (map coefficient ds) (map row ds) positive (AreRows-given ds))

    pub combine-filtered : (stays : Source → Bool) → ((d : Source) → stays d ≡ false → coefficient d ≡ 0) → (ds : List Source)
        → combine p q (map coefficient ds) (map row ds) ≡ combine p q (map coefficient (filter stays ds)) (map row (filter stays ds))
    combine-filtered stays none [] = refl
    combine-filtered stays none (d ∷ ds) = elim (cases_Bool (stays d)) [
      | inl kept ↦
          ap (add_rows p (scale_row p (coefficient d) (row d))) (combine-filtered stays none ds)
          ∙ ap combined (sym (cond-true (stays d) (d ∷ filter stays ds) (filter stays ds) kept))
      | inr dropped ↦
          combined-without d ds (none d dropped)
          ∙ combine-filtered stays none ds
          ∙ ap combined (sym (cond-false (stays d) (d ∷ filter stays ds) (filter stays ds) dropped))
    ]
