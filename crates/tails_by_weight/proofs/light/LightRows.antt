-- Rows over the light tails of an answer and rows over all its tails. Leaving out the tails that are not light, and inserting 0 for
-- them, are maps that are given by the row of each tail. They carry the rows of relations and images of the one cover to those of
-- the other, but for the tails that were left out.
use Rattle.std.proofs.Common.{◌≡◌, ◌-◌, ◌+◌, ◌<◌, ℕ, Option, None, Some, List, [], ◌∷◌, get_or, length, map, inl, inr, refl, ap, sym, ◌∙◌}
use Rattle.std.proofs.Common.{arith}
use Rattle.std.proofs.lemmas.List.{length-map, get_or-map, ext_get_or}
use Rattle.pq_base.specs.Table.{AllBelow}
use Rattle.pq_base.specs.Elementary.{zeros}
use Rattle.pq_base.specs.Answer.{Answer, Definition as Source, IsAnswer}
use Rattle.pq_base.specs.Answer.Definition.{image}
use Rattle.fp_rows.specs.Rows.{IsRow}
use Rattle.fp_rows.proofs.EntryLaws.{at_column-below}
use Rattle.fp_echelon.specs.Span.{combine, AreRows}
use Rattle.pc_presentation.specs.Pcp.{unit_row, row_of}
use Rattle.pc_presentation.proofs.rows.TailRowLaws.{row_of-normal}
use Rattle.p_cover.specs.Sources.{place_in, IsPartOf}
use Rattle.p_cover.specs.Covers.{all_sources}
use Rattle.p_cover.proofs.PartLaws.{part_of_itself}
use Rattle.p_cover.proofs.SourcesOnce.{tails_and_sources_are_inverse}
use Rattle.cover_quotient.specs.Carried.{carried}
use Rattle.cover_quotient.proofs.carried_rows.CarriedRows.{row_from_normal}
use Rattle.cover_quotient.proofs.carried_rows.UnitRows.{unit_rows, combine-unit_rows}
use Rattle.tails_by_weight.specs.LightCovers.{is_light, light_sources}
use Rattle.tails_by_weight.specs.WeightLaws.{entry_at, extended}
use Rattle.tails_by_weight.proofs.LightSources.{light_sources_are_those_with_room}
use Rattle.tails_by_weight.proofs.light.CombinedSources.{map-by_number, AreRows-given, combine-source_row, combine-no_source}
use Rattle.tails_by_weight.proofs.light.CombinedSources.{combine-filtered}

-- the row of a source over the light tails, and over all tails
abbrev pub light_row : Answer → Source → List ℕ
light_row A d = row_of (length (light_sources A)) (place_in (light_sources A) d)

abbrev pub full_row : Answer → Source → List ℕ
full_row A d = row_of (length (all_sources A)) (place_in (all_sources A) d)

-- for each tail its row over the light tails, and for each light tail its row over all
abbrev pub rows_to_light : Answer → List (List ℕ)
rows_to_light A = map (light_row A) (all_sources A)

abbrev pub rows_to_full : Answer → List (List ℕ)
rows_to_full A = map (full_row A) (light_sources A)

-- on a list of sources each of which stands once, each has its own place
module _ (A : Answer) (ds : List Source) (part : IsPartOf ds (all_sources A)) where
  own_place : (i : ℕ) → i < length ds → place_in ds (get_or ds i (image 0)) ≡ Some (1 + i)
  own_place i l =
      let back : 1 + i - 1 ≡ i = omega arith in
      (tails_and_sources_are_inverse A ds part (get_or ds i (image 0)) (1 + i)).1
      (omega arith, omega arith, ap (λ (k : ℕ). get_or ds k (image 0)) back)

  own_rows : map (λ d. row_of (length ds) (place_in ds d)) ds ≡ unit_rows (length ds)
  own_rows =
      map-by_number (λ (d : Source). row_of (length ds) (place_in ds d)) (unit_row (length ds)) 1 ds (image 0)
      (λ i l. ap (row_of (length ds)) (own_place i l))

  own_entries : (x : List ℕ) → length x ≡ length ds → map (λ d. entry_at x (place_in ds d)) ds ≡ x
  own_entries x e =
      let entry : Source → ℕ = λ d. entry_at x (place_in ds d) in
      let count : length (map (λ d. entry_at x (place_in ds d)) ds) ≡ length ds = length-map ds entry in
      ext_get_or 0 (map entry ds) x (count ∙ sym e)
      (λ i l.
      let back : 1 + i - 1 ≡ i = omega arith in
      get_or-map entry ds i (image 0) 0 (omega arith) ∙ ap (entry_at x) (own_place i (omega arith)) ∙ ap (λ (k : ℕ). get_or x k 0) back)

entry_at-below : (p : ℕ) (x : List ℕ) (o : Option ℕ) → 0 < p → AllBelow p x → entry_at x o < p
entry_at-below p x None h below = h
entry_at-below p x (Some t) h below = at_column-below p x t h below

AllBelow-map : (p : ℕ) (f : Source → ℕ) (ds : List Source) → ((d : Source) → f d < p) → AllBelow p (map f ds)
AllBelow-map p f [] h = tt
AllBelow-map p f (d ∷ ds) h = (h d, AllBelow-map p f ds h)

module _ (A : Answer) (is : IsAnswer A) where
  abbrev p : ℕ
  p = A.presentation.prime

  positive : 0 < p
  positive = let big = is.presentation.prime in omega arith

  light_row-row : (d : Source) → IsRow p (length (light_sources A)) (light_row A d)
  light_row-row d =
      row_from_normal p (length (light_sources A)) (light_row A d)
      (row_of-normal p (length (light_sources A)) (place_in (light_sources A) d) is.presentation.prime)

  pub full_row-row : (d : Source) → IsRow A.presentation.prime (length (all_sources A)) (full_row A d)
  full_row-row d =
      row_from_normal p (length (all_sources A)) (full_row A d)
      (row_of-normal p (length (all_sources A)) (place_in (all_sources A) d) is.presentation.prime)

  pub rows_to_light-rows : AreRows A.presentation.prime (length (light_sources A)) (rows_to_light A)
  rows_to_light-rows = AreRows-given p (length (light_sources A)) positive (light_row A) light_row-row (all_sources A)

  pub rows_to_full-rows : AreRows A.presentation.prime (length (all_sources A)) (rows_to_full A)
  rows_to_full-rows = AreRows-given p (length (all_sources A)) positive (full_row A) full_row-row (light_sources A)

  -- the rows of relations and images
  light_row-at : (d : Source) (o : Option ℕ) → place_in (all_sources A) d ≡ o
      → carried p (length (light_sources A)) (rows_to_light A) (full_row A d) ≡ light_row A d
  light_row-at d None e =
      combine-no_source p (length (light_sources A)) positive (light_row A) light_row-row (all_sources A) d e
      ∙ sym (ap (row_of (length (light_sources A))) ((light_sources_are_those_with_room A d).1 (inl e)))
  light_row-at d (Some t) e = combine-source_row p (length (light_sources A)) positive (light_row A) light_row-row (all_sources A) d t e

  pub full_row-carried : (d : Source)
      → carried A.presentation.prime (length (light_sources A)) (rows_to_light A) (full_row A d) ≡ light_row A d
  full_row-carried d = light_row-at d (place_in (all_sources A) d) refl

  pub light_row-carried : (d : Source) (t : ℕ) → place_in (light_sources A) d ≡ Some t
      → carried A.presentation.prime (length (all_sources A)) (rows_to_full A) (light_row A d) ≡ full_row A d
  light_row-carried d t e = combine-source_row p (length (all_sources A)) positive (full_row A) full_row-row (light_sources A) d t e

  pub no_light_row-carried : (d : Source) → place_in (light_sources A) d ≡ None
      → carried A.presentation.prime (length (all_sources A)) (rows_to_full A) (light_row A d) ≡ zeros (length (all_sources A))
  no_light_row-carried d e = combine-no_source p (length (all_sources A)) positive (full_row A) full_row-row (light_sources A) d e

  -- rows of residues
  pub extended-row : (x : List ℕ) → AllBelow A.presentation.prime x → IsRow A.presentation.prime (length (all_sources A)) (extended A x)
  extended-row x below = record {
    count = length-map (all_sources A) (λ d. entry_at x (place_in (light_sources A) d));
    below =
        AllBelow-map p (λ d. entry_at x (place_in (light_sources A) d)) (all_sources A)
        (λ d. entry_at-below p x (place_in (light_sources A) d) positive below);
  }

  module _ (part : IsPartOf (light_sources A) (all_sources A)) where
    -- a combination over all tails with the entries of a row over the light ones is one over the light tails
    combined-extended : (q : ℕ) (row : Source → List ℕ) → ((d : Source) → IsRow p q (row d)) → (x : List ℕ)
        → length x ≡ length (light_sources A)
        → combine p q (extended A x) (map row (all_sources A)) ≡ combine p q x (map row (light_sources A))
    combined-extended q row is_row x e =
        combine-filtered p q positive row is_row (λ d. entry_at x (place_in (light_sources A) d)) (is_light A)
        (λ d h. ap (entry_at x) ((light_sources_are_those_with_room A d).1 (inr h))) (all_sources A)
        ∙ ap (λ (cs : List ℕ). combine p q cs (map row (light_sources A))) (own_entries A (light_sources A) part x e)

    pub extended-carried : (x : List ℕ) → IsRow A.presentation.prime (length (light_sources A)) x
        → carried A.presentation.prime (length (light_sources A)) (rows_to_light A) (extended A x) ≡ x
    extended-carried x row =
        combined-extended (length (light_sources A)) (light_row A) light_row-row x row.count
        ∙ ap (combine p (length (light_sources A)) x) (own_rows A (light_sources A) part)
        ∙ combine-unit_rows p (length (light_sources A)) x positive row

    pub carried-extended : (x : List ℕ) → IsRow A.presentation.prime (length (light_sources A)) x
        → carried A.presentation.prime (length (all_sources A)) (rows_to_full A) x ≡ extended A x
    carried-extended x row =
        sym (combined-extended (length (all_sources A)) (full_row A) full_row-row x row.count)
        ∙ ap (combine p (length (all_sources A)) (extended A x)) (own_rows A (all_sources A) (part_of_itself (all_sources A)))
        ∙ combine-unit_rows p (length (all_sources A)) (extended A x) positive (extended-row x row.below)
