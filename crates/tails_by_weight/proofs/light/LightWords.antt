-- Over a canonical answer the word of a row over the light tails is trivial in the light cover exactly where that of the same row,
-- with 0 for each tail that was left out, is trivial in the full cover. The answer need not be consistent.
use Rattle.std.proofs.Common.{◌≡◌, ◌⊎◌, ◌+◌, ◌<◌, ℕ, suc, false, Option, None, Some, List, [], length, inl, inr, refl, ap, sym, ◌∙◌, subst}
use Rattle.std.proofs.Common.{arith}
use Rattle.std.proofs.lemmas.Bool.{false≢true, leb-false}
use Rattle.std.proofs.lemmas.List.{length-map}
use Rattle.pq_base.specs.Presentation.{IsNormal, word_from}
use Rattle.pq_base.specs.Joined.{Joined}
use Rattle.pq_base.specs.Answer.{Answer, Definition as Source, IsAnswer, class_of}
use Rattle.pq_base.specs.Answer.Definition.{image, commutator, power}
use Rattle.pq_base.specs.Canonical.{weight_of, IsCanonical}
use Rattle.pq_base.proofs.words.WordLaws.{word_from-zeros}
use Rattle.pq_base.proofs.words.JoinedLaws.{joined-from_equal, joined-sym, joined-trans}
use Rattle.pc_presentation.specs.Pcp.{row_of}
use Rattle.pc_presentation.specs.Rowed.{RowedPresentation, IsRowed, flat}
use Rattle.p_cover.specs.RowedAnswer.{rowed, row_at}
use Rattle.p_cover.specs.Sources.{place_in, IsPartOf}
use Rattle.p_cover.specs.Covers.{IsCover, rowed_cover, all_sources}
use Rattle.p_cover.specs.CoverLaws.{IsSource}
use Rattle.p_cover.proofs.PartLaws.{part_of_itself}
use Rattle.p_cover.proofs.CoverRows.{row_at-source, covers_are_rowed_answers}
use Rattle.cover_quotient.specs.Carried.{carried}
use Rattle.cover_quotient.specs.Stages.{full_cover_of}
use Rattle.cover_quotient.proofs.carried_rows.CarriedRows.{row_from_normal, normal_from_row}
use Rattle.cover_quotient.proofs.canonical_answers.HeavyTails.{heavy_tails_are_trivial}
use Rattle.tails_by_weight.specs.LightCovers.{is_light, light_sources, light_cover_of}
use Rattle.tails_by_weight.specs.WeightLaws.{extended}
use Rattle.tails_by_weight.proofs.LightSources.{light_sources_are_those_with_room, light_covers_leave_out_heavy_tails}
use Rattle.tails_by_weight.proofs.light.RowsOverOneBase.{trivial_row-carried}
use Rattle.tails_by_weight.proofs.light.LightRows.{full_row, light_row, rows_to_light, rows_to_full, rows_to_light-rows, rows_to_full-rows}
use Rattle.tails_by_weight.proofs.light.LightRows.{full_row-carried, light_row-carried, no_light_row-carried, extended-row}
use Rattle.tails_by_weight.proofs.light.LightRows.{extended-carried, carried-extended}

module _ (A : Answer) (is : IsAnswer A) (canonical : IsCanonical A) where
  abbrev L : RowedPresentation
  L = rowed (rowed_cover (light_cover_of A))

  abbrev F : RowedPresentation
  F = rowed (rowed_cover (full_cover_of A))

  abbrev p : ℕ
  p = A.presentation.prime

  abbrev n : ℕ
  n = A.presentation.rank

  positive : 0 < p
  positive = let big = is.presentation.prime in omega arith

  part : IsPartOf (light_sources A) (all_sources A)
  part = (light_covers_leave_out_heavy_tails A is canonical).cover.sources

  full_cover-cover : IsCover (full_cover_of A)
  full_cover-cover = record { answer = is; sources = part_of_itself (all_sources A) }

  pub light_cover-rowed : IsRowed (rowed (rowed_cover (light_cover_of A)))
  light_cover-rowed = (covers_are_rowed_answers A (light_sources A) is part).0.presentation

  pub full_cover-rowed : IsRowed (rowed (rowed_cover (full_cover_of A)))
  full_cover-rowed = (covers_are_rowed_answers A (all_sources A) is (part_of_itself (all_sources A))).0.presentation

  -- what was left out
  pub left_out-trivial : (d : Source) → IsSource A d → is_light A d ≡ false
      → Joined (flat (rowed (rowed_cover (full_cover_of A)))) (word_from A.presentation.rank (row_at (rowed_cover (full_cover_of A)) d)) []
  left_out-trivial (image i) s h = absurd (false≢true (sym h))
  left_out-trivial (commutator j i) s h =
      heavy_tails_are_trivial (full_cover_of A) full_cover-cover canonical j i s.0 s.1 s.2
      (leb-false (weight_of A j + weight_of A i) (suc (class_of A)) h)
  left_out-trivial (power j) s h = absurd (false≢true (sym h))

  -- from all tails to the light ones
  relation-to_light : (d : Source) → IsSource A d
      → Joined (flat L) (word_from n (carried p (length (light_sources A)) (rows_to_light A) (row_at (rowed_cover (full_cover_of A)) d)))
      (word_from n (row_at (rowed_cover (light_cover_of A)) d))
  relation-to_light d s =
      joined-from_equal (flat L)
      (ap (word_from A.presentation.rank)
      (ap (carried p (length (light_sources A)) (rows_to_light A)) (row_at-source A (all_sources A) d s)
      ∙ full_row-carried A is d ∙ sym (row_at-source A (light_sources A) d s)))

  pub trivial_in_light : (x : List ℕ) → IsNormal A.presentation.prime (length (light_sources A)) x
      → Joined (flat (rowed (rowed_cover (full_cover_of A)))) (word_from A.presentation.rank (extended A x)) []
      → Joined (flat (rowed (rowed_cover (light_cover_of A)))) (word_from A.presentation.rank x) []
  trivial_in_light x h c =
      let row = row_from_normal p (length (light_sources A)) x h in
      subst (λ (y : List ℕ). Joined (flat L) (word_from n y) []) (extended-carried A is part x row)
      (trivial_row-carried F full_cover-rowed positive (length (light_sources A)) (rows_to_light A) (rows_to_light-rows A is)
      (length-map (all_sources A) (light_row A)) L.power_rows L.commutator_rows light_cover-rowed
      (λ i l. relation-to_light (power (suc i)) (omega arith, omega arith))
      (λ j i l m. relation-to_light (commutator (suc j) (suc i)) (omega arith, omega arith, omega arith))
      (extended A x) (normal_from_row p (length (all_sources A)) (extended A x) (extended-row A is x h.below)) c)

  -- and back
  full_row-trivial : (d : Source) → IsSource A d → (place_in (all_sources A) d ≡ None) ⊎ (is_light A d ≡ false)
      → Joined (flat F) (word_from n (row_at (rowed_cover (full_cover_of A)) d)) []
  full_row-trivial d s (inl e) =
      joined-from_equal (flat F)
      (ap (word_from A.presentation.rank) (row_at-source A (all_sources A) d s ∙ ap (row_of (length (all_sources A))) e)
      ∙ word_from-zeros A.presentation.rank (length (all_sources A)))
  full_row-trivial d s (inr h) = left_out-trivial d s h

  relation-at : (d : Source) → IsSource A d → (o : Option ℕ) → place_in (light_sources A) d ≡ o
      → Joined (flat F) (word_from n (carried p (length (all_sources A)) (rows_to_full A) (light_row A d)))
      (word_from n (row_at (rowed_cover (full_cover_of A)) d))
  relation-at d s None e =
      joined-trans
      (joined-from_equal (flat F)
      (ap (word_from A.presentation.rank) (no_light_row-carried A is d e) ∙ word_from-zeros A.presentation.rank (length (all_sources A))))
      (joined-sym (full_row-trivial d s ((light_sources_are_those_with_room A d).0 e)))
  relation-at d s (Some t) e =
      joined-from_equal (flat F)
      (ap (word_from A.presentation.rank) (light_row-carried A is d t e ∙ sym (row_at-source A (all_sources A) d s)))

  relation-to_full : (d : Source) → IsSource A d
      → Joined (flat F) (word_from n (carried p (length (all_sources A)) (rows_to_full A) (row_at (rowed_cover (light_cover_of A)) d)))
      (word_from n (row_at (rowed_cover (full_cover_of A)) d))
  relation-to_full d s =
      subst (λ (x : List ℕ). Joined (flat F) (word_from n (carried p (length (all_sources A)) (rows_to_full A) x))
      (word_from n (row_at (rowed_cover (full_cover_of A)) d)))
      (sym (row_at-source A (light_sources A) d s)) (relation-at d s (place_in (light_sources A) d) refl)

  pub trivial_in_full : (x : List ℕ) → IsNormal A.presentation.prime (length (light_sources A)) x
      → Joined (flat (rowed (rowed_cover (light_cover_of A)))) (word_from A.presentation.rank x) []
      → Joined (flat (rowed (rowed_cover (full_cover_of A)))) (word_from A.presentation.rank (extended A x)) []
  trivial_in_full x h c =
      let row = row_from_normal p (length (light_sources A)) x h in
      subst (λ (y : List ℕ). Joined (flat F) (word_from n y) []) (carried-extended A is part x row)
      (trivial_row-carried L light_cover-rowed positive (length (all_sources A)) (rows_to_full A) (rows_to_full-rows A is)
      (length-map (light_sources A) (full_row A)) F.power_rows F.commutator_rows full_cover-rowed
      (λ i l. relation-to_full (power (suc i)) (omega arith, omega arith))
      (λ j i l m. relation-to_full (commutator (suc j) (suc i)) (omega arith, omega arith, omega arith)) x h c)
