-- A relation or an image has no tail in the light cover exactly where it has none in the full one or has no room, so light covers leave
-- out heavy commutators alone.
use Rattle.std.proofs.Common.{◌≡◌, ◌+◌, ◌⊎◌, ℕ, suc, Bool, true, false, cond, None, Option, List, [], ◌∷◌, inl, inr, refl, ap, sym, ◌∙◌}
use Rattle.std.specs.Prelude.{◌↔◌, filter}
use Rattle.std.proofs.lemmas.Bool.{cases_Bool, false≢true, false_from_ne_true, leb-false}
use Rattle.pq_base.specs.Answer.{Answer, Definition as Source, class_of}
use Rattle.pq_base.specs.Answer.Definition.{image, commutator, power}
use Rattle.pq_base.specs.Canonical.{same_definition, weight_of}
use Rattle.p_cover.specs.Sources.{place_from, place_in, found, IsPartOf}
use Rattle.p_cover.specs.Sources.IsPartOf.{nothing, left_out, taken}
use Rattle.p_cover.specs.Covers.{all_sources}
use Rattle.cover_quotient.specs.Stages.{IsHeavy}
use Rattle.p_cover.proofs.PlaceLaws.{same_definition-eq}
use Rattle.tails_by_weight.specs.LightCovers.{is_light}
use Rattle.tails_by_weight.specs.WeightLaws.{LightSourcesAreThoseWithRoom, LightCoversLeaveOutHeavyTails}

-- what is found at the head has a place
found-none : (b : Bool) (t : ℕ) (later : Option ℕ) → found b t later ≡ None → (b ≡ false) × (later ≡ None)
found-none true t later h = cc
found-none false t later h = (refl, h)

found-later : (b : Bool) (t : ℕ) (later : Option ℕ) → b ≡ false → later ≡ None → found b t later ≡ None
found-later true t later h e = absurd (false≢true (sym h))
found-later false t later h e = e

-- entries that a test leaves
module _ (p : Source → Bool) where
  part_where : (b : Bool) (d : Source) (ds es : List Source) → IsPartOf ds es → IsPartOf (cond b (d ∷ ds) ds) (d ∷ es)
  part_where true d ds es h = taken d h
  part_where false d ds es h = left_out d h

  pub filter-part : (ds : List Source) → IsPartOf (filter p ds) ds
  filter-part [] = nothing
  filter-part (d ∷ ds) = part_where (p d) d (filter p ds) ds (filter-part ds)

  -- what is not at the head and has no place later
  place_from-cond : (b : Bool) (s : ℕ) (e : Source) (es : List Source) (d : Source) → same_definition d e ≡ false
      → ((t : ℕ) → place_from t es d ≡ None) → place_from s (cond b (e ∷ es) es) d ≡ None
  place_from-cond true s e es d other none = found-later (same_definition d e) s (place_from (suc s) es d) other (none (suc s))
  place_from-cond false s e es d other none = none s

  -- what has no place in the list, or doesn't pass, has none among them
  place_from-filtered : (t s : ℕ) (ds : List Source) (d : Source) → place_from t ds d ≡ None → place_from s (filter p ds) d ≡ None
  place_from-filtered t s [] d h = refl
  place_from-filtered t s (e ∷ es) d h =
      let parts = found-none (same_definition d e) t (place_from (suc t) es d) h in
      place_from-cond (p e) s e (filter p es) d parts.0 (λ r. place_from-filtered (suc t) r es d parts.1)

  failed-at : (b : Bool) (s : ℕ) (e : Source) (es : List Source) (d : Source) → p d ≡ false → p e ≡ b
      → ((t : ℕ) → place_from t es d ≡ None) → place_from s (cond b (e ∷ es) es) d ≡ None
  failed-at true s e es d fails passes none =
      place_from-cond true s e es d
      (false_from_ne_true (same_definition d e) (λ same. false≢true (sym fails ∙ ap p (same_definition-eq d e same) ∙ passes))) none
  failed-at false s e es d fails passes none = none s

  place_from-failed : (s : ℕ) (ds : List Source) (d : Source) → p d ≡ false → place_from s (filter p ds) d ≡ None
  place_from-failed s [] d h = refl
  place_from-failed s (e ∷ es) d h = failed-at (p e) s e (filter p es) d h refl (λ r. place_from-failed r es d h)

  -- and the other way round
  passed-at : (b : Bool) (t s : ℕ) (e : Source) (es : List Source) (d : Source) → p d ≡ true → p e ≡ b
      → ((r : ℕ) → place_from r (filter p es) d ≡ None → place_from (suc t) es d ≡ None)
      → place_from s (cond b (e ∷ filter p es) (filter p es)) d ≡ None → place_from t (e ∷ es) d ≡ None
  passed-at true t s e es d h passes later none =
      let parts = found-none (same_definition d e) s (place_from (suc s) (filter p es) d) none in
      found-later (same_definition d e) t (place_from (suc t) es d) parts.0 (later (suc s) parts.1)
  passed-at false t s e es d h fails later none =
      found-later (same_definition d e) t (place_from (suc t) es d)
      (false_from_ne_true (same_definition d e) (λ same. false≢true (sym fails ∙ sym (ap p (same_definition-eq d e same)) ∙ h)))
      (later s none)

  place_from-passed : (t s : ℕ) (ds : List Source) (d : Source) → p d ≡ true → place_from s (filter p ds) d ≡ None
      → place_from t ds d ≡ None
  place_from-passed t s [] d h none = refl
  place_from-passed t s (e ∷ es) d h none =
      passed-at (p e) t s e es d h refl (λ r later. place_from-passed (suc t) r es d h later) none

  place_in-filter : (ds : List Source) (d : Source) → (place_in (filter p ds) d ≡ None) ↔ ((place_in ds d ≡ None) ⊎ (p d ≡ false))
  place_in-filter ds d = (only, has)
    where
      only : place_in (filter p ds) d ≡ None → (place_in ds d ≡ None) ⊎ (p d ≡ false)
      only none = elim (cases_Bool (p d)) [
        | inl passes ↦ inl (place_from-passed 1 1 ds d passes none)
        | inr fails ↦ inr fails
      ]

      has : (place_in ds d ≡ None) ⊎ (p d ≡ false) → place_in (filter p ds) d ≡ None
      has (inl none) = place_from-filtered 1 1 ds d none
      has (inr fails) = place_from-failed 1 ds d fails

pub light_sources_are_those_with_room : LightSourcesAreThoseWithRoom
light_sources_are_those_with_room A d = place_in-filter (is_light A) (all_sources A) d

-- what has no room is a heavy commutator
heavy-no_room : (A : Answer) (d : Source) → is_light A d ≡ false → IsHeavy A d
heavy-no_room A (image i) h = absurd (false≢true (sym h))
heavy-no_room A (commutator j i) h = leb-false (weight_of A j + weight_of A i) (suc (class_of A)) h
heavy-no_room A (power j) h = absurd (false≢true (sym h))

pub light_covers_leave_out_heavy_tails : LightCoversLeaveOutHeavyTails
light_covers_leave_out_heavy_tails A is canonical = record {
  cover = record { answer = is; sources = filter-part (is_light A) (all_sources A) };
  canonical = canonical;
  left_out = λ d s none. elim ((light_sources_are_those_with_room A d).0 none) [
    | inl absent ↦ inl absent
    | inr fails ↦ inr (heavy-no_room A d fails)
  ];
}
