-- The list of light overlaps has exactly the overlaps within the bounds on weights, and none at two places.
use Rattle.std.proofs.Common.{◌≡◌, inl, inr, ℕ, suc, ◌+◌, ◌-◌, ◌/◌, ◌<◌, ◌≤◌, pred, min, ◌++◌, refl, ap, sym, ◌∙◌, subst, arith}
use Rattle.pq_base.specs.Answer.{Answer, IsAnswer, class_of}
use Rattle.pq_base.specs.Canonical.{numbers_from, weight_of, rank_up_to}
use Rattle.pc_presentation.specs.declared.overlap.Overlap.{Overlap}
use Rattle.pc_presentation.specs.declared.overlap.Overlap.TheVariants.{Triple, Left, Right, Own}
use Rattle.pc_presentation.proofs.consistent.OverlapKinds.{kind_of, latest_of, middle_of, earliest_of}
use Rattle.cover_quotient.proofs.canonical_answers.ClassesByWeight.{rank-within}
use Rattle.tails_by_weight.specs.LightOverlaps.{IsLightOverlap, with_room, light_triples_of, light_triples_with, light_triples}
use Rattle.tails_by_weight.specs.LightOverlaps.{light_pairs_with, light_pairs, light_owns, light_overlaps}
use Rattle.tails_by_weight.specs.WeightLaws.{EachLightOverlapOnce}
use Rattle.pq_base.proofs.ListMembers.{In, Apart, In-append_left, In-append_right, In-append_cases, In-map, In-map_cases, In-flat_map}
use Rattle.pq_base.proofs.ListMembers.{In-flat_map_cases, In-numbers, numbers-range, Contains-from_In, In-from_Contains, Apart-append}
use Rattle.pq_base.proofs.ListMembers.{Apart-map, Apart-flat_map, Apart-numbers, Apart-places}
use Rattle.tails_by_weight.proofs.RoomLaws.{with_room-has, with_room-only, rank_up_to-weight, weight-rank_up_to}

-- lists over the numbers with room
with_room-apart : (A : Answer) (w j : ℕ) → Apart (with_room A w j)
with_room-apart A w j = Apart-numbers 1 (min (pred j) (rank_up_to A (suc (class_of A) - w)))

-- an overlap of two generators and a p-th power
record IsLightPair (A : Answer) (f : ℕ → ℕ → Overlap) (o : Overlap) : Type 0 where
  pub j : ℕ
  pub i : ℕ
  pub from_one : 1 ≤ i
  pub falls : i < j
  pub in_range : j ≤ A.presentation.rank
  pub inside : suc (weight_of A j + weight_of A i) ≤ suc (class_of A)
  pub same : f j i ≡ o

module _ (A : Answer) (is : IsAnswer A) where
  abbrev n : ℕ
  n = A.presentation.rank

  module _ (f : ℕ → ℕ → Overlap) where
    pairs-has : (j i : ℕ) → 1 ≤ i → i < j → j ≤ n → suc (weight_of A j + weight_of A i) ≤ suc (class_of A) → In (f j i) (light_pairs f A)
    pairs-has j i a b c d =
        In-flat_map (light_pairs_with f A) j (f j i) (numbers_from 1 n) (In-numbers 1 n j (omega arith) (omega arith))
        (In-map (f j) i (with_room A (suc (weight_of A j)) j)
        (with_room-has A is (suc (weight_of A j)) j i c (record { from_one = a; before = b; room = omega arith })))

    pairs-only : (o : Overlap) → In o (light_pairs f A) → IsLightPair A f o
    pairs-only o h =
        let w = In-flat_map_cases (light_pairs_with f A) o (numbers_from 1 n) h in
        let m = In-map_cases (f w.source) o (with_room A (suc (weight_of A w.source)) w.source) w.inside in
        let r = numbers-range 1 n w.source w.member in
        let low = r.0 in
        let high = r.1 in
        let has = with_room-only A is (suc (weight_of A w.source)) w.source m.source (omega arith) m.member in
        let room = has.room in
        record {
          j = w.source;
          i = m.source;
          from_one = has.from_one;
          falls = has.before;
          in_range = omega arith;
          inside = omega arith;
          same = m.made;
        }

    -- what all pairs have in common
    pairs-all : (property : Overlap → ℕ) (value : ℕ) → ((j i : ℕ) → property (f j i) ≡ value) → (o : Overlap) → In o (light_pairs f A)
        → property o ≡ value
    pairs-all property value same o h =
        let p = pairs-only o h in
        ap property (sym p.same) ∙ same p.j p.i

    module _ (middle : (j i : ℕ) → middle_of (f j i) ≡ j) (earliest : (j i : ℕ) → earliest_of (f j i) ≡ i) where
      pairs_with-middle : (j : ℕ) (o : Overlap) → In o (light_pairs_with f A j) → middle_of o ≡ j
      pairs_with-middle j o h =
          let m = In-map_cases (f j) o (with_room A (suc (weight_of A j)) j) h in
          ap middle_of (sym m.made) ∙ middle j m.source

      pairs-apart : Apart (light_pairs f A)
      pairs-apart =
          Apart-flat_map (light_pairs_with f A) (numbers_from 1 n)
          (λ j. Apart-map (f j) (with_room A (suc (weight_of A j)) j) (λ i i' e. sym (earliest j i) ∙ ap earliest_of e ∙ earliest j i')
          (with_room-apart A (suc (weight_of A j)) j))
          (λ j j' o h h'. sym (pairs_with-middle j o h) ∙ pairs_with-middle j' o h') (Apart-numbers 1 n)

  -- triples
  triples-has : (k j i : ℕ) → IsLightOverlap A (Triple k j i) → In (Triple k j i) (light_triples A)
  triples-has k j i h =
      let a = h.numbers.0 in
      let b = h.numbers.1 in
      let c = h.numbers.2 in
      let d = h.numbers.3 in
      let inside = h.inside in
      In-flat_map (light_triples_with A) k (Triple k j i) (numbers_from 1 n) (In-numbers 1 n k (omega arith) (omega arith))
      (In-flat_map (light_triples_of A k) j (Triple k j i) (with_room A (weight_of A k) k)
      (with_room-has A is (weight_of A k) k j d (record { from_one = omega arith; before = c; room = omega arith }))
      (In-map (Triple k j) i (with_room A (weight_of A k + weight_of A j) j)
      (with_room-has A is (weight_of A k + weight_of A j) j i (omega arith) (record { from_one = a; before = b; room = inside }))))

  triples-only : (o : Overlap) → In o (light_triples A) → IsLightOverlap A o
  triples-only o h =
      let v = In-flat_map_cases (light_triples_with A) o (numbers_from 1 n) h in
      let w = In-flat_map_cases (light_triples_of A v.source) o (with_room A (weight_of A v.source) v.source) v.inside in
      let m = In-map_cases (Triple v.source w.source) o (with_room A (weight_of A v.source + weight_of A w.source) w.source) w.inside in
      let r = numbers-range 1 n v.source v.member in
      let high = r.1 in
      let second = with_room-only A is (weight_of A v.source) v.source w.source (omega arith) w.member in
      let falls = second.before in
      let third = with_room-only A is (weight_of A v.source + weight_of A w.source) w.source m.source (omega arith) m.member in
      let light : IsLightOverlap A (Triple v.source w.source m.source) = record {
        numbers = (third.from_one, third.before, second.before, omega arith);
        inside = third.room;
      } in
      subst (λ (z : Overlap). IsLightOverlap A z) m.made light

  triples_of-middle : (k j : ℕ) (o : Overlap) → In o (light_triples_of A k j) → middle_of o ≡ j
  triples_of-middle k j o h =
      let m = In-map_cases (Triple k j) o (with_room A (weight_of A k + weight_of A j) j) h in
      ap middle_of (sym m.made)

  triples_with-all : (k : ℕ) (property : Overlap → ℕ) (value : ℕ) → ((j i : ℕ) → property (Triple k j i) ≡ value)
      → (o : Overlap) → In o (light_triples_with A k) → property o ≡ value
  triples_with-all k property value same o h =
      let w = In-flat_map_cases (light_triples_of A k) o (with_room A (weight_of A k) k) h in
      let m = In-map_cases (Triple k w.source) o (with_room A (weight_of A k + weight_of A w.source) w.source) w.inside in
      ap property (sym m.made) ∙ same w.source m.source

  triples-kind : (o : Overlap) → In o (light_triples A) → kind_of o ≡ 0
  triples-kind o h =
      let v = In-flat_map_cases (light_triples_with A) o (numbers_from 1 n) h in
      triples_with-all v.source kind_of 0 (λ j i. refl) o v.inside

  triples-apart : Apart (light_triples A)
  triples-apart =
      Apart-flat_map (light_triples_with A) (numbers_from 1 n)
      (λ k. Apart-flat_map (light_triples_of A k) (with_room A (weight_of A k) k)
      (λ j. Apart-map (Triple k j) (with_room A (weight_of A k + weight_of A j) j) (λ i i' e. ap earliest_of e)
      (with_room-apart A (weight_of A k + weight_of A j) j))
      (λ j j' o h h'. sym (triples_of-middle k j o h) ∙ triples_of-middle k j' o h') (with_room-apart A (weight_of A k) k))
      (λ k k' o h h'. sym (triples_with-all k latest_of k (λ j i. refl) o h) ∙ triples_with-all k' latest_of k' (λ j i. refl) o h')
      (Apart-numbers 1 n)

  -- powers of one generator
  owns-only : (o : Overlap) → In o (light_owns A) → IsLightOverlap A o
  owns-only o h =
      let k : ℕ = rank_up_to A (class_of A / 2) in
      let m = In-map_cases Own o (numbers_from 1 k) h in
      let r = numbers-range 1 k m.source m.member in
      let low = r.0 in
      let high = r.1 in
      let within = rank-within A is (class_of A / 2) in
      let small = rank_up_to-weight A is (class_of A / 2) m.source low (omega arith) in
      let light : IsLightOverlap A (Own m.source) = record { numbers = (low, omega arith); inside = omega arith } in
      subst (λ (z : Overlap). IsLightOverlap A z) m.made light

  owns-has : (i : ℕ) → IsLightOverlap A (Own i) → In (Own i) (light_owns A)
  owns-has i h =
      let k : ℕ = rank_up_to A (class_of A / 2) in
      let a = h.numbers.0 in
      let inside = h.inside in
      let counted = weight-rank_up_to A is (class_of A / 2) i h.numbers.1 (omega arith) in
      In-map Own i (numbers_from 1 k) (In-numbers 1 k i a (omega arith))

  owns-kind : (o : Overlap) → In o (light_owns A) → kind_of o ≡ 3
  owns-kind o h =
      let m = In-map_cases Own o (numbers_from 1 (rank_up_to A (class_of A / 2))) h in
      ap kind_of (sym m.made)

  owns-apart : Apart (light_owns A)
  owns-apart =
      let k : ℕ = rank_up_to A (class_of A / 2) in
      Apart-map Own (numbers_from 1 k) (λ i i' e. ap earliest_of e) (Apart-numbers 1 k)

  -- pairs
  lefts-only : (o : Overlap) → In o (light_pairs Left A) → IsLightOverlap A o
  lefts-only o h =
      let p = pairs-only Left o h in
      let light : IsLightOverlap A (Left p.j p.i) = record { numbers = (p.from_one, p.falls, p.in_range); inside = p.inside } in
      subst (λ (z : Overlap). IsLightOverlap A z) p.same light

  rights-only : (o : Overlap) → In o (light_pairs Right A) → IsLightOverlap A o
  rights-only o h =
      let p = pairs-only Right o h in
      let light : IsLightOverlap A (Right p.j p.i) = record { numbers = (p.from_one, p.falls, p.in_range); inside = p.inside } in
      subst (λ (z : Overlap). IsLightOverlap A z) p.same light

  -- the whole list
  all-only : (o : Overlap) → In o (light_overlaps A) → IsLightOverlap A o
  all-only o h = elim (In-append_cases o (light_triples A) (light_pairs Left A ++ (light_pairs Right A ++ light_owns A)) h) [
    | inl a ↦ triples-only o a
    | inr a ↦ elim (In-append_cases o (light_pairs Left A) (light_pairs Right A ++ light_owns A) a) [
      | inl b ↦ lefts-only o b
      | inr b ↦ elim (In-append_cases o (light_pairs Right A) (light_owns A) b) [
        | inl c ↦ rights-only o c
        | inr c ↦ owns-only o c
      ]
    ]
  ]

  behind_triples : (o : Overlap) → In o (light_pairs Left A ++ (light_pairs Right A ++ light_owns A)) → In o (light_overlaps A)
  behind_triples o = In-append_right o (light_triples A) (light_pairs Left A ++ (light_pairs Right A ++ light_owns A))

  behind_lefts : (o : Overlap) → In o (light_pairs Right A ++ light_owns A) → In o (light_overlaps A)
  behind_lefts o h = behind_triples o (In-append_right o (light_pairs Left A) (light_pairs Right A ++ light_owns A) h)

  all-has : (o : Overlap) → IsLightOverlap A o → In o (light_overlaps A)
  all-has (Triple k j i) h =
      In-append_left (Triple k j i) (light_triples A) (light_pairs Left A ++ (light_pairs Right A ++ light_owns A)) (triples-has k j i h)
  all-has (Left j i) h =
      behind_triples (Left j i)
      (In-append_left (Left j i) (light_pairs Left A) (light_pairs Right A ++ light_owns A)
      (pairs-has Left j i h.numbers.0 h.numbers.1 h.numbers.2 h.inside))
  all-has (Right j i) h =
      behind_lefts (Right j i)
      (In-append_left (Right j i) (light_pairs Right A) (light_owns A) (pairs-has Right j i h.numbers.0 h.numbers.1 h.numbers.2 h.inside))
  all-has (Own i) h = behind_lefts (Own i) (In-append_right (Own i) (light_pairs Right A) (light_owns A) (owns-has i h))

  -- kinds come one after the other
  after_lefts-kind : (o : Overlap) → In o (light_pairs Right A ++ light_owns A) → 2 ≤ kind_of o
  after_lefts-kind o h = elim (In-append_cases o (light_pairs Right A) (light_owns A) h) [
    | inl c ↦ let e = pairs-all Right kind_of 2 (λ j i. refl) o c in omega arith
    | inr c ↦ let e = owns-kind o c in omega arith
  ]

  after_triples-kind : (o : Overlap) → In o (light_pairs Left A ++ (light_pairs Right A ++ light_owns A)) → 1 ≤ kind_of o
  after_triples-kind o h = elim (In-append_cases o (light_pairs Left A) (light_pairs Right A ++ light_owns A) h) [
    | inl c ↦ let e = pairs-all Left kind_of 1 (λ j i. refl) o c in omega arith
    | inr c ↦ let e = after_lefts-kind o c in omega arith
  ]

  all-apart : Apart (light_overlaps A)
  all-apart =
      Apart-append (light_triples A) (light_pairs Left A ++ (light_pairs Right A ++ light_owns A)) triples-apart
      (Apart-append (light_pairs Left A) (light_pairs Right A ++ light_owns A) (pairs-apart Left (λ j i. refl) (λ j i. refl))
      (Apart-append (light_pairs Right A) (light_owns A) (pairs-apart Right (λ j i. refl) (λ j i. refl)) owns-apart
      (λ o h i. let e = pairs-all Right kind_of 2 (λ j i. refl) o h in let d = owns-kind o i in omega arith))
      (λ o h i. let e = pairs-all Left kind_of 1 (λ j i. refl) o h in let d = after_lefts-kind o i in omega arith))
      (λ o h i. let e = triples-kind o h in let d = after_triples-kind o i in omega arith)

pub each_light_overlap_once : EachLightOverlapOnce
each_light_overlap_once A is = record {
  members = λ o. (
    λ c. all-only A is o (In-from_Contains o (light_overlaps A) c),
    λ h. Contains-from_In o (light_overlaps A) (all-has A is o h),
  );
  once = λ k l d h i. Apart-places (light_overlaps A) k l d (all-apart A is) h i;
}
