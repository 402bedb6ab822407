-- The sources of the full cover are the relations and images that define no generator, each once; and in a part of them the
-- tail of a source is the number of the source of that tail.
use Rattle.std.proofs.Common.{◌≡◌, ◌≢◌, ◌<◌, ◌≤◌, ◌+◌, ◌-◌, ℕ, zero, suc, Bool, true, false, not, Some, List, [], ◌∷◌, ◌++◌, get_or, length}
use Rattle.std.proofs.Common.{refl, ap, sym, ◌∙◌, subst, inl, inr, arith}
use Rattle.std.specs.Prelude.{filter}
use Rattle.std.specs.List.{AllPairs, Contains}
use Rattle.std.proofs.lemmas.Bool.{cases_Bool, cases_eq, false_from_ne_true, false≢true, or_from, not-true, not_from_false}
use Rattle.std.proofs.lemmas.List.Elements.{All-contains, Contains-append_left, Contains-append_right}
use Rattle.pq_base.specs.Answer.{Answer, Definition as Source, IsAnswer, class_of, definition_at}
use Rattle.pq_base.specs.Answer.Definition.{image, commutator, power}
use Rattle.pq_base.specs.Canonical.{numbers_from, same_definition, is_among, commutators_of, commutators_up_to, all_commutators, all_powers}
use Rattle.pq_base.specs.Canonical.{all_images, is_qualifying, preferred}
use Rattle.pq_base.proofs.vectors.CanonicalTests.{same-definition_refl}
use Rattle.p_cover.specs.Sources.{place_in}
use Rattle.p_cover.specs.Covers.{all_sources}
use Rattle.p_cover.specs.CoverLaws.{IsSource, TailsAndSourcesAreInverse, EachSourceOnce}
use Rattle.p_cover.proofs.PlaceLaws.{same_definition-eq, place_from-first, place_from-has}
use Rattle.p_cover.proofs.ListPairs.{AllPairs-part, Contains-filter, Contains-map_numbers}
use Rattle.p_cover.proofs.WantMembers.{all_sources-sources, all_sources-undefined}
use Rattle.p_cover.proofs.WantParts.{all_sources-apart}
use Rattle.p_cover.proofs.WantSteps.{no_rank}
use Rattle.p_cover.proofs.CoverRows.{among-itself}

Contains-row : (j i : ℕ) → 1 ≤ i → i < j → Contains (commutators_of j) (commutator j i)
Contains-row zero i h b = absurd (omega arith)
Contains-row (suc m) zero h b = absurd (omega arith)
Contains-row (suc m) (suc i) h b =
    let place : 1 + i ≡ suc i = omega arith in
    subst (λ (k : ℕ). Contains (commutators_of (suc m)) (commutator (suc m) k)) place
    (Contains-map_numbers (λ x. commutator (suc m) x) 1 m i (omega arith))

Contains-rows : (j i a n : ℕ) → a ≤ j → j < a + n → 1 ≤ i → i < j → Contains (commutators_up_to (numbers_from a n)) (commutator j i)
Contains-rows j i a zero l m h b = absurd (omega arith)
Contains-rows j i a (suc n) l m h b = elim (cases_eq a j) [
  | inl same ↦
      Contains-append_left (commutators_of a) (commutators_up_to (numbers_from (suc a) n)) (commutator j i)
      (subst (λ (k : ℕ). Contains (commutators_of k) (commutator j i)) (sym same) (Contains-row j i h b))
  | inr other ↦
      let ne : a ≢ j = other in
      Contains-append_right (commutators_of a) (commutators_up_to (numbers_from (suc a) n)) (commutator j i)
      (Contains-rows j i (suc a) n (omega arith) (omega arith) h b)
]

Contains-powers : (j n : ℕ) → 1 ≤ j → j ≤ n → Contains (all_powers n) (power j)
Contains-powers zero n h l = absurd (omega arith)
Contains-powers (suc j) n h l =
    let place : 1 + j ≡ suc j = omega arith in
    subst (λ (k : ℕ). Contains (all_powers n) (power k)) place (Contains-map_numbers power 1 n j (omega arith))

Contains-images : (i m : ℕ) → 1 ≤ i → i ≤ m → Contains (all_images m) (image i)
Contains-images zero m h l = absurd (omega arith)
Contains-images (suc i) m h l =
    let place : 1 + i ≡ suc i = omega arith in
    subst (λ (k : ℕ). Contains (all_images m) (image k)) place (Contains-map_numbers image 1 m i (omega arith))

module _ (A : Answer) where
  Contains-commutators : (j i : ℕ) → IsSource A (commutator j i) → Contains (all_commutators A.presentation.rank) (commutator j i)
  Contains-commutators j i h = Contains-rows j i 1 A.presentation.rank (omega (arith, h.0, h.1)) (omega (arith, h.2)) h.0 h.1

  module _ (k : ℕ) where
    abbrev now : Source → Bool
    now d = is_qualifying A (suc k) d

    abbrev later : Source → Bool
    later d = not (is_qualifying A (suc k) d)

    abbrev cs : List Source
    cs = all_commutators A.presentation.rank

    abbrev ps : List Source
    ps = all_powers A.presentation.rank

    abbrev images : List Source
    images = all_images (length A.names)

    in_first : (d : Source) → Contains (filter now cs) d → Contains (preferred A (suc k)) d
    in_first d c = Contains-append_left (filter now cs) (filter now ps ++ (filter later cs ++ (filter later ps ++ images))) d c

    in_second : (d : Source) → Contains (filter now ps) d → Contains (preferred A (suc k)) d
    in_second d c =
        Contains-append_right (filter now cs) (filter now ps ++ (filter later cs ++ (filter later ps ++ images))) d
        (Contains-append_left (filter now ps) (filter later cs ++ (filter later ps ++ images)) d c)

    after_two : (d : Source) → Contains (filter later cs ++ (filter later ps ++ images)) d → Contains (preferred A (suc k)) d
    after_two d c =
        Contains-append_right (filter now cs) (filter now ps ++ (filter later cs ++ (filter later ps ++ images))) d
        (Contains-append_right (filter now ps) (filter later cs ++ (filter later ps ++ images)) d c)

    in_third : (d : Source) → Contains (filter later cs) d → Contains (preferred A (suc k)) d
    in_third d c = after_two d (Contains-append_left (filter later cs) (filter later ps ++ images) d c)

    in_fourth : (d : Source) → Contains (filter later ps) d → Contains (preferred A (suc k)) d
    in_fourth d c =
        after_two d (Contains-append_right (filter later cs) (filter later ps ++ images) d
        (Contains-append_left (filter later ps) images d c))

    in_fifth : (d : Source) → Contains images d → Contains (preferred A (suc k)) d
    in_fifth d c =
        after_two d (Contains-append_right (filter later cs) (filter later ps ++ images) d
        (Contains-append_right (filter later ps) images d c))

    in_preferred : (d : Source) → IsSource A d → Contains (preferred A (suc k)) d
    in_preferred (image i) h = in_fifth (image i) (Contains-images i (length A.names) h.0 h.1)
    in_preferred (commutator j i) h = elim (cases_Bool (is_qualifying A (suc k) (commutator j i))) [
      | inl is ↦ in_first (commutator j i) (Contains-filter now cs (commutator j i) (Contains-commutators j i h) is)
      | inr isnt ↦
          in_third (commutator j i)
          (Contains-filter later cs (commutator j i) (Contains-commutators j i h) (not_from_false (now (commutator j i)) isnt))
    ]
    in_preferred (power j) h = elim (cases_Bool (is_qualifying A (suc k) (power j))) [
      | inl is ↦ in_second (power j) (Contains-filter now ps (power j) (Contains-powers j A.presentation.rank h.0 h.1) is)
      | inr isnt ↦
          in_fourth (power j) (Contains-filter later ps (power j) (Contains-powers j A.presentation.rank h.0 h.1)
          (not_from_false (now (power j)) isnt))
    ]

  -- at class 0 there are no relations
  in_preferred_zero : (d : Source) → A.presentation.rank ≡ 0 → IsSource A d → Contains (preferred A 0) d
  in_preferred_zero (image i) e h = Contains-images i (length A.names) h.0 h.1
  in_preferred_zero (commutator j i) e h = absurd (omega (arith, h.0, h.1, h.2))
  in_preferred_zero (power j) e h = absurd (omega (arith, h.0, h.1))

  preferred-all : (k : ℕ) → (k ≡ 0 → A.presentation.rank ≡ 0) → (d : Source) → IsSource A d → Contains (preferred A k) d
  preferred-all zero none d h = in_preferred_zero d (none refl) h
  preferred-all (suc k) none d h = in_preferred k d h

-- what is no entry is not among them
not_among : (d : Source) (es : List Source) → ((k : ℕ) → k < length es → get_or es k (image 0) ≢ d) → is_among d es ≡ false
not_among d [] h = refl
not_among d (e ∷ es) h =
    or_from (same_definition d e) (is_among d es)
    (false_from_ne_true (same_definition d e) (λ t. h 0 (omega arith) (sym (same_definition-eq d e t))))
    (not_among d es (λ k l. h (suc k) (omega arith)))

module _ (A : Answer) (is : IsAnswer A) where
  among_sources : (d : Source) → IsSource A d → ((k : ℕ) → k < A.presentation.rank → definition_at A k ≢ d) → Contains (all_sources A) d
  among_sources d h none =
      let count : length A.definitions ≡ A.presentation.rank = is.definition_count in
      Contains-filter (λ e. not (is_among e A.definitions)) (preferred A (class_of A)) d (preferred-all A (class_of A) (no_rank A is) d h)
      (not_from_false (is_among d A.definitions) (not_among d A.definitions (λ k l. none k (omega arith))))

  defines_none : (d : Source) → Contains (all_sources A) d → (k : ℕ) → k < A.presentation.rank → definition_at A k ≢ d
  defines_none d c k l e =
      let count : length A.definitions ≡ A.presentation.rank = is.definition_count in
      let none : not (is_among d A.definitions) ≡ true =
      All-contains (λ x. not (is_among x A.definitions) ≡ true) (all_sources A) d (all_sources-undefined A) c in
      let one : is_among d A.definitions ≡ true =
      ap (λ (x : Source). is_among x A.definitions) (sym e) ∙ among-itself A.definitions k (omega arith) in
      false≢true (sym (not-true (is_among d A.definitions) none) ∙ one)

pub each_source_once : EachSourceOnce
each_source_once A is = record {
  members = λ d. (
    λ c. (All-contains (IsSource A) (all_sources A) d (all_sources-sources A) c, defines_none A is d c),
    λ h. among_sources A is d h.0 h.1,
  );
  once = all_sources-apart A;
}

place_back : (ds : List Source) (d : Source) (t : ℕ) → AllPairs (λ x y. x ≢ y) ds → 1 ≤ t → t ≤ length ds → get_or ds (t - 1) (image 0) ≡ d
    → place_in ds d ≡ Some t
place_back ds d t apart first last e =
    let inside : t - 1 < length ds = omega arith in
    let back : 1 + (t - 1) ≡ t = omega arith in
    place_from-first 1 (t - 1) ds d inside
    (λ k l. false_from_ne_true (same_definition d (get_or ds k (image 0)))
    (λ h. apart k (t - 1) (image 0) l inside (sym (same_definition-eq d (get_or ds k (image 0)) h) ∙ sym e)))
    (ap (same_definition d) e ∙ same-definition_refl d)
    ∙ ap Some back

pub tails_and_sources_are_inverse : TailsAndSourcesAreInverse
tails_and_sources_are_inverse A ds part d t = (
  λ e.
      let h = place_from-has 1 ds d t e in
      let last : t < 1 + length ds = h.last in
      (h.first, omega arith, h.entry),
  λ h. place_back ds d t (AllPairs-part (λ x y. x ≢ y) part (all_sources-apart A)) h.0 h.1 h.2,
)
