-- Each entry of the want order is a relation of the answer's generators or an image, and defines no generator; and there are
-- few of them.
use Rattle.std.proofs.Common.{◌≡◌, ◌≤◌, ◌+◌, ◌*◌, ℕ, zero, suc, Bool, true, not, List, [], ◌∷◌, ◌++◌, length, refl, arith}
use Rattle.std.specs.Prelude.{All, filter}
use Rattle.std.proofs.lemmas.List.{length-append, length-map}
use Rattle.std.proofs.lemmas.List.Elements.{All-nil, All-head, All-tail, All-append, All-map, All-filter, filter_passes}
use Rattle.std.proofs.lemmas.List.Filters.{length-filter_both}
use Rattle.pq_base.specs.Limits.{max_names, max_rank}
use Rattle.pq_base.specs.Answer.{Answer, Definition as Source, class_of}
use Rattle.pq_base.specs.Answer.Definition.{image, commutator, power}
use Rattle.pq_base.specs.Canonical.{numbers_from, is_among, commutators_of, commutators_up_to, all_commutators, all_powers, all_images}
use Rattle.pq_base.specs.Canonical.{is_qualifying, preferred}
use Rattle.p_cover.specs.Sources.{IsPartOf}
use Rattle.p_cover.specs.Covers.{all_sources}
use Rattle.p_cover.specs.CoverLaws.{IsSource}
use Rattle.pq_base.proofs.NumberLists.{All-numbers, length-numbers_from}
use Rattle.p_cover.proofs.PartLaws.{All-part, part-length}

module _ (A : Answer) where
  commutators_of-sources : (j : ℕ) → 1 ≤ j → j ≤ A.presentation.rank → All (IsSource A) (commutators_of j)
  commutators_of-sources zero h l = absurd (omega arith)
  commutators_of-sources (suc m) h l =
      All-map (IsSource A) (λ i. commutator (suc m) i) (numbers_from 1 m)
      (All-numbers (λ i. IsSource A (commutator (suc m) i)) 1 m (λ k a b. (omega arith, omega arith, omega arith)))

  commutators_up_to-sources : (js : List ℕ) → All (λ j. (1 ≤ j) × (j ≤ A.presentation.rank)) js → All (IsSource A) (commutators_up_to js)
  commutators_up_to-sources [] h = All-nil (IsSource A)
  commutators_up_to-sources (j ∷ js) h =
      let first = All-head (λ i. (1 ≤ i) × (i ≤ A.presentation.rank)) j js h in
      All-append (IsSource A) (commutators_of j) (commutators_up_to js) (commutators_of-sources j first.0 first.1)
      (commutators_up_to-sources js (All-tail (λ i. (1 ≤ i) × (i ≤ A.presentation.rank)) j js h))

  pub all_commutators-sources : All (IsSource A) (all_commutators A.presentation.rank)
  all_commutators-sources =
      commutators_up_to-sources (numbers_from 1 A.presentation.rank)
      (All-numbers (λ j. (1 ≤ j) × (j ≤ A.presentation.rank)) 1 A.presentation.rank (λ k a b. (omega arith, omega arith)))

  pub all_powers-sources : All (IsSource A) (all_powers A.presentation.rank)
  all_powers-sources =
      All-map (IsSource A) power (numbers_from 1 A.presentation.rank)
      (All-numbers (λ j. IsSource A (power j)) 1 A.presentation.rank (λ k a b. (omega arith, omega arith)))

  pub all_images-sources : All (IsSource A) (all_images (length A.names))
  all_images-sources =
      All-map (IsSource A) image (numbers_from 1 (length A.names))
      (All-numbers (λ i. IsSource A (image i)) 1 (length A.names) (λ k a b. (omega arith, omega arith)))

  preferred-sources : (k : ℕ) → All (IsSource A) (preferred A k)
  preferred-sources zero = all_images-sources
  preferred-sources (suc k) =
      let cs = all_commutators A.presentation.rank in
      let ps = all_powers A.presentation.rank in
      let now = is_qualifying A (suc k) in
      let later : Source → Bool = λ d. not (is_qualifying A (suc k) d) in
      All-append (IsSource A) (filter now cs) (filter now ps ++ (filter later cs ++ (filter later ps ++ all_images (length A.names))))
      (All-filter now (IsSource A) cs all_commutators-sources)
      (All-append (IsSource A) (filter now ps) (filter later cs ++ (filter later ps ++ all_images (length A.names)))
      (All-filter now (IsSource A) ps all_powers-sources)
      (All-append (IsSource A) (filter later cs) (filter later ps ++ all_images (length A.names))
      (All-filter later (IsSource A) cs all_commutators-sources)
      (All-append (IsSource A) (filter later ps) (all_images (length A.names))
      (All-filter later (IsSource A) ps all_powers-sources)
      all_images-sources)))

  pub all_sources-sources : All (IsSource A) (all_sources A)
  all_sources-sources =
      All-filter (λ d. not (is_among d A.definitions)) (IsSource A) (preferred A (class_of A)) (preferred-sources (class_of A))

  pub all_sources-undefined : All (λ d. not (is_among d A.definitions) ≡ true) (all_sources A)
  all_sources-undefined = filter_passes (λ d. not (is_among d A.definitions)) (preferred A (class_of A))

  pub part-sources : {ds : List Source} → IsPartOf ds (all_sources A) → All (IsSource A) ds
  part-sources h = All-part (IsSource A) h all_sources-sources

  pub part-undefined : {ds : List Source} → IsPartOf ds (all_sources A) → All (λ d. not (is_among d A.definitions) ≡ true) ds
  part-undefined h = All-part (λ d. not (is_among d A.definitions) ≡ true) h all_sources-undefined

-- no answer has more sources
abbrev pub most_sources : ℕ
most_sources = 2 * (max_rank * max_rank + max_rank) + max_names

length-filter_le : (p : Source → Bool) (xs : List Source) → length (filter p xs) ≤ length xs
length-filter_le p xs = omega (arith, length-filter_both p (λ x. not (p x)) (λ x. refl) xs)

length-commutators_of : (j : ℕ) → j ≤ suc max_rank → length (commutators_of j) ≤ max_rank
length-commutators_of zero h = omega arith
length-commutators_of (suc m) h = omega (arith, length-map (numbers_from 1 m) (λ i. commutator (suc m) i), length-numbers_from 1 m)

length-commutators_up_to : (a n : ℕ) → a + n ≤ suc max_rank → length (commutators_up_to (numbers_from a n)) ≤ n * max_rank
length-commutators_up_to a zero h = omega arith
length-commutators_up_to a (suc n) h =
    let rest = length-commutators_up_to (suc a) n (omega arith) in
    let row = length-commutators_of a (omega arith) in
    omega (arith, length-append (commutators_of a) (commutators_up_to (numbers_from (suc a) n)))

module _ (A : Answer) (few : A.presentation.rank ≤ max_rank) (names : length A.names ≤ max_names) where
  few_commutators : length (all_commutators A.presentation.rank) ≤ max_rank * max_rank
  few_commutators = omega (arith, length-commutators_up_to 1 A.presentation.rank (omega arith))

  few_powers : length (all_powers A.presentation.rank) ≤ max_rank
  few_powers = omega (arith, length-map (numbers_from 1 A.presentation.rank) power, length-numbers_from 1 A.presentation.rank)

  few_images : length (all_images (length A.names)) ≤ max_names
  few_images = omega (arith, length-map (numbers_from 1 (length A.names)) image, length-numbers_from 1 (length A.names))

  few_preferred : (k : ℕ) → length (preferred A k) ≤ most_sources
  few_preferred zero = omega (arith, few_images)
  few_preferred (suc k) =
      let cs = all_commutators A.presentation.rank in
      let ps = all_powers A.presentation.rank in
      let now = is_qualifying A (suc k) in
      let later : Source → Bool = λ d. not (is_qualifying A (suc k) d) in
      omega (
        arith,
        few_commutators,
        few_powers,
        few_images,
        length-filter_le now cs,
        length-filter_le now ps,
        length-filter_le later cs,
        length-filter_le later ps,
        length-append (filter now cs) (filter now ps ++ (filter later cs ++ (filter later ps ++ all_images (length A.names)))),
        length-append (filter now ps) (filter later cs ++ (filter later ps ++ all_images (length A.names))),
        length-append (filter later cs) (filter later ps ++ all_images (length A.names)),
        length-append (filter later ps) (all_images (length A.names)),
      )

  pub few_sources : length (all_sources A) ≤ most_sources
  few_sources = omega (arith, length-filter_le (λ d. not (is_among d A.definitions)) (preferred A (class_of A)), few_preferred (class_of A))

  pub few_in_part : {ds : List Source} → IsPartOf ds (all_sources A) → length ds ≤ most_sources
  few_in_part h = omega (arith, part-length h, few_sources)
