-- The light sources part by part: the parts of the want order, with the light commutators alone, are the light entries of the want order.
use Rattle.std.proofs.Common.{◌≡◌, ◌<◌, ◌≤◌, ◌+◌, ◌-◌, ℕ, zero, suc, pred, min, Bool, true, false, cond, List, [], ◌∷◌, ◌++◌, length, map}
use Rattle.std.proofs.Common.{refl, ap, ap₂, sym, ◌∙◌, inl, inr, arith}
use Rattle.std.specs.Prelude.{filter}
use Rattle.std.specs.List.{flat_map}
use Rattle.std.proofs.lemmas.Bool.{cases_lt, cond-true, cond-false, le-leb, lt-leb}
use Rattle.std.proofs.lemmas.List.Elements.{filter-append}
use Rattle.pq_base.specs.Answer.{Answer, Definition as Source, IsAnswer, class_of}
use Rattle.pq_base.specs.Answer.Definition.{image, commutator, power}
use Rattle.pq_base.specs.Canonical.{numbers_from, weight_of, rank_up_to, commutators_of, commutators_up_to, all_commutators, all_powers}
use Rattle.pq_base.specs.Canonical.{all_images}
use Rattle.p_cover.specs.Wanted.{is_wanted, wanted}
use Rattle.p_cover.proofs.WantSteps.{all_sources-parts}
use Rattle.tails_by_weight.specs.LightCovers.{is_light, light_sources}
use Rattle.tails_by_weight.specs.LightParts.{light_commutators_of, light_commutators}
use Rattle.tails_by_weight.proofs.PushedLists.{pushed, flat_map_numbers-more}
use Rattle.tails_by_weight.proofs.RoomLaws.{rank_up_to-weight, weight-rank_up_to, weight-positive}

-- two tests one after the other, in any order
filter-swap : {X : Type 0} (p q : X → Bool) (xs : List X) → filter p (filter q xs) ≡ filter q (filter p xs)
filter-swap p q [] = refl
filter-swap {X} p q (x ∷ xs) = by_tests (q x) (p x) refl refl (filter-swap p q xs)
  where
    by_tests : (b c : Bool) → q x ≡ b → p x ≡ c → filter p (filter q xs) ≡ filter q (filter p xs)
        → filter p (cond b (x ∷ filter q xs) (filter q xs)) ≡ filter q (cond c (x ∷ filter p xs) (filter p xs))
    by_tests true true e f rest =
        cond-true (p x) (x ∷ filter p (filter q xs)) (filter p (filter q xs)) f
        ∙ ap (λ (l : List X). x ∷ l) rest
        ∙ sym (cond-true (q x) (x ∷ filter q (filter p xs)) (filter q (filter p xs)) e)
    by_tests true false e f rest = cond-false (p x) (x ∷ filter p (filter q xs)) (filter p (filter q xs)) f ∙ rest
    by_tests false true e f rest = rest ∙ sym (cond-false (q x) (x ∷ filter q (filter p xs)) (filter q (filter p xs)) e)
    by_tests false false e f rest = rest

-- the entries of a range up to the last that passes
module _ {X : Type 0} (p : X → Bool) (f : ℕ → X) where
  filter-none : (a n : ℕ) → ((i : ℕ) → a ≤ i → i < a + n → p (f i) ≡ false) → filter p (map f (numbers_from a n)) ≡ []
  filter-none a zero h = refl
  filter-none a (suc n) h =
      let later : List X = filter p (map f (numbers_from (suc a) n)) in
      cond-false (p (f a)) (f a ∷ later) later (h a (omega arith) (omega arith))
      ∙ filter-none (suc a) n (λ i l m. h i (omega arith) (omega arith))

  filter-first : (a n m : ℕ) → ((i : ℕ) → a ≤ i → i < a + n → i < a + m → p (f i) ≡ true)
      → ((i : ℕ) → a ≤ i → i < a + n → a + m ≤ i → p (f i) ≡ false)
      → filter p (map f (numbers_from a n)) ≡ map f (numbers_from a (min n m))
  filter-first a zero m passes fails = let none : min 0 m ≡ 0 = omega arith in ap (λ (k : ℕ). map f (numbers_from a k)) (sym none)
  filter-first a (suc n) zero passes fails =
      let none : min (suc n) 0 ≡ 0 = omega arith in
      filter-none a (suc n) (λ i l h. fails i l h (omega arith)) ∙ ap (λ (k : ℕ). map f (numbers_from a k)) (sym none)
  filter-first a (suc n) (suc m) passes fails =
      let one : min (suc n) (suc m) ≡ suc (min n m) = omega arith in
      cond-true (p (f a)) (f a ∷ filter p (map f (numbers_from (suc a) n))) (filter p (map f (numbers_from (suc a) n)))
      (passes a (omega arith) (omega arith) (omega arith))
      ∙ ap (λ (l : List X). f a ∷ l) (filter-first (suc a) n m (λ i l h b. passes i (omega arith) (omega arith) (omega arith))
      (λ i l h b. fails i (omega arith) (omega arith) (omega arith)))
      ∙ ap (λ (k : ℕ). map f (numbers_from a k)) (sym one)

  filter-all : (a n : ℕ) → ((i : ℕ) → p (f i) ≡ true) → filter p (map f (numbers_from a n)) ≡ map f (numbers_from a n)
  filter-all a zero h = refl
  filter-all a (suc n) h =
      cond-true (p (f a)) (f a ∷ filter p (map f (numbers_from (suc a) n))) (filter p (map f (numbers_from (suc a) n))) (h a)
      ∙ ap (λ (l : List X). f a ∷ l) (filter-all (suc a) n h)

module _ (A : Answer) (is : IsAnswer A) where
  -- the commutators of a generator
  light-row : (j : ℕ) → j ≤ A.presentation.rank → filter (is_light A) (commutators_of j) ≡ light_commutators_of A j
  light-row j l =
      filter-first (is_light A) (λ i. commutator j i) 1 (pred j) (rank_up_to A (suc (class_of A) - weight_of A j)) passes fails
    where
      passes : (i : ℕ) → 1 ≤ i → i < 1 + pred j → i < 1 + rank_up_to A (suc (class_of A) - weight_of A j)
          → is_light A (commutator j i) ≡ true
      passes i a b c =
          let small = rank_up_to-weight A is (suc (class_of A) - weight_of A j) i a (omega arith) in
          let some = weight-positive A is i a (omega arith) in
          le-leb (weight_of A j + weight_of A i) (suc (class_of A)) (omega arith)

      fails : (i : ℕ) → 1 ≤ i → i < 1 + pred j → 1 + rank_up_to A (suc (class_of A) - weight_of A j) ≤ i
          → is_light A (commutator j i) ≡ false
      fails i a b c = elim (cases_lt (suc (class_of A)) (weight_of A j + weight_of A i)) [
        | inl heavy ↦ lt-leb (weight_of A j + weight_of A i) (suc (class_of A)) heavy
        | inr light ↦
            let counted = weight-rank_up_to A is (suc (class_of A) - weight_of A j) i (omega arith) (omega arith) in
            absurd (omega arith)
      ]

  light-rows : (a n : ℕ) → a + n ≤ suc A.presentation.rank
      → filter (is_light A) (commutators_up_to (numbers_from a n)) ≡ flat_map (light_commutators_of A) (numbers_from a n)
  light-rows a zero h = refl
  light-rows a (suc n) h =
      filter-append (is_light A) (commutators_of a) (commutators_up_to (numbers_from (suc a) n))
      ∙ ap₂ (λ (xs ys : List Source). xs ++ ys) (light-row a (omega arith)) (light-rows (suc a) n (omega arith))

  abbrev cs : List Source
  cs = all_commutators A.presentation.rank

  abbrev light : List Source
  light = light_commutators A A.presentation.rank

  abbrev ps : List Source
  ps = all_powers A.presentation.rank

  abbrev images : List Source
  images = all_images (length A.names)

  light-commutators : filter (is_light A) cs ≡ light
  light-commutators = light-rows 1 A.presentation.rank (omega arith)

  -- the entries that are wanted
  light-wanted : (k : ℕ) (first : Bool) (xs ys : List Source) → filter (is_light A) xs ≡ ys
      → filter (is_light A) (wanted A k first xs) ≡ wanted A k first ys
  light-wanted k first xs ys e = filter-swap (is_light A) (is_wanted A k first) xs ∙ ap (wanted A k first) e

  light-powers : (k : ℕ) (first : Bool) → filter (is_light A) (wanted A k first ps) ≡ wanted A k first ps
  light-powers k first = light-wanted k first ps ps (filter-all (is_light A) power 1 A.presentation.rank (λ i. refl))

  light-images : (k : ℕ) → filter (is_light A) (wanted A k false images) ≡ wanted A k false images
  light-images k = light-wanted k false images images (filter-all (is_light A) image 1 (length A.names) (λ i. refl))

  -- the parts one after the other
  light_sources-parts : (k : ℕ) → k ≡ class_of A → light_sources A
      ≡ (((wanted A k true light ++ wanted A k true ps) ++ wanted A k false light) ++ wanted A k false ps) ++ wanted A k false images
  light_sources-parts k same =
      let c1 = light-wanted k true cs light light-commutators in
      let c2 = light-wanted k false cs light light-commutators in
      let p1 = light-powers k true in
      let p2 = light-powers k false in
      let i1 = light-images k in
      ap (filter (is_light A)) (all_sources-parts A is) ∙ simp (sym same, filter-append, c1, c2, p1, p2, i1)

  -- what is put after what
  pub all_light_parts : (none l1 l2 l3 l4 l5 : List Source) → none ≡ [] → l1 ≡ none ++ wanted A (class_of A) true light
      → l2 ≡ l1 ++ wanted A (class_of A) true ps → l3 ≡ l2 ++ wanted A (class_of A) false light → l4 ≡ l3 ++ wanted A (class_of A) false ps
      → l5 ≡ l4 ++ wanted A (class_of A) false images → l5 ≡ light_sources A
  all_light_parts none l1 l2 l3 l4 l5 e0 e1 e2 e3 e4 e5 =
      let c = class_of A in
      let f1 : l1 ≡ wanted A c true light = e1 ∙ ap (λ (l : List Source). l ++ wanted A c true light) e0 in
      let f2 = e2 ∙ ap (λ (l : List Source). l ++ wanted A c true ps) f1 in
      let f3 = e3 ∙ ap (λ (l : List Source). l ++ wanted A c false light) f2 in
      let f4 = e4 ∙ ap (λ (l : List Source). l ++ wanted A c false ps) f3 in
      e5 ∙ ap (λ (l : List Source). l ++ wanted A c false images) f4 ∙ sym (light_sources-parts c refl)

-- one generator more
module _ (A : Answer) (k : ℕ) (first : Bool) where
  wanted-more_light : (n : ℕ) → wanted A k first (light_commutators A (n + 1))
      ≡ wanted A k first (light_commutators A n) ++ wanted A k first (light_commutators_of A (n + 1))
  wanted-more_light n =
      ap (wanted A k first) (flat_map_numbers-more (light_commutators_of A) n)
      ∙ filter-append (is_wanted A k first) (light_commutators A n) (light_commutators_of A (n + 1))

  pub pushed-light : (n : ℕ) (start old new : List Source) → old ≡ start ++ wanted A k first (light_commutators A n)
      → new ≡ old ++ wanted A k first (light_commutators_of A (n + 1)) → new ≡ start ++ wanted A k first (light_commutators A (n + 1))
  pushed-light n start old new =
      pushed start (wanted A k first (light_commutators A n)) (wanted A k first (light_commutators_of A (n + 1)))
      (wanted A k first (light_commutators A (n + 1))) old new (wanted-more_light n)
