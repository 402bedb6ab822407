-- The want order part by part: each part is read from its range of numbers, entry by entry, and the parts together are the
-- want order.
use Rattle.std.proofs.Common.{◌≡◌, ◌≤◌, ◌+◌, ◌-◌, ℕ, zero, suc, Bool, true, false, ◌&&◌, not, cond, List, [], ◌∷◌, ◌++◌, get_or, length}
use Rattle.std.proofs.Common.{map, refl, ap, sym, ◌∙◌, append_assoc, append-nil, arith}
use Rattle.std.specs.Prelude.{filter}
use Rattle.std.proofs.lemmas.Bool.{cond-true, cond-false}
use Rattle.std.proofs.lemmas.List.{map_push}
use Rattle.std.proofs.lemmas.List.Elements.{filter-append}
use Rattle.pq_base.specs.Answer.{Answer, Definition as Source, IsAnswer, class_of}
use Rattle.pq_base.specs.Answer.Definition.{image, commutator}
use Rattle.pq_base.specs.Canonical.{numbers_from, weight_of, is_among, is_qualifying, commutators_of, commutators_up_to, all_commutators}
use Rattle.pq_base.specs.Canonical.{all_powers, all_images, want_order}
use Rattle.pc_presentation.specs.declared.definition.Definition.{Definition}
use Rattle.pc_presentation.specs.Definition.{definition_of}
use Rattle.p_cover.specs.Covers.{all_sources}
use Rattle.p_cover.specs.Wanted.{is_wanted, wanted}
use Rattle.pq_base.proofs.NumberLists.{numbers-more, map_numbers-more}
use Rattle.pq_base.proofs.LastWeights.{no_weights}

module _ (A : Answer) (k : ℕ) (first : Bool) where
  pub wanted-none : (start : List Source) → start ≡ start ++ wanted A k first []
  wanted-none start = sym (append-nil start)

  -- one entry more
  wanted_step : (start xs ys zs old new : List Source) → zs ≡ xs ++ ys → old ≡ start ++ wanted A k first xs
      → new ≡ old ++ wanted A k first ys → new ≡ start ++ wanted A k first zs
  wanted_step start xs ys zs old new all e f =
      f ∙ ap (λ (l : List Source). l ++ wanted A k first ys) e ∙ append_assoc start (wanted A k first xs) (wanted A k first ys)
      ∙ ap (λ (l : List Source). start ++ l) (sym (filter-append (is_wanted A k first) xs ys) ∙ ap (wanted A k first) (sym all))

  pub wanted-more : (f : ℕ → Source) (i : ℕ) (start old new : List Source) → old ≡ start ++ wanted A k first (map f (numbers_from 1 i))
      → new ≡ old ++ wanted A k first (f (i + 1) ∷ []) → new ≡ start ++ wanted A k first (map f (numbers_from 1 (i + 1)))
  wanted-more f i start old new =
      wanted_step start (map f (numbers_from 1 i)) (f (i + 1) ∷ []) (map f (numbers_from 1 (i + 1))) old new (map_numbers-more f i)

  commutators_up_to-append : (xs ys : List ℕ) → commutators_up_to (xs ++ ys) ≡ commutators_up_to xs ++ commutators_up_to ys
  commutators_up_to-append [] ys = refl
  commutators_up_to-append (x ∷ xs) ys =
      ap (λ (l : List Source). commutators_of x ++ l) (commutators_up_to-append xs ys)
      ∙ sym (append_assoc (commutators_of x) (commutators_up_to xs) (commutators_up_to ys))

  pub wanted-more_rows : (i : ℕ) (start old new : List Source) → old ≡ start ++ wanted A k first (commutators_up_to (numbers_from 1 i))
      → new ≡ old ++ wanted A k first (commutators_of (i + 1))
      → new ≡ start ++ wanted A k first (commutators_up_to (numbers_from 1 (i + 1)))
  wanted-more_rows i start old new =
      wanted_step start (commutators_up_to (numbers_from 1 i)) (commutators_of (i + 1)) (commutators_up_to (numbers_from 1 (i + 1))) old new
      (ap commutators_up_to (numbers-more i) ∙ commutators_up_to-append (numbers_from 1 i) ((i + 1) ∷ [])
      ∙ ap (λ (l : List Source). commutators_up_to (numbers_from 1 i) ++ l) (append-nil (commutators_of (i + 1))))

  -- a source is put at the end where it is wanted
  pub put_wanted : (xs ys : List Definition) (s : Definition) → is_wanted A k first (definition_of s) ≡ true → ys ≡ xs ++ s ∷ []
      → map definition_of ys ≡ map definition_of xs ++ wanted A k first (definition_of s ∷ [])
  put_wanted xs ys s h e =
      ap (map definition_of) e ∙ map_push definition_of xs s
      ∙ ap (λ (l : List Source). map definition_of xs ++ l)
      (sym (cond-true (is_wanted A k first (definition_of s)) (definition_of s ∷ []) [] h))

  pub put_unwanted : (xs : List Definition) (s : Definition) → is_wanted A k first (definition_of s) ≡ false
      → map definition_of xs ≡ map definition_of xs ++ wanted A k first (definition_of s ∷ [])
  put_unwanted xs s h =
      sym (append-nil (map definition_of xs))
      ∙ ap (λ (l : List Source). map definition_of xs ++ l)
      (sym (cond-false (is_wanted A k first (definition_of s)) (definition_of s ∷ []) [] h))

-- the commutators of a generator from the place before it
pub commutators_of-before : (j : ℕ) → 1 ≤ j → map (λ i. commutator j i) (numbers_from 1 (j - 1)) ≡ commutators_of j
commutators_of-before zero h = absurd (omega arith)
commutators_of-before (suc m) h = let less : suc m - 1 ≡ m = omega arith in
    ap (λ (n : ℕ). map (λ i. commutator (suc m) i) (numbers_from 1 n)) less

pub weight_of-at : (A : Answer) (j : ℕ) → 1 ≤ j → get_or A.weights (j - 1) 0 ≡ weight_of A j
weight_of-at A zero h = absurd (omega arith)
weight_of-at A (suc m) h = let less : suc m - 1 ≡ m = omega arith in ap (λ (n : ℕ). get_or A.weights n 0) less

filter_cond : (p : Source → Bool) (b : Bool) (x : Source) (ys : List Source)
    → filter p (cond b (x ∷ ys) ys) ≡ cond (b && p x) (x ∷ filter p ys) (filter p ys)
filter_cond p true x ys = refl
filter_cond p false x ys = refl

filter-filter : (p q : Source → Bool) (xs : List Source) → filter p (filter q xs) ≡ filter (λ x. q x && p x) xs
filter-filter p q [] = refl
filter-filter p q (x ∷ xs) =
    filter_cond p (q x) x (filter q xs) ∙ ap (λ (l : List Source). cond (q x && p x) (x ∷ l) l) (filter-filter p q xs)

module _ (A : Answer) where
  abbrev defines_none : Source → Bool
  defines_none d = not (is_among d A.definitions)

  -- images don't qualify
  wanted-images : (k : ℕ) (xs : List ℕ) → filter defines_none (map image xs) ≡ wanted A k false (map image xs)
  wanted-images k [] = refl
  wanted-images k (x ∷ xs) = ap (λ (l : List Source). cond (defines_none (image x)) (image x ∷ l) l) (wanted-images k xs)

  abbrev cs : List Source
  cs = all_commutators A.presentation.rank

  abbrev ps : List Source
  ps = all_powers A.presentation.rank

  abbrev images : List Source
  images = all_images (length A.names)

  -- the parts one after the other
  abbrev pub parts : ℕ → List Source
  parts k = (((wanted A k true cs ++ wanted A k true ps) ++ wanted A k false cs) ++ wanted A k false ps) ++ wanted A k false images

  pub no_rank : IsAnswer A → class_of A ≡ 0 → A.presentation.rank ≡ 0
  no_rank is e = sym is.weight_count ∙ no_weights A.weights is.weights e

  want_order-suc : (k : ℕ) → want_order A (suc k) ≡ parts (suc k)
  want_order-suc k =
      let now = is_qualifying A (suc k) in
      let later : Source → Bool = λ d. not (is_qualifying A (suc k) d) in
      let none = defines_none in
      filter-append none (filter now cs) (filter now ps ++ (filter later cs ++ (filter later ps ++ images)))
      ∙ ap (λ (l : List Source). filter none (filter now cs) ++ l)
      (filter-append none (filter now ps) (filter later cs ++ (filter later ps ++ images))
      ∙ ap (λ (l : List Source). filter none (filter now ps) ++ l)
      (filter-append none (filter later cs) (filter later ps ++ images)
      ∙ ap (λ (l : List Source). filter none (filter later cs) ++ l)
      (filter-append none (filter later ps) images)))
      ∙ simp (
        filter-filter none now cs,
        filter-filter none now ps,
        filter-filter none later cs,
        filter-filter none later ps,
        wanted-images (suc k) (numbers_from 1 (length A.names)),
        append_assoc,
      )

  want_order-zero : A.presentation.rank ≡ 0 → want_order A 0 ≡ parts 0
  want_order-zero e =
      wanted-images 0 (numbers_from 1 (length A.names))
      ∙ ap (λ (n : ℕ). (((wanted A 0 true (all_commutators n) ++ wanted A 0 true (all_powers n)) ++ wanted A 0 false (all_commutators n))
      ++ wanted A 0 false (all_powers n)) ++ wanted A 0 false images) (sym e)

  want_order-parts : (k : ℕ) → (k ≡ 0 → A.presentation.rank ≡ 0) → want_order A k ≡ parts k
  want_order-parts zero h = want_order-zero (h refl)
  want_order-parts (suc k) h = want_order-suc k

  pub all_sources-parts : IsAnswer A → all_sources A ≡ parts (class_of A)
  all_sources-parts is =
      want_order-parts (class_of A) (no_rank is)

  -- what is put after what
  pub all_parts : IsAnswer A → (none l1 l2 l3 l4 l5 : List Source) → none ≡ [] → l1 ≡ none ++ wanted A (class_of A) true cs
      → l2 ≡ l1 ++ wanted A (class_of A) true ps → l3 ≡ l2 ++ wanted A (class_of A) false cs → l4 ≡ l3 ++ wanted A (class_of A) false ps
      → l5 ≡ l4 ++ wanted A (class_of A) false images → l5 ≡ all_sources A
  all_parts is none l1 l2 l3 l4 l5 e0 e1 e2 e3 e4 e5 =
      let c = class_of A in
      let f1 : l1 ≡ wanted A c true cs = e1 ∙ ap (λ (l : List Source). l ++ wanted A c true cs) e0 in
      let f2 : l2 ≡ wanted A c true cs ++ wanted A c true ps = e2 ∙ ap (λ (l : List Source). l ++ wanted A c true ps) f1 in
      let f3 : l3 ≡ (wanted A c true cs ++ wanted A c true ps) ++ wanted A c false cs =
      e3 ∙ ap (λ (l : List Source). l ++ wanted A c false cs) f2 in
      let f4 = e4 ∙ ap (λ (l : List Source). l ++ wanted A c false ps) f3 in
      e5 ∙ ap (λ (l : List Source). l ++ wanted A c false images) f4 ∙ sym (all_sources-parts is)
