-- The want order has five parts: no source is in two of them, none comes twice in one, and those that qualify come first.
use Rattle.std.proofs.Common.{◌≡◌, ◌≢◌, ◌<◌, ◌≤◌, ◌+◌, ℕ, zero, suc, Bool, true, not, cond, List, [], ◌∷◌, ◌++◌, get_or, length, map, refl}
use Rattle.std.proofs.Common.{ap, sym, ◌∙◌, inl, inr, arith}
use Rattle.std.specs.Prelude.{All, filter}
use Rattle.std.specs.List.{AllPairs}
use Rattle.std.proofs.lemmas.Bool.{cases_Bool, cond-true, cond-false, not-true, false≢true}
use Rattle.std.proofs.lemmas.List.{length-map}
use Rattle.std.proofs.lemmas.List.Elements.{All-nil, All-append, All-map, All-filter, All-weaker, filter_passes}
use Rattle.std.proofs.lemmas.List.Kept.{AllPairs-filter}
use Rattle.pq_base.specs.Answer.{Answer, Definition as Source, class_of}
use Rattle.pq_base.specs.Answer.Definition.{image, commutator, power}
use Rattle.pq_base.specs.Canonical.{numbers_from, is_among, commutators_of, commutators_up_to, all_commutators, all_powers, all_images}
use Rattle.pq_base.specs.Canonical.{is_qualifying, preferred}
use Rattle.p_cover.specs.Covers.{all_sources}
use Rattle.p_cover.specs.CoverLaws.{QualifyingSourcesComeFirst}
use Rattle.pq_base.proofs.NumberLists.{length-numbers_from, get_or-map_numbers}
use Rattle.p_cover.proofs.ListPairs.{AllPairs-nil, AllPairs-append, AllPairs-weaker}
use Rattle.p_cover.proofs.PlaceLaws.{same_power, same_second}

-- the number of the part in which a source stands at class k
abbrev pub part_of : Answer → ℕ → Source → ℕ
part_of A k (image i) = 4
part_of A k (commutator j i) = cond (is_qualifying A k (commutator j i)) 0 2
part_of A k (power j) = cond (is_qualifying A k (power j)) 1 3

-- one source before another
pub record IsBefore (A : Answer) (k : ℕ) (d e : Source) : Type 0 where
  pub parts : part_of A k d ≤ part_of A k e
  pub apart : d ≢ e

before_in_later_part : (A : Answer) (k : ℕ) (d e : Source) → part_of A k d < part_of A k e → IsBefore A k d e
before_in_later_part A k d e h = record {
  parts = omega arith;
  apart = λ (same : d ≡ e). let equal : part_of A k d ≡ part_of A k e = ap (part_of A k) same in absurd (omega arith);
}

same_image : (i k : ℕ) → image i ≡ image k → i ≡ k
same_image i k e = cc

-- the first generator of a commutator
abbrev first_of : Source → ℕ
first_of (image i) = 0
first_of (commutator j i) = j
first_of (power j) = 0

abbrev Apart : Source → Source → Type 0
Apart d e = d ≢ e

-- a range in which each number has its own source
apart-range : (f : ℕ → Source) (a n : ℕ) → ((i k : ℕ) → f i ≡ f k → i ≡ k) → AllPairs Apart (map f (numbers_from a n))
apart-range f a n one i j d l m =
    let long : length (map f (numbers_from a n)) ≡ n = length-map (numbers_from a n) f ∙ length-numbers_from a n in
    λ (e : get_or (map f (numbers_from a n)) i d ≡ get_or (map f (numbers_from a n)) j d).
    let same : a + i ≡ a + j = one (a + i) (a + j)
    (sym (get_or-map_numbers f a n i d (omega arith)) ∙ e ∙ get_or-map_numbers f a n j d (omega arith)) in
    absurd (omega arith)

first-of-row : (j : ℕ) → All (λ d. first_of d ≡ j) (commutators_of j)
first-of-row zero = All-nil (λ d. first_of d ≡ 0)
first-of-row (suc m) = All-map (λ d. first_of d ≡ suc m) (λ i. commutator (suc m) i) (numbers_from 1 m) (λ k d l. refl)

apart-row : (j : ℕ) → AllPairs Apart (commutators_of j)
apart-row zero = AllPairs-nil Apart
apart-row (suc m) = apart-range (λ i. commutator (suc m) i) 1 m (λ i k e. same_second (suc m) i (suc m) k e)

later-rows : (a n : ℕ) → All (λ d. a ≤ first_of d) (commutators_up_to (numbers_from a n))
later-rows a zero = All-nil (λ d. a ≤ first_of d)
later-rows a (suc n) =
    All-append (λ d. a ≤ first_of d) (commutators_of a) (commutators_up_to (numbers_from (suc a) n))
    (All-weaker (λ d. first_of d ≡ a) (λ d. a ≤ first_of d) (λ d e. omega arith) (commutators_of a) (first-of-row a))
    (All-weaker (λ d. suc a ≤ first_of d) (λ d. a ≤ first_of d) (λ d e. omega arith) (commutators_up_to (numbers_from (suc a) n))
    (later-rows (suc a) n))

apart-rows : (a n : ℕ) → AllPairs Apart (commutators_up_to (numbers_from a n))
apart-rows a zero = AllPairs-nil Apart
apart-rows a (suc n) =
    let rest : List Source = commutators_up_to (numbers_from (suc a) n) in
    AllPairs-append Apart (commutators_of a) rest (apart-row a) (apart-rows (suc a) n)
    (All-weaker (λ d. first_of d ≡ a) (λ d. All (Apart d) rest)
    (λ d e. All-weaker (λ x. suc a ≤ first_of x) (Apart d)
    (λ x l (same : d ≡ x). let equal : first_of d ≡ first_of x = ap first_of same in absurd (omega arith)) rest (later-rows (suc a) n))
    (commutators_of a) (first-of-row a))

module _ (A : Answer) (k : ℕ) where
  abbrev InPart : ℕ → Source → Type 0
  InPart n d = part_of A k d ≡ n

  abbrev FromPart : ℕ → Source → Type 0
  FromPart n d = n ≤ part_of A k d

  -- a part and what comes after it
  in_order : (n : ℕ) (xs ys : List Source) → All (InPart n) xs → AllPairs Apart xs → All (FromPart (suc n)) ys → AllPairs (IsBefore A k) ys
      → AllPairs (IsBefore A k) (xs ++ ys)
  in_order n xs ys here apart later rest =
      AllPairs-append (IsBefore A k) xs ys
      (λ i j d l m.
      let one : part_of A k (get_or xs i d) ≡ n = here i d (omega arith) in
      let two : part_of A k (get_or xs j d) ≡ n = here j d m in
      record { parts = omega arith; apart = apart i j d l m })
      rest
      (All-weaker (InPart n) (λ x. All (IsBefore A k x) ys)
      (λ x e. All-weaker (FromPart (suc n)) (IsBefore A k x) (λ y l. before_in_later_part A k x y (omega arith)) ys later) xs here)

  from_here : (n : ℕ) (xs ys : List Source) → All (InPart n) xs → All (FromPart (suc n)) ys → All (FromPart n) (xs ++ ys)
  from_here n xs ys here later =
      All-append (FromPart n) xs ys (All-weaker (InPart n) (FromPart n) (λ x e. omega arith) xs here)
      (All-weaker (FromPart (suc n)) (FromPart n) (λ y l. omega arith) ys later)

  pub in-images : (m : ℕ) → All (InPart 4) (all_images m)
  in-images m = All-map (InPart 4) image (numbers_from 1 m) (λ i d l. refl)

  apart-images : (m : ℕ) → AllPairs Apart (all_images m)
  apart-images m = apart-range image 1 m same_image

  pub images-in_order : (m : ℕ) → AllPairs (IsBefore A k) (all_images m)
  images-in_order m =
      λ i j d l next.
      let one : part_of A k (get_or (all_images m) i d) ≡ 4 = in-images m i d (omega arith) in
      let two : part_of A k (get_or (all_images m) j d) ≡ 4 = in-images m j d next in
      record { parts = omega arith; apart = apart-images m i j d l next }

  -- commutators and powers that qualify, and those that don't
  abbrev now : Source → Bool
  now d = is_qualifying A k d

  abbrev later : Source → Bool
  later d = not (is_qualifying A k d)

  abbrev CommutatorPart : Source → Type 0
  CommutatorPart d = part_of A k d ≡ cond (now d) 0 2

  abbrev PowerPart : Source → Type 0
  PowerPart d = part_of A k d ≡ cond (now d) 1 3

  row-parts : (j : ℕ) → All CommutatorPart (commutators_of j)
  row-parts zero = All-nil CommutatorPart
  row-parts (suc m) = All-map CommutatorPart (λ i. commutator (suc m) i) (numbers_from 1 m) (λ i d l. refl)

  commutator-parts : (js : List ℕ) → All CommutatorPart (commutators_up_to js)
  commutator-parts [] = All-nil CommutatorPart
  commutator-parts (j ∷ js) = All-append CommutatorPart (commutators_of j) (commutators_up_to js) (row-parts j) (commutator-parts js)

  power-parts : (n : ℕ) → All PowerPart (all_powers n)
  power-parts n = All-map PowerPart power (numbers_from 1 n) (λ i d l. refl)

  both : (P Q R : Source → Type 0) (xs : List Source) → ((x : Source) → P x → Q x → R x) → All P xs → All Q xs → All R xs
  both P Q R xs f p q = λ i d l. f (get_or xs i d) (p i d l) (q i d l)

  qualifying_part : (a b : ℕ) (xs : List Source) → All (λ d. part_of A k d ≡ cond (now d) a b) xs → All (InPart a) (filter now xs)
  qualifying_part a b xs h =
      both (λ d. part_of A k d ≡ cond (now d) a b) (λ d. now d ≡ true) (InPart a) (filter now xs)
      (λ x e t. e ∙ cond-true (now x) a b t)
      (All-filter now (λ d. part_of A k d ≡ cond (now d) a b) xs h) (filter_passes now xs)

  other_part : (a b : ℕ) (xs : List Source) → All (λ d. part_of A k d ≡ cond (now d) a b) xs → All (InPart b) (filter later xs)
  other_part a b xs h =
      both (λ d. part_of A k d ≡ cond (now d) a b) (λ d. later d ≡ true) (InPart b) (filter later xs)
      (λ x e t. e ∙ cond-false (now x) a b (not-true (now x) t))
      (All-filter later (λ d. part_of A k d ≡ cond (now d) a b) xs h) (filter_passes later xs)

  module _ (n m : ℕ) where
    abbrev cs : List Source
    cs = all_commutators n

    abbrev ps : List Source
    ps = all_powers n

    first : All (InPart 0) (filter now cs)
    first = qualifying_part 0 2 cs (commutator-parts (numbers_from 1 n))

    second : All (InPart 1) (filter now ps)
    second = qualifying_part 1 3 ps (power-parts n)

    third : All (InPart 2) (filter later cs)
    third = other_part 0 2 cs (commutator-parts (numbers_from 1 n))

    fourth : All (InPart 3) (filter later ps)
    fourth = other_part 1 3 ps (power-parts n)

    apart-commutators : (p : Source → Bool) → AllPairs Apart (filter p cs)
    apart-commutators p = AllPairs-filter Apart p cs (apart-rows 1 n)

    apart-powers : (p : Source → Bool) → AllPairs Apart (filter p ps)
    apart-powers p = AllPairs-filter Apart p ps (apart-range power 1 n same_power)

    from-images : All (FromPart 4) (all_images m)
    from-images = All-weaker (InPart 4) (FromPart 4) (λ x e. omega arith) (all_images m) (in-images m)

    abbrev after_three : List Source
    after_three = filter later ps ++ all_images m

    abbrev after_two : List Source
    after_two = filter later cs ++ after_three

    abbrev after_one : List Source
    after_one = filter now ps ++ after_two

    from-three : All (FromPart 3) after_three
    from-three = from_here 3 (filter later ps) (all_images m) fourth from-images

    from-two : All (FromPart 2) after_two
    from-two = from_here 2 (filter later cs) after_three third from-three

    from-one : All (FromPart 1) after_one
    from-one = from_here 1 (filter now ps) after_two second from-two

    pub parts-in_order : AllPairs (IsBefore A k) (filter now cs ++ after_one)
    parts-in_order =
        in_order 0 (filter now cs) after_one first (apart-commutators now) from-one
        (in_order 1 (filter now ps) after_two second (apart-powers now) from-two
        (in_order 2 (filter later cs) after_three third (apart-commutators later) from-three
        (in_order 3 (filter later ps) (all_images m) fourth (apart-powers later) from-images (images-in_order m))))

preferred-in_order : (A : Answer) (k : ℕ) → AllPairs (IsBefore A k) (preferred A k)
preferred-in_order A zero = images-in_order A 0 (length A.names)
preferred-in_order A (suc k) = parts-in_order A (suc k) A.presentation.rank (length A.names)

pub all_sources-in_order : (A : Answer) → AllPairs (IsBefore A (class_of A)) (all_sources A)
all_sources-in_order A =
    AllPairs-filter (IsBefore A (class_of A)) (λ d. not (is_among d A.definitions)) (preferred A (class_of A))
    (preferred-in_order A (class_of A))

pub all_sources-apart : (A : Answer) → AllPairs (λ d e. d ≢ e) (all_sources A)
all_sources-apart A = AllPairs-weaker (IsBefore A (class_of A)) (λ d e. d ≢ e) (λ d e b. b.apart) (all_sources A) (all_sources-in_order A)

-- what qualifies is in the first two parts, and what doesn't is in the others
qualifying-part_of : (A : Answer) (k : ℕ) (d : Source) → is_qualifying A k d ≡ true → part_of A k d ≤ 1
qualifying-part_of A k (image i) h = absurd (false≢true h)
qualifying-part_of A k (commutator j i) h = let e = cond-true {A = ℕ} (is_qualifying A k (commutator j i)) 0 2 h in omega arith
qualifying-part_of A k (power j) h = let e = cond-true {A = ℕ} (is_qualifying A k (power j)) 1 3 h in omega arith

part_of-qualifying : (A : Answer) (k : ℕ) (d : Source) → part_of A k d ≤ 1 → is_qualifying A k d ≡ true
part_of-qualifying A k (image i) h = absurd (omega arith)
part_of-qualifying A k (commutator j i) h = elim (cases_Bool (is_qualifying A k (commutator j i))) [
  | inl is ↦ is
  | inr isnt ↦ let e = cond-false {A = ℕ} (is_qualifying A k (commutator j i)) 0 2 isnt in absurd (omega arith)
]
part_of-qualifying A k (power j) h = elim (cases_Bool (is_qualifying A k (power j))) [
  | inl is ↦ is
  | inr isnt ↦ let e = cond-false {A = ℕ} (is_qualifying A k (power j)) 1 3 isnt in absurd (omega arith)
]

pub qualifying_sources_come_first : QualifyingSourcesComeFirst
qualifying_sources_come_first A h =
    let k = class_of A in
    AllPairs-weaker (IsBefore A k) (λ d e. is_qualifying A k e ≡ true → is_qualifying A k d ≡ true)
    (λ d e b q. let low = qualifying-part_of A k e q in let parts = b.parts in part_of-qualifying A k d (omega arith))
    (all_sources A) (all_sources-in_order A)
