-- Where arrows lead from each of n generators exactly once, the images have as many letters together as the words to
-- which the arrows lead, each image is one of these words, and there are no other images.
use Rattle.std.proofs.Common.{◌≡◌, ◌<◌, ℕ, zero, suc, ◌+◌, ℤ, Bool, cond, eqb, List, [], ◌∷◌, ◌++◌, length, length-append, take, get_or}
use Rattle.std.proofs.Common.{sum_by, All, refl, sym, ap, ap₂, subst, ◌∙◌, arith, inl, inr, ◌≢◌, Option, Some, None, MatchOption}
use Rattle.std.proofs.Common.{option_and_then}
use Rattle.std.specs.List.{AllByRecursion}
use Rattle.std.proofs.lemmas.Bool.{cond_both, cases_lt}
use Rattle.std.proofs.lemmas.Bool.Decides.{eqb_tells}
use Rattle.std.proofs.lemmas.List.Sums.{sum_by-cons}
use Rattle.std.proofs.lemmas.List.Elements.{All-from_get_or}
use Rattle.std.proofs.Math.ListN.{get_or-append}
use Rattle.std.proofs.Math.Seq.{ext_get_or, get_or-append_seam, get_or-take, length-take-le}
use Rattle.lpres_reader.specs.Items.{Mapping, words_from, GivesEach}
use Rattle.lpres_reader.specs.Verdicts.{image_behind, images_of}

-- the sum of g over the numbers below n
abbrev pub sum_below : ℕ → (ℕ → ℕ) → ℕ
sum_below zero g = 0
sum_below (suc n) g = sum_below n g + g n

sum_below-same : (n : ℕ) (g h : ℕ → ℕ) → ((k : ℕ) → k < n → g k ≡ h k) → sum_below n g ≡ sum_below n h
sum_below-same zero g h e = refl
sum_below-same (suc n) g h e = ap₂ (λ (x y : ℕ). x + y) (sum_below-same n g h (λ k lt. e k (omega arith))) (e n (omega arith))

sum_below-zero : (n : ℕ) → sum_below n (λ k. 0) ≡ 0
sum_below-zero zero = refl
sum_below-zero (suc n) = omega (arith, sum_below-zero n)

sum_below-suc : (n : ℕ) (g : ℕ → ℕ) → sum_below (suc n) g ≡ g 0 + sum_below n (λ k. g (suc k))
sum_below-suc zero g = omega arith
sum_below-suc (suc n) g = omega (arith, sum_below-suc n g)

-- one place more
sum_below-more : (n i x : ℕ) (g h : ℕ → ℕ) → i < n → h i ≡ x + g i → ((k : ℕ) → k ≢ i → h k ≡ g k) → sum_below n h ≡ x + sum_below n g
sum_below-more zero i x g h lt here there = absurd (omega arith)
sum_below-more (suc n) i x g h lt here there = elim (cases_lt i n) [
  | inl below ↦
      let e = sum_below-more n i x g h below here there in
      let other : h n ≡ g n = there n (λ same. omega arith) in
      omega arith
  | inr end ↦
      let is : n ≡ i = omega arith in
      let same : sum_below n h ≡ sum_below n g = sum_below-same n h g (λ k lt. there k (λ e. omega arith)) in
      let last : h n ≡ x + g n = subst (λ (k : ℕ). h k ≡ x + g k) (sym is) here in
      omega arith
]

abbrev pub letters_of : List Mapping → ℕ
letters_of ms = sum_by (λ m. length m.to) ms

abbrev letters_from : List Mapping → ℕ → ℕ
letters_from ms k = sum_by length (words_from k ms)

abbrev pub AreFrom : ℕ → List Mapping → Type 0
AreFrom n ms = AllByRecursion (λ m. m.from < n) ms

letters_by_place : (n : ℕ) (ms : List Mapping) → AreFrom n ms → sum_below n (letters_from ms) ≡ letters_of ms
letters_by_place n [] h = sum_below-zero n
letters_by_place n (m ∷ ms) h =
    let here : letters_from (m ∷ ms) m.from ≡ length m.to + letters_from ms m.from = elim (eqb_tells m.from m.from) [
      | inl t ↦ ap (λ (b : Bool). sum_by length (cond b (m.to ∷ words_from m.from ms) (words_from m.from ms))) t.0
          ∙ sum_by-cons length m.to (words_from m.from ms)
      | inr f ↦ absurd (f.1 refl)
    ] in
    let there = λ (k : ℕ) (ne : k ≢ m.from). elim (eqb_tells m.from k) as (λ _. letters_from (m ∷ ms) k ≡ letters_from ms k) [
      | inl t ↦ absurd (ne (sym t.1))
      | inr f ↦ ap (λ (b : Bool). sum_by length (cond b (m.to ∷ words_from k ms) (words_from k ms))) f.0
    ] in
    sum_below-more n m.from (length m.to) (letters_from ms) (letters_from (m ∷ ms)) h.0 here there
    ∙ ap (λ (x : ℕ). length m.to + x) (letters_by_place n ms h.1)
    ∙ sym (sum_by-cons (λ (q : Mapping). length q.to) m ms)

sum_by-places : (ws : List (List ℤ)) → sum_by length ws ≡ sum_below (length ws) (λ k. length (get_or ws k []))
sum_by-places [] = refl
sum_by-places (w ∷ ws) =
    sum_by-cons length w ws ∙ ap (λ (x : ℕ). length w + x) (sum_by-places ws)
    ∙ sym (sum_below-suc (length ws) (λ k. length (get_or (w ∷ ws) k [])))

pub letters_of_images : (n : ℕ) (ms : List Mapping) (f : List (List ℤ)) → AreFrom n ms → GivesEach n ms f → sum_by length f ≡ letters_of ms
letters_of_images n ms f h g =
    sum_by-places f
    ∙ ap (λ (k : ℕ). sum_below k (λ i. length (get_or f i []))) g.image_count
    ∙ sum_below-same n (λ i. length (get_or f i [])) (letters_from ms)
    (λ k lt. sym (ap (sum_by length) (g.exactly_one k lt) ∙ sum_by-cons length (get_or f k []) [] ∙ omega arith))
    ∙ letters_by_place n ms h

pub images_unique : (n : ℕ) (ms : List Mapping) (f g : List (List ℤ)) → GivesEach n ms f → GivesEach n ms g → f ≡ g
images_unique n ms f g a b =
    ext_get_or [] f g (a.image_count ∙ sym b.image_count) (λ k lt. let small : k < n = subst (λ (m : ℕ). k < m) a.image_count lt in
    let e : get_or f k [] ∷ [] ≡ get_or g k [] ∷ [] = sym (a.exactly_one k small) ∙ b.exactly_one k small in cc)

-- what holds of the words to which arrows lead holds of the images
words_from_all : (P : List ℤ → Type 0) (k : ℕ) (ms : List Mapping) → AllByRecursion (λ m. P m.to) ms → AllByRecursion P (words_from k ms)
words_from_all P k [] h = tt
words_from_all P k (m ∷ ms) h =
    let rest = words_from_all P k ms h.1 in
    cond_both (eqb m.from k) (m.to ∷ words_from k ms) (words_from k ms) (AllByRecursion P) (λ e. (h.0, rest)) (λ e. rest)

pub images_all : (P : List ℤ → Type 0) (n : ℕ) (ms : List Mapping) (f : List (List ℤ)) → AllByRecursion (λ m. P m.to) ms → GivesEach n ms f
    → All P f
images_all P n ms f h g = All-from_get_or P f [] (λ k lt.
    let small : k < n = subst (λ (m : ℕ). k < m) g.image_count lt in
    (subst (AllByRecursion P) (g.exactly_one k small) (words_from_all P k ms h)).0)

first_images : (n : ℕ) (ms : List Mapping) (f : List (List ℤ)) → GivesEach (suc n) ms f → GivesEach n ms (take n f)
first_images n ms f g =
    let count = g.image_count in
    record {
      image_count = length-take-le n f (omega arith);
      exactly_one = λ k lt. g.exactly_one k (omega arith) ∙ ap (λ (w : List ℤ). w ∷ []) (sym (get_or-take n f k [] lt));
    }

one_more : (n : ℕ) (ms : List Mapping) (f : List (List ℤ)) (w : List ℤ) → GivesEach n ms f → words_from n ms ≡ w ∷ []
    → GivesEach (suc n) ms (f ++ w ∷ [])
one_more n ms f w g e =
    let count = g.image_count in
    record {
      image_count = omega (arith, length-append f (w ∷ []));
      exactly_one = λ k lt. elim (cases_lt k n) [
        | inl below ↦ g.exactly_one k below ∙ ap (λ (v : List ℤ). v ∷ []) (sym (get_or-append f (w ∷ []) [] k (omega arith)))
        | inr end ↦
            let is : length f ≡ k = omega arith in
            let at : n ≡ k = omega arith in
            ap (λ (i : ℕ). words_from i ms) (sym at)
            ∙ e ∙ ap (λ (v : List ℤ). v ∷ []) (sym (ap (λ (i : ℕ). get_or (f ++ w ∷ []) i []) (sym is) ∙ get_or-append_seam f w [] []))
      ];
    }

-- the images that arrows give are found, and none are found where they give none
abbrev AreImages : ℕ → List Mapping → Option (List (List ℤ)) → Type 0
AreImages n ms o = MatchOption o ((f : List (List ℤ)) → GivesEach n ms f → ⊥) (GivesEach n ms)

image_found : (n : ℕ) (ms : List Mapping) (ws f : List (List ℤ)) → words_from n ms ≡ ws → GivesEach n ms f
    → AreImages (suc n) ms (image_behind ws f)
image_found n ms [] f e g = λ h k. let one : [] ≡ get_or h n [] ∷ [] = sym e ∙ k.exactly_one n (omega arith) in cc
image_found n ms (w ∷ []) f e g = one_more n ms f w g e
image_found n ms (w ∷ v ∷ ws) f e g = λ h k. let one : w ∷ v ∷ ws ≡ get_or h n [] ∷ [] = sym e ∙ k.exactly_one n (omega arith) in cc

images_found : (n : ℕ) (ms : List Mapping) (o : Option (List (List ℤ))) → AreImages n ms o
    → AreImages (suc n) ms (option_and_then (image_behind (words_from n ms)) o)
images_found n ms None never = λ f g. never (take n f) (first_images n ms f g)
images_found n ms (Some f) g = image_found n ms (words_from n ms) f refl g

pub images_of-gives : (n : ℕ) (ms : List Mapping) → AreImages n ms (images_of n ms)
images_of-gives zero ms = record { image_count = refl; exactly_one = λ k lt. absurd (omega arith) }
images_of-gives (suc n) ms = images_found n ms (images_of n ms) (images_of-gives n ms)
