-- The right sides of an elementary presentation are zeros of the right lengths: it is a presentation, and its relators
-- are the powers and the commutators of the generators alone.
use Rattle.std.proofs.Common.{◌≡◌, ℕ, zero, suc, ◌+◌, ◌-◌, ◌≤◌, List, [], get_or, length, replicate, refl, ap, sym, ◌∙◌, subst, arith}
use Rattle.std.proofs.lemmas.List.{length-replicate, get_or-replicate}
use Rattle.pq_base.specs.Table.{AllBelow}
use Rattle.pq_base.specs.Presentation.{IsPresentation, IsLaterSide, word_from, power_word, commutator_word}
use Rattle.pq_base.specs.Elementary.{zeros, zero_powers, zero_rows, elementary}
use Rattle.pq_base.proofs.words.WordLaws.{word_from-zeros}

pub zeros-below : (p n : ℕ) → 1 ≤ p → AllBelow p (zeros n)
zeros-below p zero h = tt
zeros-below p (suc n) h = (omega arith, zeros-below p n h)

length-zero_powers : (n : ℕ) → length (zero_powers n) ≡ n
length-zero_powers zero = refl
length-zero_powers (suc n) = omega (arith, length-zero_powers n)

length-zero_rows : (j n : ℕ) → length (zero_rows j n) ≡ n
length-zero_rows j zero = refl
length-zero_rows j (suc n) = omega (arith, length-zero_rows (suc j) n)

get_or-zero_powers : (n i m : ℕ) → suc i + m ≡ n → get_or (zero_powers n) i [] ≡ zeros m
get_or-zero_powers zero i m e = absurd (omega arith)
get_or-zero_powers (suc n) zero m e = let same : n ≡ m = omega arith in ap zeros same
get_or-zero_powers (suc n) (suc i) m e = get_or-zero_powers n i m (omega arith)

get_or-zero_rows : (j n i m : ℕ) → suc i + m ≡ n → get_or (zero_rows j n) i [] ≡ replicate (j + i) (zeros m)
get_or-zero_rows j zero i m e = absurd (omega arith)
get_or-zero_rows j (suc n) zero m e =
    let same : n ≡ m = omega arith in
    let place : j ≡ j + 0 = omega arith in
    ap (λ (x : ℕ). replicate j (zeros x)) same ∙ ap (λ (x : ℕ). replicate x (zeros m)) place
get_or-zero_rows j (suc n) (suc i) m e =
    let place : suc j + i ≡ j + suc i = omega arith in
    get_or-zero_rows (suc j) n i m (omega arith) ∙ ap (λ (x : ℕ). replicate x (zeros m)) place

later_side : (p n i m : ℕ) (e : List ℕ) → 1 ≤ p → suc i + m ≡ n → e ≡ zeros m → IsLaterSide (elementary p n) i e
later_side p n i m e h place is = record {
  count = ap (λ (x : ℕ). suc i + x) (ap length is ∙ length-replicate m 0) ∙ place;
  below = subst (λ (x : List ℕ). AllBelow p x) (sym is) (zeros-below p m h);
}

row_at : (n j m : ℕ) → suc j + m ≡ n → get_or (zero_rows 0 n) j [] ≡ replicate j (zeros m)
row_at n j m e = let place : 0 + j ≡ j = omega arith in
    get_or-zero_rows 0 n j m e ∙ ap (λ (x : ℕ). replicate x (zeros m)) place

pub elementary-presentation : (p n : ℕ) → 2 ≤ p → IsPresentation (elementary p n)
elementary-presentation p n h = record {
  prime = h;
  power_count = length-zero_powers n;
  power_sides = λ i below.
      let place : suc i + (n - suc i) ≡ n = omega arith in
      later_side p n i (n - suc i) (get_or (zero_powers n) i []) (omega arith) place (get_or-zero_powers n i (n - suc i) place);
  commutator_count = length-zero_rows 0 n;
  commutator_counts = λ j below.
      let place : suc j + (n - suc j) ≡ n = omega arith in
      ap length (row_at n j (n - suc j) place) ∙ length-replicate j (zeros (n - suc j));
  commutator_sides = λ j i below earlier.
      let place : suc j + (n - suc j) ≡ n = omega arith in
      later_side p n j (n - suc j) (get_or (get_or (zero_rows 0 n) j []) i []) (omega arith) place
      (ap (λ (row : List (List ℕ)). get_or row i []) (row_at n j (n - suc j) place)
      ∙ get_or-replicate j i (zeros (n - suc j)) [] earlier);
}

-- the words of the right sides are empty
empty_power : (k n i : ℕ) → word_from k (get_or (zero_powers n) i []) ≡ []
empty_power k zero i = refl
empty_power k (suc n) zero = word_from-zeros k n
empty_power k (suc n) (suc i) = empty_power k n i

empty_copy : (k n j i : ℕ) → word_from k (get_or (replicate j (zeros n)) i []) ≡ []
empty_copy k n zero i = refl
empty_copy k n (suc j) zero = word_from-zeros k n
empty_copy k n (suc j) (suc i) = empty_copy k n j i

empty_commutator : (k j n m i : ℕ) → word_from k (get_or (get_or (zero_rows j n) m []) i []) ≡ []
empty_commutator k j zero m i = refl
empty_commutator k j (suc n) zero i = empty_copy k n j i
empty_commutator k j (suc n) (suc m) i = empty_commutator k (suc j) n m i

pub power_word-elementary : (p n i : ℕ) → power_word (elementary p n) i ≡ []
power_word-elementary p n i = empty_power (suc i) n i

pub commutator_word-elementary : (p n j i : ℕ) → commutator_word (elementary p n) j i ≡ []
commutator_word-elementary p n j i = empty_commutator (suc j) 0 n j i
