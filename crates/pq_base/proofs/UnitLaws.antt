-- Lists of zeros and unit vectors: their lengths, their entries, and their words.
use Rattle.std.proofs.Common.{◌≡◌, ℕ, zero, suc, ◌+◌, ◌<◌, ◌≤◌, ℤ, List, ◌++◌, get_or, length, refl, ap, ◌∙◌, arith}
use Rattle.std.proofs.lemmas.List.{length-replicate}
use Rattle.pq_base.specs.Table.{AllBelow}
use Rattle.pq_base.specs.Presentation.{letter, word_from}
use Rattle.pq_base.specs.Canonical.{unit}
use Rattle.pq_base.specs.Elementary.{zeros}
use Rattle.pq_base.proofs.words.WordLaws.{word_from-zeros}
use Rattle.pq_base.proofs.ElementarySides.{zeros-below}

pub length-unit : (n k : ℕ) → length (unit n k) ≡ n
length-unit zero k = refl
length-unit (suc n) zero = omega (arith, length-replicate {A = ℕ} n 0)
length-unit (suc n) (suc k) = omega (arith, length-unit n k)

-- each entry of a list of zeros
pub get_or-zeros : (n i : ℕ) → get_or (zeros n) i 0 ≡ 0
get_or-zeros zero i = refl
get_or-zeros (suc n) zero = refl
get_or-zeros (suc n) (suc i) = get_or-zeros n i

-- the entry of a unit that is not 0
pub get_or-unit : (n k : ℕ) → k < n → get_or (unit n k) k 0 ≡ 1
get_or-unit zero k l = absurd (omega arith)
get_or-unit (suc n) zero l = refl
get_or-unit (suc n) (suc k) l = get_or-unit n k (omega arith)

pub unit-below : (p n k : ℕ) → 2 ≤ p → AllBelow p (unit n k)
unit-below p zero k h = tt
unit-below p (suc n) zero h = (omega arith, zeros-below p n (omega arith))
unit-below p (suc n) (suc k) h = (omega arith, unit-below p n k h)

pub word_from-unit : (j n k : ℕ) → k < n → word_from j (unit n k) ≡ letter (j + k)
word_from-unit j zero k h = absurd (omega arith)
word_from-unit j (suc n) zero h =
    let place : j ≡ j + 0 = omega arith in
    ap (λ (w : List ℤ). letter j ++ w) (word_from-zeros (suc j) n) ∙ ap letter place
word_from-unit j (suc n) (suc k) h =
    let place : suc j + k ≡ j + suc k = omega arith in
    word_from-unit (suc j) n k (omega arith) ∙ ap letter place
