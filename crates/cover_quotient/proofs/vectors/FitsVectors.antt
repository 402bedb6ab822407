-- The generator of the group of order two fits the answer of order two at level 1, and doesn't fit the trivial answer there.
use Rattle.std.proofs.Common.{◌≡◌, ℕ, zero, suc, ◌<◌, ℤ, List, [], ◌∷◌, get_or, refl, ap₂, arith}
use Rattle.pq_base.specs.Table.{Table, NextElement, InLevel, times, inverse, value, power, commutator}
use Rattle.pq_base.specs.Table.NextElement.{no_element, times_commutator, times_power}
use Rattle.pq_base.specs.Presentation.{IsRelatorOf}
use Rattle.pq_base.specs.Presentation.IsRelatorOf.{power_relator, commutator_relator}
use Rattle.pq_base.specs.Answer.{Answer, image_words}
use Rattle.pq_base.specs.Answer.Definition.{image}
use Rattle.pc_presentation.specs.Parts.{trivial_answer}
use Rattle.cover_quotient.specs.Fits.{spelled_elements, Fits}

abbrev two : Table
two = record { size = 2; rows = (0 ∷ 1 ∷ []) ∷ (1 ∷ 0 ∷ []) ∷ [] }

abbrev order_two : Answer
order_two = record {
  presentation = record { prime = 2; rank = 1; powers = [] ∷ []; commutators = [] ∷ [] };
  weights = 1 ∷ [];
  names = (97 ∷ []) ∷ [];
  definitions = image 1 ∷ [];
  images = (1 ∷ []) ∷ [];
}

-- one that fits
relator-fits : {r : List ℤ} → IsRelatorOf order_two.presentation r → InLevel two 2 1 (value two (spelled_elements two (1 ∷ []) order_two) r)
relator-fits (power_relator zero l) = no_element
relator-fits (power_relator (suc i) l) = absurd (omega arith)
relator-fits (commutator_relator zero i l m) = absurd (omega arith)
relator-fits (commutator_relator (suc j) i l m) = absurd (omega arith)

image-fits : (i : ℕ) → i < 1
    → InLevel two 2 1 (times two (inverse two (value two (spelled_elements two (1 ∷ []) order_two) (get_or (image_words order_two) i [])))
    (get_or (1 ∷ []) i 0))
image-fits zero l = no_element
image-fits (suc i) l = absurd (omega arith)

fits : Fits two (1 ∷ []) 1 order_two
fits = record { relators = λ r e. relator-fits e; images = image-fits }

-- level 1 is trivial
commutator-zero : (u v : ℕ) → u < 2 → v < 2 → commutator two u v ≡ 0
commutator-zero zero zero l m = refl
commutator-zero zero (suc zero) l m = refl
commutator-zero (suc zero) zero l m = refl
commutator-zero (suc zero) (suc zero) l m = refl
commutator-zero zero (suc (suc v)) l m = absurd (omega arith)
commutator-zero (suc zero) (suc (suc v)) l m = absurd (omega arith)
commutator-zero (suc (suc u)) v l m = absurd (omega arith)

power-zero : (u : ℕ) → u < 2 → power two u 2 ≡ 0
power-zero zero l = refl
power-zero (suc zero) l = refl
power-zero (suc (suc u)) l = absurd (omega arith)

level_one : {x : ℕ} → NextElement two 2 (InLevel two 2 0) x → x ≡ 0
level_one no_element = refl
level_one (times_commutator u v x s l n) = ap₂ (times two) (commutator-zero u v s l) (level_one n)
level_one (times_power u x s n) = ap₂ (times two) (power-zero u s) (level_one n)

-- one that doesn't
misfits : Fits two (1 ∷ []) 1 (trivial_answer 2 ((97 ∷ []) ∷ [])) → ⊥
misfits h = let e = level_one (h.images 0 (omega arith)) in cc
