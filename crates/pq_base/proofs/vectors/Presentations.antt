-- Presentations: those of small groups, their relators as words, and lists that present nothing.
use Rattle.std.proofs.Common.{◌≡◌, zero, suc, ℤ, pos, negsuc, List, [], ◌∷◌, length, refl, ap, lit<, arith}
use Rattle.pq_base.specs.Presentation.{Presentation, IsPresentation, IsNormal, IsRelatorOf, normal_word, power_word, commutator_word}
use Rattle.pq_base.specs.Presentation.IsRelatorOf.{power_relator, commutator_relator}
use Rattle.pq_base.proofs.vectors.Tests.{unequal, tested_presentation}

-- a1^2 trivial
abbrev pub order_two : Presentation
order_two = record { prime = 2; rank = 1; powers = [] ∷ []; commutators = [] ∷ [] }

-- [a2,a1] = a3, all squares trivial
abbrev pub dihedral_of_order_eight : Presentation
dihedral_of_order_eight = record {
  prime = 2;
  rank = 3;
  powers = (0 ∷ 0 ∷ []) ∷ (0 ∷ []) ∷ [] ∷ [];
  commutators = [] ∷ ((1 ∷ []) ∷ []) ∷ ([] ∷ [] ∷ []) ∷ [];
}

-- a3^2 = a4, [a2,a1] = a3, [a3,a1] = a4, [a3,a2] = a4
abbrev pub dihedral_of_order_sixteen : Presentation
dihedral_of_order_sixteen = record {
  prime = 2;
  rank = 4;
  powers = (0 ∷ 0 ∷ 0 ∷ []) ∷ (0 ∷ 0 ∷ []) ∷ (1 ∷ []) ∷ [] ∷ [];
  commutators = [] ∷ ((1 ∷ 0 ∷ []) ∷ []) ∷ ((1 ∷ []) ∷ (1 ∷ []) ∷ []) ∷ ([] ∷ [] ∷ [] ∷ []) ∷ [];
}

-- a1^2 = a3, a2^2 = a3, [a2,a1] = a3
abbrev pub quaternion : Presentation
quaternion = record {
  prime = 2;
  rank = 3;
  powers = (0 ∷ 1 ∷ []) ∷ (1 ∷ []) ∷ [] ∷ [];
  commutators = [] ∷ ((1 ∷ []) ∷ []) ∷ ([] ∷ [] ∷ []) ∷ [];
}

-- a1^3 = a2
abbrev pub cycle_of_nine : Presentation
cycle_of_nine = record { prime = 3; rank = 2; powers = (1 ∷ []) ∷ [] ∷ []; commutators = [] ∷ ([] ∷ []) ∷ [] }

-- a1^2 = a2, [a2,a1] = a3: a2 is a power of a1, so a3 is trivial
abbrev pub collapsing : Presentation
collapsing = record {
  prime = 2;
  rank = 3;
  powers = (1 ∷ 0 ∷ []) ∷ (0 ∷ []) ∷ [] ∷ [];
  commutators = [] ∷ ((1 ∷ []) ∷ []) ∷ ([] ∷ [] ∷ []) ∷ [];
}

-- no later generator, so an empty right side
pub order_two_is_presentation : IsPresentation order_two
order_two_is_presentation = tested_presentation order_two (record {
  prime = refl;
  power_count = refl;
  power_sides = refl;
  commutator_count = refl;
  commutator_counts = refl;
  commutator_sides = refl;
})

-- three generators
pub dihedral_of_order_eight_is_presentation : IsPresentation dihedral_of_order_eight
dihedral_of_order_eight_is_presentation = tested_presentation dihedral_of_order_eight (record {
  prime = refl;
  power_count = refl;
  power_sides = refl;
  commutator_count = refl;
  commutator_counts = refl;
  commutator_sides = refl;
})

-- four generators
pub dihedral_of_order_sixteen_is_presentation : IsPresentation dihedral_of_order_sixteen
dihedral_of_order_sixteen_is_presentation = tested_presentation dihedral_of_order_sixteen (record {
  prime = refl;
  power_count = refl;
  power_sides = refl;
  commutator_count = refl;
  commutator_counts = refl;
  commutator_sides = refl;
})

-- three generators with two powers
pub quaternion_is_presentation : IsPresentation quaternion
quaternion_is_presentation = tested_presentation quaternion (record {
  prime = refl;
  power_count = refl;
  power_sides = refl;
  commutator_count = refl;
  commutator_counts = refl;
  commutator_sides = refl;
})

-- two generators at the prime 3
pub cycle_of_nine_is_presentation : IsPresentation cycle_of_nine
cycle_of_nine_is_presentation = tested_presentation cycle_of_nine (record {
  prime = refl;
  power_count = refl;
  power_sides = refl;
  commutator_count = refl;
  commutator_counts = refl;
  commutator_sides = refl;
})

-- a presentation need not be consistent
pub collapsing_is_presentation : IsPresentation collapsing
collapsing_is_presentation = tested_presentation collapsing (record {
  prime = refl;
  power_count = refl;
  power_sides = refl;
  commutator_count = refl;
  commutator_counts = refl;
  commutator_sides = refl;
})

-- the power of a1 with an exponent for a2 alone
pub short_side_is_no_presentation : IsPresentation (record dihedral_of_order_eight { powers = (0 ∷ []) ∷ (0 ∷ []) ∷ [] ∷ [] }) → ⊥
short_side_is_no_presentation h = unequal 2 3 refl (h.power_sides 0 (lit< tt)).count

-- a side for one generator too many
pub further_side_is_no_presentation : IsPresentation (record order_two { powers = [] ∷ [] ∷ [] }) → ⊥
further_side_is_no_presentation h = unequal 2 1 refl h.power_count

-- the exponent 2 at the prime 2
pub large_exponent_is_no_presentation : IsPresentation (record dihedral_of_order_eight { powers = (0 ∷ 2 ∷ []) ∷ (0 ∷ []) ∷ [] ∷ [] }) → ⊥
large_exponent_is_no_presentation h = omega (arith, (h.power_sides 0 (lit< tt)).below.1.0)

-- a1^2 a3⁻¹
pub power_relator_of_quaternion : IsRelatorOf quaternion (pos 1 ∷ pos 1 ∷ negsuc 2 ∷ [])
power_relator_of_quaternion = power_relator 0 (lit< tt)

-- [a3,a2] a4⁻¹
pub commutator_relator_of_order_sixteen
    : IsRelatorOf dihedral_of_order_sixteen (negsuc 2 ∷ negsuc 1 ∷ pos 3 ∷ pos 2 ∷ negsuc 3 ∷ [])
commutator_relator_of_order_sixteen = commutator_relator 2 1 (lit< tt) (lit< tt)

-- a3^2 = a4
pub power_word_of_order_sixteen : power_word dihedral_of_order_sixteen 2 ≡ pos 4 ∷ []
power_word_of_order_sixteen = refl

-- [a2,a1] = a3
pub commutator_word_of_order_eight : commutator_word dihedral_of_order_eight 1 0 ≡ pos 3 ∷ []
commutator_word_of_order_eight = refl

-- the square of a1 is the one relator of the group of order two
pub relator_of_order_two : (r : List ℤ) → IsRelatorOf order_two r → r ≡ pos 1 ∷ pos 1 ∷ []
relator_of_order_two r (power_relator zero h) = refl
relator_of_order_two r (power_relator (suc i) h) = absurd (omega (arith, h))
relator_of_order_two r (commutator_relator j i hj hi) = absurd (omega (arith, hj, hi))

-- so a1 alone is none
pub letter_is_no_relator : IsRelatorOf order_two (pos 1 ∷ []) → ⊥
letter_is_no_relator h = unequal 1 2 refl (ap (λ (w : List ℤ). length w) (relator_of_order_two (pos 1 ∷ []) h))

-- a1 a3^2 for the exponents 1, 0, 2
pub word_of_exponents : normal_word (1 ∷ 0 ∷ 2 ∷ []) ≡ pos 1 ∷ pos 3 ∷ pos 3 ∷ []
word_of_exponents = refl

-- three exponents below 3
pub exponents_are_normal : IsNormal 3 3 (1 ∷ 0 ∷ 2 ∷ [])
exponents_are_normal = record { count = refl; below = (lit< tt, (lit< tt, (lit< tt, tt))) }

-- 2 is not below 2
pub exponent_two_is_not_normal : IsNormal 2 3 (1 ∷ 0 ∷ 2 ∷ []) → ⊥
exponent_two_is_not_normal h = omega (arith, h.below.1.1.0)

-- two exponents for three generators
pub two_exponents_are_not_normal : IsNormal 3 3 (1 ∷ 0 ∷ []) → ⊥
two_exponents_are_not_normal h = unequal 2 3 refl h.count
