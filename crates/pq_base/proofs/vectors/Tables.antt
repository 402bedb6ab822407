-- Tables: the group of one element, the groups of two and of four in a cycle, and tables that are no groups.
use Rattle.std.proofs.Common.{◌≡◌, ◌≢◌, ◌<◌, ℕ, zero, suc, pos, negsuc, [], ◌∷◌, refl, lit<, arith}
use Rattle.pq_base.specs.Table.{Table, IsGroup, HasTableClass, InLevel, AllBelow, times, value}
use Rattle.pq_base.specs.Table.NextElement.{no_element, times_power}
use Rattle.pq_base.proofs.vectors.Tests.{unequal, tested_group, tested_class_one}

-- the group of one element
abbrev pub one_element : Table
one_element = record { size = 1; rows = (0 ∷ []) ∷ [] }

-- the group of two elements
abbrev pub two_elements : Table
two_elements = record { size = 2; rows = (0 ∷ 1 ∷ []) ∷ (1 ∷ 0 ∷ []) ∷ [] }

-- the cyclic group of order four
abbrev pub cycle_of_four : Table
cycle_of_four = record {
  size = 4;
  rows = (0 ∷ 1 ∷ 2 ∷ 3 ∷ []) ∷ (1 ∷ 2 ∷ 3 ∷ 0 ∷ []) ∷ (2 ∷ 3 ∷ 0 ∷ 1 ∷ []) ∷ (3 ∷ 0 ∷ 1 ∷ 2 ∷ []) ∷ [];
}

-- two elements whose element 1 has no inverse
abbrev pub without_inverse : Table
without_inverse = record { size = 2; rows = (0 ∷ 1 ∷ []) ∷ (1 ∷ 1 ∷ []) ∷ [] }

-- the group of two elements with a row too long
abbrev pub with_long_row : Table
with_long_row = record { size = 2; rows = (0 ∷ 1 ∷ []) ∷ (1 ∷ 0 ∷ 0 ∷ []) ∷ [] }

-- 0 · 0 is 0
pub one_element_is_group : IsGroup one_element
one_element_is_group = tested_group one_element (record {
  nonempty = refl;
  row_count = refl;
  widths = refl;
  closed = refl;
  associative = refl;
  neutral = refl;
  inverses = refl;
})

-- 1 · 1 is 0
pub two_elements_are_group : IsGroup two_elements
two_elements_are_group = tested_group two_elements (record {
  nonempty = refl;
  row_count = refl;
  widths = refl;
  closed = refl;
  associative = refl;
  neutral = refl;
  inverses = refl;
})

-- sums modulo 4
pub cycle_of_four_is_group : IsGroup cycle_of_four
cycle_of_four_is_group = tested_group cycle_of_four (record {
  nonempty = refl;
  row_count = refl;
  widths = refl;
  closed = refl;
  associative = refl;
  neutral = refl;
  inverses = refl;
})

-- the product of 1 with 0 and with 1 is 1
pub without_inverse_is_no_group : IsGroup without_inverse → ⊥
without_inverse_is_no_group g = let found = g.inverses 1 (lit< tt) in none found.0 found.1 found.2 where
  none : (b : ℕ) → b < 2 → times without_inverse 1 b ≡ 0 → ⊥
  none zero below e = cc
  none (suc zero) below e = cc
  none (suc (suc b)) below e = omega arith

-- row 1 has three entries
pub with_long_row_is_no_group : IsGroup with_long_row → ⊥
with_long_row_is_no_group g = unequal 3 2 refl (g.widths 1 (lit< tt))

-- 1 · 1 · (-1) in the cycle of four, and a letter beyond the list
pub value_of_word : value cycle_of_four (1 ∷ []) (pos 1 ∷ pos 1 ∷ negsuc 0 ∷ []) ≡ 1
value_of_word = refl

-- the inverse of 1 before 2
pub value_of_inverse : value cycle_of_four (1 ∷ 2 ∷ []) (negsuc 0 ∷ pos 2 ∷ []) ≡ 1
value_of_inverse = refl

-- 0 and letters beyond the list are neutral
pub value_of_unknown_letter : value cycle_of_four (1 ∷ []) (pos 0 ∷ pos 7 ∷ negsuc 6 ∷ []) ≡ 0
value_of_unknown_letter = refl

-- 1 · 1 is 2
pub value_is_not_neutral : value cycle_of_four (1 ∷ []) (pos 1 ∷ pos 1 ∷ []) ≢ 0
value_is_not_neutral e = unequal 2 0 refl e

-- the group of one element has class 0
pub one_element_has_class_zero : (p : ℕ) → HasTableClass one_element p 0
one_element_has_class_zero p x h = omega arith

-- squares and commutators are neutral
pub two_elements_have_class_one : HasTableClass two_elements 2 1
two_elements_have_class_one = tested_class_one two_elements 2 (record { neutral = refl; powers = refl; commutators = refl })

-- level 0 has 1
pub two_elements_have_not_class_zero : HasTableClass two_elements 2 0 → ⊥
two_elements_have_not_class_zero h = unequal 1 0 refl (h 1 (lit< tt))

-- level 1 of the cycle of four at the prime 2 has the square of 1
pub square_in_level_one : InLevel cycle_of_four 2 1 2
square_in_level_one = times_power 1 0 (lit< tt) no_element

-- so level 1 is not trivial
pub cycle_of_four_has_not_class_one : HasTableClass cycle_of_four 2 1 → ⊥
cycle_of_four_has_not_class_one h = unequal 2 0 refl (h 2 square_in_level_one)

-- level 1 of the group of two elements has the neutral element alone, so not 1
pub one_not_in_level_one : InLevel two_elements 2 1 1 → ⊥
one_not_in_level_one h = unequal 1 0 refl (two_elements_have_class_one 1 h)

-- 1, 2 and 3 are below 4
pub entries_below : AllBelow 4 (1 ∷ 2 ∷ 3 ∷ [])
entries_below = (lit< tt, (lit< tt, (lit< tt, tt)))

-- 3 is not below 3
pub entry_not_below : AllBelow 3 (1 ∷ 3 ∷ []) → ⊥
entry_not_below h = omega (arith, h.1.0)
