-- The symmetric group of degree three: a commutator begins with inverses, and the group has no class at the prime 2, since
-- each level of its series has the cycles.
use Rattle.std.proofs.Common.{◌≡◌, ℕ, zero, suc, pos, [], ◌∷◌, refl, lit<}
use Rattle.pq_base.specs.SignedWord.{comm}
use Rattle.pq_base.specs.Table.{Table, IsGroup, HasTableClass, InLevel, inverse, power, commutator, value}
use Rattle.pq_base.specs.Table.NextElement.{times_commutator, no_element}
use Rattle.pq_base.proofs.vectors.Tests.{unequal, tested_group}

-- 1 is a cycle, and 3 a transposition
abbrev pub three_letters : Table
three_letters = record {
  size = 6;
  rows = (0 ∷ 1 ∷ 2 ∷ 3 ∷ 4 ∷ 5 ∷ [])
      ∷ (1 ∷ 2 ∷ 0 ∷ 4 ∷ 5 ∷ 3 ∷ [])
      ∷ (2 ∷ 0 ∷ 1 ∷ 5 ∷ 3 ∷ 4 ∷ [])
      ∷ (3 ∷ 5 ∷ 4 ∷ 0 ∷ 2 ∷ 1 ∷ [])
      ∷ (4 ∷ 3 ∷ 5 ∷ 1 ∷ 0 ∷ 2 ∷ [])
      ∷ (5 ∷ 4 ∷ 3 ∷ 2 ∷ 1 ∷ 0 ∷ [])
      ∷ [];
}

-- it is a group
pub three_letters_are_group : IsGroup three_letters
three_letters_are_group = tested_group three_letters (record {
  nonempty = refl;
  row_count = refl;
  widths = refl;
  closed = refl;
  associative = refl;
  neutral = refl;
  inverses = refl;
})

-- the other cycle
pub inverse_of_cycle : inverse three_letters 1 ≡ 2
inverse_of_cycle = refl

-- the cycle has order three
pub cube_of_cycle : power three_letters 1 3 ≡ 0
cube_of_cycle = refl

-- the commutator of the cycle and the transposition is the cycle, and the other way round its inverse
pub commutator_of_cycle : commutator three_letters 1 3 ≡ 1
commutator_of_cycle = refl

-- the other way round it is the inverse
pub commutator_of_transposition : commutator three_letters 3 1 ≡ 2
commutator_of_transposition = refl

-- [y,x] where x is the cycle and y the transposition
pub value_of_commutator : value three_letters (1 ∷ 3 ∷ []) (comm (pos 2 ∷ []) (pos 1 ∷ [])) ≡ 2
value_of_commutator = refl

-- the cycle is a commutator of itself with the transposition
pub cycle_in_each_level : (c : ℕ) → InLevel three_letters 2 c 1
cycle_in_each_level zero = lit< tt
cycle_in_each_level (suc c) = times_commutator 1 3 0 (cycle_in_each_level c) (lit< tt) no_element

-- so no level is trivial
pub three_letters_have_no_class : (c : ℕ) → HasTableClass three_letters 2 c → ⊥
three_letters_have_no_class c h = unequal 1 0 refl (h 1 (cycle_in_each_level c))
