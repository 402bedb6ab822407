-- The presentations of the dihedral groups of orders eight and sixteen, of the quaternion group and of the cyclic group
-- of order nine are consistent.
use Rattle.std.proofs.Common.{◌/◌, ◌%◌, ℕ, List, [], ◌∷◌, refl, lit<}
use Rattle.pq_base.specs.Table.{Table, IsGroup}
use Rattle.pq_base.specs.Joined.{IsConsistent}
use Rattle.pq_base.proofs.vectors.Tests.{tested_group}
use Rattle.pq_base.proofs.vectors.Presentations.{dihedral_of_order_eight, dihedral_of_order_sixteen, quaternion, cycle_of_nine}
use Rattle.pq_base.proofs.vectors.DihedralTable.{eight_elements, eight_elements_are_group, generators, generators_below}
use Rattle.pq_base.proofs.vectors.ConsistentTests.{PassesConsistent, tested_consistent}

-- 4 e + 2 f + g as e, f, g
abbrev pub three_bits : ℕ → List ℕ
three_bits n = n / 4 ∷ (n / 2) % 2 ∷ n % 2 ∷ []

-- the table of eight elements tells the eight normal words apart
pub order_eight_passes : PassesConsistent dihedral_of_order_eight 8 eight_elements generators three_bits
order_eight_passes = record {
  prime = refl;
  reached = refl;
  empty = refl;
  group = eight_elements_are_group;
  elements = generators_below;
  powers = refl;
  commutators = refl;
  told = refl;
}

-- eight normal words are eight elements
pub order_eight_is_consistent : IsConsistent dihedral_of_order_eight
order_eight_is_consistent = tested_consistent order_eight_passes

-- the quaternion group
abbrev pub eight_quaternions : Table
eight_quaternions = record {
  size = 8;
  rows = (0 ∷ 1 ∷ 2 ∷ 3 ∷ 4 ∷ 5 ∷ 6 ∷ 7 ∷ [])
      ∷ (1 ∷ 0 ∷ 3 ∷ 2 ∷ 5 ∷ 4 ∷ 7 ∷ 6 ∷ [])
      ∷ (2 ∷ 3 ∷ 1 ∷ 0 ∷ 7 ∷ 6 ∷ 4 ∷ 5 ∷ [])
      ∷ (3 ∷ 2 ∷ 0 ∷ 1 ∷ 6 ∷ 7 ∷ 5 ∷ 4 ∷ [])
      ∷ (4 ∷ 5 ∷ 6 ∷ 7 ∷ 1 ∷ 0 ∷ 3 ∷ 2 ∷ [])
      ∷ (5 ∷ 4 ∷ 7 ∷ 6 ∷ 0 ∷ 1 ∷ 2 ∷ 3 ∷ [])
      ∷ (6 ∷ 7 ∷ 5 ∷ 4 ∷ 2 ∷ 3 ∷ 1 ∷ 0 ∷ [])
      ∷ (7 ∷ 6 ∷ 4 ∷ 5 ∷ 3 ∷ 2 ∷ 0 ∷ 1 ∷ [])
      ∷ [];
}

-- it is a group
pub eight_quaternions_are_group : IsGroup eight_quaternions
eight_quaternions_are_group = tested_group eight_quaternions (record {
  nonempty = refl;
  row_count = refl;
  widths = refl;
  closed = refl;
  associative = refl;
  neutral = refl;
  inverses = refl;
})

-- the table of quaternions tells the eight normal words apart
pub quaternion_passes : PassesConsistent quaternion 8 eight_quaternions (4 ∷ 2 ∷ 1 ∷ []) three_bits
quaternion_passes = record {
  prime = refl;
  reached = refl;
  empty = refl;
  group = eight_quaternions_are_group;
  elements = (lit< tt, (lit< tt, (lit< tt, tt)));
  powers = refl;
  commutators = refl;
  told = refl;
}

-- so they are eight elements
pub quaternion_is_consistent : IsConsistent quaternion
quaternion_is_consistent = tested_consistent quaternion_passes

-- the cyclic group of order nine, the element of the exponents e, f being 3 e + f
abbrev pub nine_elements : Table
nine_elements = record {
  size = 9;
  rows = (0 ∷ 1 ∷ 2 ∷ 3 ∷ 4 ∷ 5 ∷ 6 ∷ 7 ∷ 8 ∷ [])
      ∷ (1 ∷ 2 ∷ 0 ∷ 4 ∷ 5 ∷ 3 ∷ 7 ∷ 8 ∷ 6 ∷ [])
      ∷ (2 ∷ 0 ∷ 1 ∷ 5 ∷ 3 ∷ 4 ∷ 8 ∷ 6 ∷ 7 ∷ [])
      ∷ (3 ∷ 4 ∷ 5 ∷ 6 ∷ 7 ∷ 8 ∷ 1 ∷ 2 ∷ 0 ∷ [])
      ∷ (4 ∷ 5 ∷ 3 ∷ 7 ∷ 8 ∷ 6 ∷ 2 ∷ 0 ∷ 1 ∷ [])
      ∷ (5 ∷ 3 ∷ 4 ∷ 8 ∷ 6 ∷ 7 ∷ 0 ∷ 1 ∷ 2 ∷ [])
      ∷ (6 ∷ 7 ∷ 8 ∷ 1 ∷ 2 ∷ 0 ∷ 4 ∷ 5 ∷ 3 ∷ [])
      ∷ (7 ∷ 8 ∷ 6 ∷ 2 ∷ 0 ∷ 1 ∷ 5 ∷ 3 ∷ 4 ∷ [])
      ∷ (8 ∷ 6 ∷ 7 ∷ 0 ∷ 1 ∷ 2 ∷ 3 ∷ 4 ∷ 5 ∷ [])
      ∷ [];
}

-- it is a group
pub nine_elements_are_group : IsGroup nine_elements
nine_elements_are_group = tested_group nine_elements (record {
  nonempty = refl;
  row_count = refl;
  widths = refl;
  closed = refl;
  associative = refl;
  neutral = refl;
  inverses = refl;
})

-- 3 e + f as e, f
abbrev pub two_digits : ℕ → List ℕ
two_digits n = n / 3 ∷ n % 3 ∷ []

-- the table of nine elements tells the nine normal words apart
pub cycle_of_nine_passes : PassesConsistent cycle_of_nine 8 nine_elements (3 ∷ 1 ∷ []) two_digits
cycle_of_nine_passes = record {
  prime = refl;
  reached = refl;
  empty = refl;
  group = nine_elements_are_group;
  elements = (lit< tt, (lit< tt, tt));
  powers = refl;
  commutators = refl;
  told = refl;
}

-- so they are nine elements
pub cycle_of_nine_is_consistent : IsConsistent cycle_of_nine
cycle_of_nine_is_consistent = tested_consistent cycle_of_nine_passes

-- the dihedral group of order sixteen
abbrev pub sixteen_elements : Table
sixteen_elements = record {
  size = 16;
  rows = (0 ∷ 1 ∷ 2 ∷ 3 ∷ 4 ∷ 5 ∷ 6 ∷ 7 ∷ 8 ∷ 9 ∷ 10 ∷ 11 ∷ 12 ∷ 13 ∷ 14 ∷ 15 ∷ [])
      ∷ (1 ∷ 0 ∷ 3 ∷ 2 ∷ 5 ∷ 4 ∷ 7 ∷ 6 ∷ 9 ∷ 8 ∷ 11 ∷ 10 ∷ 13 ∷ 12 ∷ 15 ∷ 14 ∷ [])
      ∷ (2 ∷ 3 ∷ 1 ∷ 0 ∷ 7 ∷ 6 ∷ 4 ∷ 5 ∷ 11 ∷ 10 ∷ 8 ∷ 9 ∷ 14 ∷ 15 ∷ 13 ∷ 12 ∷ [])
      ∷ (3 ∷ 2 ∷ 0 ∷ 1 ∷ 6 ∷ 7 ∷ 5 ∷ 4 ∷ 10 ∷ 11 ∷ 9 ∷ 8 ∷ 15 ∷ 14 ∷ 12 ∷ 13 ∷ [])
      ∷ (4 ∷ 5 ∷ 6 ∷ 7 ∷ 0 ∷ 1 ∷ 2 ∷ 3 ∷ 14 ∷ 15 ∷ 13 ∷ 12 ∷ 11 ∷ 10 ∷ 8 ∷ 9 ∷ [])
      ∷ (5 ∷ 4 ∷ 7 ∷ 6 ∷ 1 ∷ 0 ∷ 3 ∷ 2 ∷ 15 ∷ 14 ∷ 12 ∷ 13 ∷ 10 ∷ 11 ∷ 9 ∷ 8 ∷ [])
      ∷ (6 ∷ 7 ∷ 5 ∷ 4 ∷ 3 ∷ 2 ∷ 0 ∷ 1 ∷ 12 ∷ 13 ∷ 14 ∷ 15 ∷ 8 ∷ 9 ∷ 10 ∷ 11 ∷ [])
      ∷ (7 ∷ 6 ∷ 4 ∷ 5 ∷ 2 ∷ 3 ∷ 1 ∷ 0 ∷ 13 ∷ 12 ∷ 15 ∷ 14 ∷ 9 ∷ 8 ∷ 11 ∷ 10 ∷ [])
      ∷ (8 ∷ 9 ∷ 10 ∷ 11 ∷ 12 ∷ 13 ∷ 14 ∷ 15 ∷ 0 ∷ 1 ∷ 2 ∷ 3 ∷ 4 ∷ 5 ∷ 6 ∷ 7 ∷ [])
      ∷ (9 ∷ 8 ∷ 11 ∷ 10 ∷ 13 ∷ 12 ∷ 15 ∷ 14 ∷ 1 ∷ 0 ∷ 3 ∷ 2 ∷ 5 ∷ 4 ∷ 7 ∷ 6 ∷ [])
      ∷ (10 ∷ 11 ∷ 9 ∷ 8 ∷ 15 ∷ 14 ∷ 12 ∷ 13 ∷ 3 ∷ 2 ∷ 0 ∷ 1 ∷ 6 ∷ 7 ∷ 5 ∷ 4 ∷ [])
      ∷ (11 ∷ 10 ∷ 8 ∷ 9 ∷ 14 ∷ 15 ∷ 13 ∷ 12 ∷ 2 ∷ 3 ∷ 1 ∷ 0 ∷ 7 ∷ 6 ∷ 4 ∷ 5 ∷ [])
      ∷ (12 ∷ 13 ∷ 14 ∷ 15 ∷ 8 ∷ 9 ∷ 10 ∷ 11 ∷ 6 ∷ 7 ∷ 5 ∷ 4 ∷ 3 ∷ 2 ∷ 0 ∷ 1 ∷ [])
      ∷ (13 ∷ 12 ∷ 15 ∷ 14 ∷ 9 ∷ 8 ∷ 11 ∷ 10 ∷ 7 ∷ 6 ∷ 4 ∷ 5 ∷ 2 ∷ 3 ∷ 1 ∷ 0 ∷ [])
      ∷ (14 ∷ 15 ∷ 13 ∷ 12 ∷ 11 ∷ 10 ∷ 8 ∷ 9 ∷ 4 ∷ 5 ∷ 6 ∷ 7 ∷ 0 ∷ 1 ∷ 2 ∷ 3 ∷ [])
      ∷ (15 ∷ 14 ∷ 12 ∷ 13 ∷ 10 ∷ 11 ∷ 9 ∷ 8 ∷ 5 ∷ 4 ∷ 7 ∷ 6 ∷ 1 ∷ 0 ∷ 3 ∷ 2 ∷ [])
      ∷ [];
}

-- it is a group
pub sixteen_elements_are_group : IsGroup sixteen_elements
sixteen_elements_are_group = tested_group sixteen_elements (record {
  nonempty = refl;
  row_count = refl;
  widths = refl;
  closed = refl;
  associative = refl;
  neutral = refl;
  inverses = refl;
})

-- 8 e + 4 f + 2 g + h as e, f, g, h
abbrev pub four_bits : ℕ → List ℕ
four_bits n = n / 8 ∷ (n / 4) % 2 ∷ (n / 2) % 2 ∷ n % 2 ∷ []

-- the table of sixteen elements tells the sixteen normal words apart
pub order_sixteen_passes : PassesConsistent dihedral_of_order_sixteen 8 sixteen_elements (8 ∷ 4 ∷ 2 ∷ 1 ∷ []) four_bits
order_sixteen_passes = record {
  prime = refl;
  reached = refl;
  empty = refl;
  group = sixteen_elements_are_group;
  elements = (lit< tt, (lit< tt, (lit< tt, (lit< tt, tt))));
  powers = refl;
  commutators = refl;
  told = refl;
}

-- so they are sixteen elements
pub order_sixteen_is_consistent : IsConsistent dihedral_of_order_sixteen
order_sixteen_is_consistent = tested_consistent order_sixteen_passes
