-- L-presentations: words along endomorphisms, relators and words that are none, and the two parts.
use Rattle.std.proofs.Common.{◌≡◌, ◌⊎◌, ℕ, zero, suc, ℤ, pos, negsuc, List, [], ◌∷◌, refl, ap, inl, inr, lit<, arith}
use Rattle.pq_base.specs.SignedWord.{sub}
use Rattle.pq_base.specs.LPresentation.{LPresentation, along, AreEndoNumbers, IsRelator, part, Obeys, AreDistinct, IsLPresentation}
use Rattle.pq_base.specs.LPresentation.IsRelator.{fixed_relator, iterated_relator}
use Rattle.pq_base.specs.LPresentation.Part.{whole, iterated_part}
use Rattle.pq_base.specs.Table.{value}
use Rattle.pq_base.proofs.vectors.Tests.{unequal, tested_distinct}
use Rattle.pq_base.proofs.vectors.Tables.{two_elements, cycle_of_four}

-- the names x and y
abbrev pub x_and_y : List (List ℕ)
x_and_y = (120 ∷ []) ∷ (121 ∷ []) ∷ []

-- generators x y, fixed x^2, fixed y^2
abbrev pub dihedral : LPresentation
dihedral = record {
  names = x_and_y;
  fixed = (pos 1 ∷ pos 1 ∷ []) ∷ (pos 2 ∷ pos 2 ∷ []) ∷ [];
  iterated = [];
  endos = [];
}

-- x to y and y to x
abbrev pub swap : List (List ℤ)
swap = (pos 2 ∷ []) ∷ (pos 1 ∷ []) ∷ []

-- generators x y, iterated x^2, endo x -> y, y -> x
abbrev pub swapped_iterated : LPresentation
swapped_iterated = record { names = x_and_y; fixed = []; iterated = (pos 1 ∷ pos 1 ∷ []) ∷ []; endos = swap ∷ [] }

-- generators x y, fixed x^2, endo x -> y, y -> x
abbrev pub swapped_fixed : LPresentation
swapped_fixed = record { names = x_and_y; fixed = (pos 1 ∷ pos 1 ∷ []) ∷ []; iterated = []; endos = swap ∷ [] }

-- generators a t u, fixed u*t^-1, iterated a^2, [a,a^u], endo a -> a, t -> t, u -> u*t
abbrev pub lamplighter : LPresentation
lamplighter = record {
  names = (97 ∷ []) ∷ (116 ∷ []) ∷ (117 ∷ []) ∷ [];
  fixed = (pos 3 ∷ negsuc 1 ∷ []) ∷ [];
  iterated = (pos 1 ∷ pos 1 ∷ [])
      ∷ (negsuc 0 ∷ negsuc 2 ∷ negsuc 0 ∷ pos 3 ∷ pos 1 ∷ negsuc 2 ∷ pos 1 ∷ pos 3 ∷ [])
      ∷ [];
  endos = ((pos 1 ∷ []) ∷ (pos 2 ∷ []) ∷ (pos 3 ∷ pos 2 ∷ []) ∷ []) ∷ [];
}

-- u along the endomorphism once is u t, and twice u t t
pub along_once : along lamplighter.endos (1 ∷ []) (pos 3 ∷ []) ≡ pos 3 ∷ pos 2 ∷ []
along_once = refl

-- and twice u t t
pub along_twice : along lamplighter.endos (1 ∷ 1 ∷ []) (pos 3 ∷ []) ≡ pos 3 ∷ pos 2 ∷ pos 2 ∷ []
along_twice = refl

-- x to x x and y to y
abbrev pub doubling : List (List ℤ)
doubling = (pos 1 ∷ pos 1 ∷ []) ∷ (pos 2 ∷ []) ∷ []

-- the last of the list is applied first: x, then x x, then y y
pub doubled_then_swapped : along (swap ∷ doubling ∷ []) (1 ∷ 2 ∷ []) (pos 1 ∷ []) ≡ pos 2 ∷ pos 2 ∷ []
doubled_then_swapped = refl

-- x, then y, then y
pub swapped_then_doubled : along (swap ∷ doubling ∷ []) (2 ∷ 1 ∷ []) (pos 1 ∷ []) ≡ pos 2 ∷ []
swapped_then_doubled = refl

-- along no endomorphism a word stays
pub along_nothing : along lamplighter.endos [] (pos 3 ∷ []) ≡ pos 3 ∷ []
along_nothing = refl

-- u t⁻¹
pub fixed_is_relator : IsRelator lamplighter (pos 3 ∷ negsuc 1 ∷ [])
fixed_is_relator = fixed_relator 0 (lit< tt)

-- a^2, along nothing
pub iterated_is_relator : IsRelator lamplighter (pos 1 ∷ pos 1 ∷ [])
iterated_is_relator = iterated_relator [] 0 tt (lit< tt)

-- [a,a^u] along the endomorphism is [a,a^(u t)]
pub iterated_along_is_relator
    : IsRelator lamplighter (negsuc 0 ∷ negsuc 1 ∷ negsuc 2 ∷ negsuc 0 ∷ pos 3 ∷ pos 2 ∷ pos 1 ∷ negsuc 1 ∷ negsuc 2 ∷ pos 1 ∷ pos 3 ∷ pos 2
    ∷ [])
iterated_along_is_relator = iterated_relator (1 ∷ []) 1 (lit< tt, tt) (lit< tt)

-- y^2, along the swap
pub swapped_square_is_relator : IsRelator swapped_iterated (pos 2 ∷ pos 2 ∷ [])
swapped_square_is_relator = iterated_relator (1 ∷ []) 0 (lit< tt, tt) (lit< tt)

-- a fixed relator is not carried along
pub only_relator : (r : List ℤ) → IsRelator swapped_fixed r → r ≡ pos 1 ∷ pos 1 ∷ []
only_relator r (fixed_relator zero h) = refl
only_relator r (fixed_relator (suc i) h) = absurd (omega (arith, h))
only_relator r (iterated_relator s i hs h) = absurd (omega (arith, h))

abbrev first_letter : List ℤ → ℕ
first_letter (pos n ∷ w) = n
first_letter _ = 0

-- so y^2 is none
pub fixed_along_is_no_relator : IsRelator swapped_fixed (pos 2 ∷ pos 2 ∷ []) → ⊥
fixed_along_is_no_relator h = unequal 2 1 refl (ap first_letter (only_relator (pos 2 ∷ pos 2 ∷ []) h))

-- 2 is no number of one endomorphism
pub no_numbers_of_endos : AreEndoNumbers 1 (1 ∷ 2 ∷ []) → ⊥
no_numbers_of_endos h = omega (arith, h.1.0)

-- numbers count from 1
pub zero_is_no_number : (n : ℕ) → AreEndoNumbers n (0 ∷ []) → ⊥
zero_is_no_number n h = h

-- the whole is all of it
pub whole_part : part lamplighter whole ≡ lamplighter
whole_part = refl

-- the iterated part has no fixed relators
pub iterated_part_of_lamplighter : (part lamplighter iterated_part).fixed ≡ []
iterated_part_of_lamplighter = refl

-- and all iterated ones
pub iterated_part_keeps_the_rest : (part lamplighter iterated_part).iterated ≡ lamplighter.iterated
iterated_part_keeps_the_rest = refl

-- the two names differ
pub are_x_and_y_distinct : AreDistinct x_and_y
are_x_and_y_distinct = tested_distinct x_and_y refl

-- two names and two words over them
pub dihedral_is_l_presentation : IsLPresentation dihedral
dihedral_is_l_presentation = record {
  distinct = are_x_and_y_distinct;
  fixed_words = ((lit< tt, (lit< tt, tt)), ((lit< tt, (lit< tt, tt)), tt));
  iterated_words = tt;
  endo_words = tt;
}

-- two names, a word and two images over them
pub swapped_is_l_presentation : IsLPresentation swapped_iterated
swapped_is_l_presentation = record {
  distinct = are_x_and_y_distinct;
  fixed_words = tt;
  iterated_words = ((lit< tt, (lit< tt, tt)), tt);
  endo_words = (refl, ((lit< tt, tt), ((lit< tt, tt), tt)), tt);
}

-- three names, three words and three images over them
pub lamplighter_is_l_presentation : IsLPresentation lamplighter
lamplighter_is_l_presentation = record {
  distinct = tested_distinct lamplighter.names refl;
  fixed_words = ((lit< tt, (lit< tt, tt)), tt);
  iterated_words = (
    (lit< tt, (lit< tt, tt)),
    ((lit< tt, (lit< tt, (lit< tt, (lit< tt, (lit< tt, (lit< tt, (lit< tt, (lit< tt, tt)))))))), tt),
  );
  endo_words = (refl, ((lit< tt, tt), ((lit< tt, tt), ((lit< tt, (lit< tt, tt)), tt))), tt);
}

-- one name twice
pub repeated_name_is_no_l_presentation : IsLPresentation (record dihedral { names = (120 ∷ []) ∷ (120 ∷ []) ∷ [] }) → ⊥
repeated_name_is_no_l_presentation h = h.distinct 0 1 (lit< tt) (lit< tt) refl

-- a relator with a letter that is no generator
pub unknown_letter_is_no_l_presentation : IsLPresentation (record dihedral { fixed = (pos 3 ∷ []) ∷ [] }) → ⊥
unknown_letter_is_no_l_presentation h = omega (arith, h.fixed_words.0.0)

-- an endomorphism with one image for two generators
pub missing_image_is_no_l_presentation : IsLPresentation (record dihedral { endos = ((pos 2 ∷ []) ∷ []) ∷ [] }) → ⊥
missing_image_is_no_l_presentation h = unequal 1 2 refl h.endo_words.0

-- x^2 along any list is x^2 or y^2
pub square_along : (s : List ℕ) → AreEndoNumbers 1 s
    → (along (swap ∷ []) s (pos 1 ∷ pos 1 ∷ []) ≡ pos 1 ∷ pos 1 ∷ []) ⊎ (along (swap ∷ []) s (pos 1 ∷ pos 1 ∷ []) ≡ pos 2 ∷ pos 2 ∷ [])
square_along [] h = inl refl
square_along (zero ∷ s) h = absurd h
square_along (suc zero ∷ s) h = elim (square_along s h.1) [
  | inl e ↦ inr (ap (λ (w : List ℤ). sub w swap) e)
  | inr e ↦ inl (ap (λ (w : List ℤ). sub w swap) e)
]
square_along (suc (suc e) ∷ s) h = absurd (omega (arith, h.0))

-- both generators to the one element of order two: each of the infinitely many relators has value 0
pub ones_kill : (r : List ℤ) → IsRelator swapped_iterated r → value two_elements (1 ∷ 1 ∷ []) r ≡ 0
ones_kill r (fixed_relator i h) = absurd (omega (arith, h))
ones_kill r (iterated_relator s (suc i) hs h) = absurd (omega (arith, h))
ones_kill r (iterated_relator s zero hs h) = elim (square_along s hs) [
  | inl e ↦ ap (value two_elements (1 ∷ 1 ∷ [])) e
  | inr e ↦ ap (value two_elements (1 ∷ 1 ∷ [])) e
]

-- so the map obeys
pub ones_obey : Obeys two_elements (1 ∷ 1 ∷ []) swapped_iterated
ones_obey = record { count = refl; elements = (lit< tt, (lit< tt, tt)); kills = ones_kill }

-- x to 2 and y to 1 in the cycle of four: x^2 has value 0, and y^2, its image along the endomorphism, has not
pub two_and_one_obey_fixed : Obeys cycle_of_four (2 ∷ 1 ∷ []) swapped_fixed
two_and_one_obey_fixed = record {
  count = refl;
  elements = (lit< tt, (lit< tt, tt));
  kills = λ r h. ap (value cycle_of_four (2 ∷ 1 ∷ [])) (only_relator r h);
}

-- so it does not obey where x^2 is iterated
pub two_and_one_obey_not_iterated : Obeys cycle_of_four (2 ∷ 1 ∷ []) swapped_iterated → ⊥
two_and_one_obey_not_iterated o = unequal 2 0 refl (o.kills (pos 2 ∷ pos 2 ∷ []) swapped_square_is_relator)

-- one element for two generators
pub one_for_two_obeys_not : Obeys two_elements (1 ∷ []) dihedral → ⊥
one_for_two_obeys_not o = unequal 1 2 refl o.count

-- a list with a number that is no element
pub no_element_obeys_not : Obeys two_elements (0 ∷ 2 ∷ []) dihedral → ⊥
no_element_obeys_not o = omega (arith, o.elements.1.0)
