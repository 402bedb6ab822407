-- The dihedral group of order eight has class 2 exactly, and that of order sixteen class 3 exactly.
use Rattle.std.proofs.Common.{◌≡◌, ℕ, pos, negsuc, true, eqb, ltb, [], ◌∷◌, refl, lit<}
use Rattle.pq_base.specs.Table.{HasTableClass, InLevel}
use Rattle.pq_base.specs.Series.{InSeries, HasClass}
use Rattle.pq_base.proofs.SeriesLaws.{series-comm, series-joined}
use Rattle.pq_base.proofs.words.JoinedLaws.{commutator-joined}
use Rattle.pq_base.proofs.vectors.Tests.{unequal}
use Rattle.pq_base.proofs.vectors.Presentations.{dihedral_of_order_eight, dihedral_of_order_sixteen}
use Rattle.pq_base.proofs.vectors.DihedralTable.{eight_elements, eight_elements_are_group}
use Rattle.pq_base.proofs.vectors.ConsistentTests.{values_joined}
use Rattle.pq_base.proofs.vectors.ConsistentPresentations.{order_eight_passes, order_sixteen_passes, sixteen_elements}
use Rattle.pq_base.proofs.vectors.ConsistentPresentations.{sixteen_elements_are_group}
use Rattle.pq_base.proofs.vectors.ClassTests.{tested_level, class_from_level, class_from_table}

-- level 1 has a3 and its powers alone
level_one_of_eight : (x : ℕ) → InLevel eight_elements 2 1 x → ltb x 2 ≡ true
level_one_of_eight =
    tested_level eight_elements eight_elements_are_group 2 (λ _. true) (λ x. ltb x 2)
    (record { zeroth = refl; products = refl; commutators = refl; powers = refl }) 0 (λ x h. refl)

-- level 2 has 0 alone
pub eight_elements_have_class_two : HasTableClass eight_elements 2 2
eight_elements_have_class_two =
    class_from_level eight_elements 2 2
    (tested_level eight_elements eight_elements_are_group 2 (λ x. ltb x 2) (λ x. eqb x 0)
    (record { zeroth = refl; products = refl; commutators = refl; powers = refl }) 1 level_one_of_eight)

-- so has the presentation
pub order_eight_has_class_two : HasClass dihedral_of_order_eight 2
order_eight_has_class_two = class_from_table order_eight_passes 2 eight_elements_have_class_two refl

-- level 1 has a3, a4 and their products, and level 2 has a4 and its powers
level_one_of_sixteen : (x : ℕ) → InLevel sixteen_elements 2 1 x → ltb x 4 ≡ true
level_one_of_sixteen =
    tested_level sixteen_elements sixteen_elements_are_group 2 (λ _. true) (λ x. ltb x 4)
    (record { zeroth = refl; products = refl; commutators = refl; powers = refl }) 0 (λ x h. refl)

level_two_of_sixteen : (x : ℕ) → InLevel sixteen_elements 2 2 x → ltb x 2 ≡ true
level_two_of_sixteen =
    tested_level sixteen_elements sixteen_elements_are_group 2 (λ x. ltb x 4) (λ x. ltb x 2)
    (record { zeroth = refl; products = refl; commutators = refl; powers = refl }) 1 level_one_of_sixteen

-- level 3 has 0 alone
pub sixteen_elements_have_class_three : HasTableClass sixteen_elements 2 3
sixteen_elements_have_class_three =
    class_from_level sixteen_elements 2 3
    (tested_level sixteen_elements sixteen_elements_are_group 2 (λ x. ltb x 2) (λ x. eqb x 0)
    (record { zeroth = refl; products = refl; commutators = refl; powers = refl }) 2 level_two_of_sixteen)

-- so has the presentation
pub order_sixteen_has_class_three : HasClass dihedral_of_order_sixteen 3
order_sixteen_has_class_three = class_from_table order_sixteen_passes 3 sixteen_elements_have_class_three refl

-- a3 is [a2,a1] in level 1, and a4 is [a3,a1] in level 2
third_in_level_one : InSeries dihedral_of_order_sixteen 1 (pos 3 ∷ [])
third_in_level_one =
    series-joined dihedral_of_order_sixteen 0 (negsuc 1 ∷ negsuc 0 ∷ pos 2 ∷ pos 1 ∷ []) (pos 3 ∷ [])
    (commutator-joined dihedral_of_order_sixteen 1 0 (lit< tt) (lit< tt)) (lit< tt, tt)
    (series-comm dihedral_of_order_sixteen 0 (pos 2 ∷ []) (pos 1 ∷ []) (lit< tt, tt) (lit< tt, tt))

fourth_in_level_two : InSeries dihedral_of_order_sixteen 2 (pos 4 ∷ [])
fourth_in_level_two =
    series-joined dihedral_of_order_sixteen 1 (negsuc 2 ∷ negsuc 0 ∷ pos 3 ∷ pos 1 ∷ []) (pos 4 ∷ [])
    (commutator-joined dihedral_of_order_sixteen 2 0 (lit< tt) (lit< tt)) (lit< tt, tt)
    (series-comm dihedral_of_order_sixteen 1 (pos 3 ∷ []) (pos 1 ∷ []) third_in_level_one (lit< tt, tt))

-- a4 is in level 2, and not trivial
pub order_sixteen_has_not_class_two : HasClass dihedral_of_order_sixteen 2 → ⊥
order_sixteen_has_not_class_two h = unequal 1 0 refl (values_joined order_sixteen_passes (h (pos 4 ∷ []) fourth_in_level_two))
