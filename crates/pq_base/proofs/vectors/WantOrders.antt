-- The want order of small answers, and what is left of an answer up to a class.
use Rattle.std.proofs.Common.{◌≡◌, ◌≢◌, true, false, List, [], ◌∷◌, length, refl, ap}
use Rattle.pq_base.specs.Answer.{Answer, Definition}
use Rattle.pq_base.specs.Answer.Definition.{image, commutator, power}
use Rattle.pq_base.specs.Canonical.{want_order, up_to_class, all_commutators, is_qualifying, new_part, new_count, unit}
use Rattle.pq_base.proofs.vectors.Tests.{unequal}
use Rattle.pq_base.proofs.vectors.Answers.{answer_of_order_eight, answer_of_order_sixteen, answer_of_cycle}

-- by the first generator, then the second
pub commutators_of_three : all_commutators 3 ≡ commutator 2 1 ∷ commutator 3 1 ∷ commutator 3 2 ∷ []
commutators_of_three = refl

-- the five tails of the dihedral answer of order eight
pub want_order_of_order_eight : want_order answer_of_order_eight 2
    ≡ commutator 3 1 ∷ commutator 3 2 ∷ power 3 ∷ power 1 ∷ power 2 ∷ []
want_order_of_order_eight = refl

-- at class 1, where both images are definitions
pub want_order_at_class_one : want_order (up_to_class answer_of_order_eight 1) 1 ≡ commutator 2 1 ∷ power 1 ∷ power 2 ∷ []
want_order_at_class_one = refl

-- at class 0 the images alone
pub want_order_at_class_zero : want_order (up_to_class answer_of_order_eight 0) 0 ≡ image 1 ∷ image 2 ∷ []
want_order_at_class_zero = refl

-- an image that is no definition comes last
pub want_order_of_cycle : want_order answer_of_cycle 2 ≡ commutator 2 1 ∷ power 2 ∷ image 2 ∷ []
want_order_of_cycle = refl

-- the definition [a2,a1] is left out, so the order does not begin with all commutators
pub definitions_are_left_out : want_order answer_of_order_eight 2
    ≢ commutator 2 1 ∷ commutator 3 1 ∷ commutator 3 2 ∷ power 1 ∷ power 2 ∷ power 3 ∷ []
definitions_are_left_out e = unequal 5 6 refl (ap (λ (l : List Definition). length l) e)

-- qualifying at class 2: [a3,a1] and a3^2, but neither [a2,a1] nor a1^2
pub commutator_qualifies : is_qualifying answer_of_order_eight 2 (commutator 3 1) ≡ true
commutator_qualifies = refl

-- a3^2 does too
pub power_qualifies : is_qualifying answer_of_order_eight 2 (power 3) ≡ true
power_qualifies = refl

-- [a2,a1] does not, since both weights are 1
pub early_commutator_does_not_qualify : is_qualifying answer_of_order_eight 2 (commutator 2 1) ≡ false
early_commutator_does_not_qualify = refl

-- [a4,a3] has weights 3 and 2
pub deep_commutator_does_not_qualify : is_qualifying answer_of_order_sixteen 3 (commutator 4 3) ≡ false
deep_commutator_does_not_qualify = refl

-- the dihedral answer of order sixteen up to class 2 is that of order eight
pub order_sixteen_up_to_class_two : up_to_class answer_of_order_sixteen 2 ≡ answer_of_order_eight
order_sixteen_up_to_class_two = refl

-- an answer up to its class is itself
pub order_eight_up_to_its_class : up_to_class answer_of_order_eight 2 ≡ answer_of_order_eight
order_eight_up_to_its_class = refl

-- up to a smaller class it is not
pub order_eight_up_to_class_one_is_smaller : up_to_class answer_of_order_eight 1 ≢ answer_of_order_eight
order_eight_up_to_class_one_is_smaller e = unequal 2 3 refl (ap (λ (A : Answer). length A.weights) e)

-- the second image of the cyclic group is a1^2*a2^2: 2 at class 0, 2 at class 1
pub new_part_of_image : new_part answer_of_cycle 1 (image 2) ≡ 2 ∷ []
new_part_of_image = refl

-- [a3,a2] has a4
pub new_part_of_commutator : new_part answer_of_order_sixteen 2 (commutator 3 2) ≡ 1 ∷ []
new_part_of_commutator = refl

-- the square of a1 has none of a3
pub new_part_of_power : new_part answer_of_order_eight 1 (power 1) ≡ 0 ∷ []
new_part_of_power = refl

-- a3 is the one generator of weight 2
pub new_generators_of_class_two : new_count answer_of_order_eight 1 ≡ 1
new_generators_of_class_two = refl

-- 1 at place 1 of three
pub unit_of_three : unit 3 1 ≡ 0 ∷ 1 ∷ 0 ∷ []
unit_of_three = refl
