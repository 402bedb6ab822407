-- Answers: those of small groups, what their generators spell, and values that are no answers.
use Rattle.std.proofs.Common.{◌≡◌, ◌<◌, ℕ, zero, suc, ℤ, pos, negsuc, List, [], ◌∷◌, length, refl, ap, lit<, lit≤, arith}
use Rattle.pq_base.specs.Presentation.{Presentation}
use Rattle.pq_base.specs.Answer.{Answer, IsAnswer, HasDefinition, class_of, image_words, definition_at, spell}
use Rattle.pq_base.specs.Answer.Definition.{image, commutator, power}
use Rattle.pq_base.proofs.vectors.Tests.{unequal}
use Rattle.pq_base.proofs.vectors.LPresentations.{x_and_y, are_x_and_y_distinct}
use Rattle.pq_base.proofs.vectors.LargestQuotients.{x_name, trivial_answer}
use Rattle.pq_base.proofs.vectors.Presentations.{order_two, order_two_is_presentation, dihedral_of_order_eight}
use Rattle.pq_base.proofs.vectors.Presentations.{dihedral_of_order_eight_is_presentation, dihedral_of_order_sixteen}
use Rattle.pq_base.proofs.vectors.Presentations.{dihedral_of_order_sixteen_is_presentation, quaternion, quaternion_is_presentation}
use Rattle.pq_base.proofs.vectors.Presentations.{cycle_of_nine, cycle_of_nine_is_presentation}

-- a1 from the image of x
abbrev pub answer_of_order_two : Answer
answer_of_order_two = record {
  presentation = order_two;
  weights = 1 ∷ [];
  names = x_name ∷ [];
  definitions = image 1 ∷ [];
  images = (1 ∷ []) ∷ [];
}

-- a3 from [a2,a1]
abbrev pub answer_of_order_eight : Answer
answer_of_order_eight = record {
  presentation = dihedral_of_order_eight;
  weights = 1 ∷ 1 ∷ 2 ∷ [];
  names = x_and_y;
  definitions = image 1 ∷ image 2 ∷ commutator 2 1 ∷ [];
  images = (1 ∷ 0 ∷ 0 ∷ []) ∷ (0 ∷ 1 ∷ 0 ∷ []) ∷ [];
}

-- a3 from [a2,a1], a4 from [a3,a1]
abbrev pub answer_of_order_sixteen : Answer
answer_of_order_sixteen = record {
  presentation = dihedral_of_order_sixteen;
  weights = 1 ∷ 1 ∷ 2 ∷ 3 ∷ [];
  names = x_and_y;
  definitions = image 1 ∷ image 2 ∷ commutator 2 1 ∷ commutator 3 1 ∷ [];
  images = (1 ∷ 0 ∷ 0 ∷ 0 ∷ []) ∷ (0 ∷ 1 ∷ 0 ∷ 0 ∷ []) ∷ [];
}

-- a3 from [a2,a1]
abbrev pub answer_of_quaternion : Answer
answer_of_quaternion = record {
  presentation = quaternion;
  weights = 1 ∷ 1 ∷ 2 ∷ [];
  names = x_and_y;
  definitions = image 1 ∷ image 2 ∷ commutator 2 1 ∷ [];
  images = (1 ∷ 0 ∷ 0 ∷ []) ∷ (0 ∷ 1 ∷ 0 ∷ []) ∷ [];
}

-- a2 from a1^3; x is a1, and y is redundant: a1^2*a2^2
abbrev pub answer_of_cycle : Answer
answer_of_cycle = record {
  presentation = cycle_of_nine;
  weights = 1 ∷ 2 ∷ [];
  names = x_and_y;
  definitions = image 1 ∷ power 1 ∷ [];
  images = (1 ∷ 0 ∷ []) ∷ (2 ∷ 2 ∷ []) ∷ [];
}

-- one generator of weight 1, the image of x
pub order_two_is_answer : IsAnswer answer_of_order_two
order_two_is_answer = record {
  presentation = order_two_is_presentation;
  weight_count = refl;
  weights = (lit≤ tt, lit≤ tt, tt);
  some_name = lit≤ tt;
  name_limit = lit≤ tt;
  distinct = λ i j less below. absurd (omega (arith, less, below));
  image_count = refl;
  images = (record { count = refl; below = (lit< tt, tt) }, tt);
  definition_count = refl;
  definitions = defined;
} where
  defined : (k : ℕ) → k < 1 → HasDefinition answer_of_order_two k (definition_at answer_of_order_two k)
  defined zero h = (refl, lit< tt, refl)
  defined (suc k) h = absurd (omega (arith, h))

-- two images and their commutator
pub order_eight_is_answer : IsAnswer answer_of_order_eight
order_eight_is_answer = record {
  presentation = dihedral_of_order_eight_is_presentation;
  weight_count = refl;
  weights = (lit≤ tt, lit≤ tt, (lit≤ tt, lit≤ tt, (lit≤ tt, lit≤ tt, tt)));
  some_name = lit≤ tt;
  name_limit = lit≤ tt;
  distinct = are_x_and_y_distinct;
  image_count = refl;
  images = (
    record { count = refl; below = (lit< tt, (lit< tt, (lit< tt, tt))) },
    (record { count = refl; below = (lit< tt, (lit< tt, (lit< tt, tt))) }, tt),
  );
  definition_count = refl;
  definitions = defined;
} where
  defined : (k : ℕ) → k < 3 → HasDefinition answer_of_order_eight k (definition_at answer_of_order_eight k)
  defined zero h = (refl, lit< tt, refl)
  defined (suc zero) h = (refl, lit< tt, refl)
  defined (suc (suc zero)) h = (lit< tt, lit< tt, lit< tt, refl)
  defined (suc (suc (suc k))) h = absurd (omega (arith, h))

-- two images and two commutators
pub order_sixteen_is_answer : IsAnswer answer_of_order_sixteen
order_sixteen_is_answer = record {
  presentation = dihedral_of_order_sixteen_is_presentation;
  weight_count = refl;
  weights = (lit≤ tt, lit≤ tt, (lit≤ tt, lit≤ tt, (lit≤ tt, lit≤ tt, (lit≤ tt, lit≤ tt, tt))));
  some_name = lit≤ tt;
  name_limit = lit≤ tt;
  distinct = are_x_and_y_distinct;
  image_count = refl;
  images = (
    record { count = refl; below = (lit< tt, (lit< tt, (lit< tt, (lit< tt, tt)))) },
    (record { count = refl; below = (lit< tt, (lit< tt, (lit< tt, (lit< tt, tt)))) }, tt),
  );
  definition_count = refl;
  definitions = defined;
} where
  defined : (k : ℕ) → k < 4 → HasDefinition answer_of_order_sixteen k (definition_at answer_of_order_sixteen k)
  defined zero h = (refl, lit< tt, refl)
  defined (suc zero) h = (refl, lit< tt, refl)
  defined (suc (suc zero)) h = (lit< tt, lit< tt, lit< tt, refl)
  defined (suc (suc (suc zero))) h = (lit< tt, lit< tt, lit< tt, refl)
  defined (suc (suc (suc (suc k)))) h = absurd (omega (arith, h))

-- two images and their commutator, which both squares equal
pub quaternion_is_answer : IsAnswer answer_of_quaternion
quaternion_is_answer = record {
  presentation = quaternion_is_presentation;
  weight_count = refl;
  weights = (lit≤ tt, lit≤ tt, (lit≤ tt, lit≤ tt, (lit≤ tt, lit≤ tt, tt)));
  some_name = lit≤ tt;
  name_limit = lit≤ tt;
  distinct = are_x_and_y_distinct;
  image_count = refl;
  images = (
    record { count = refl; below = (lit< tt, (lit< tt, (lit< tt, tt))) },
    (record { count = refl; below = (lit< tt, (lit< tt, (lit< tt, tt))) }, tt),
  );
  definition_count = refl;
  definitions = defined;
} where
  defined : (k : ℕ) → k < 3 → HasDefinition answer_of_quaternion k (definition_at answer_of_quaternion k)
  defined zero h = (refl, lit< tt, refl)
  defined (suc zero) h = (refl, lit< tt, refl)
  defined (suc (suc zero)) h = (lit< tt, lit< tt, lit< tt, refl)
  defined (suc (suc (suc k))) h = absurd (omega (arith, h))

-- an image, its cube, and an image that defines nothing
pub cycle_is_answer : IsAnswer answer_of_cycle
cycle_is_answer = record {
  presentation = cycle_of_nine_is_presentation;
  weight_count = refl;
  weights = (lit≤ tt, lit≤ tt, (lit≤ tt, lit≤ tt, tt));
  some_name = lit≤ tt;
  name_limit = lit≤ tt;
  distinct = are_x_and_y_distinct;
  image_count = refl;
  images = (
    record { count = refl; below = (lit< tt, (lit< tt, tt)) },
    (record { count = refl; below = (lit< tt, (lit< tt, tt)) }, tt),
  );
  definition_count = refl;
  definitions = defined;
} where
  defined : (k : ℕ) → k < 2 → HasDefinition answer_of_cycle k (definition_at answer_of_cycle k)
  defined zero h = (refl, lit< tt, refl)
  defined (suc zero) h = (lit< tt, lit< tt, refl)
  defined (suc (suc k)) h = absurd (omega (arith, h))

-- weights 1, 2, 1
pub falling_weight_is_no_answer : IsAnswer (record answer_of_order_eight { weights = 1 ∷ 2 ∷ 1 ∷ [] }) → ⊥
falling_weight_is_no_answer h = omega (arith, h.weights.2.2.0)

-- weights 0, 1, 2
pub weight_zero_is_no_answer : IsAnswer (record answer_of_order_eight { weights = 0 ∷ 1 ∷ 2 ∷ [] }) → ⊥
weight_zero_is_no_answer h = omega (arith, h.weights.0)

-- [a2,a1] = a3*a4
abbrev pub two_on_the_right : Presentation
two_on_the_right = record dihedral_of_order_sixteen {
  commutators = [] ∷ ((1 ∷ 1 ∷ []) ∷ []) ∷ ((1 ∷ []) ∷ (1 ∷ []) ∷ []) ∷ ([] ∷ [] ∷ [] ∷ []) ∷ [];
}

-- the right side of the definition of a3 is not a3 alone
pub two_on_the_right_is_no_answer : IsAnswer (record answer_of_order_sixteen { presentation = two_on_the_right }) → ⊥
two_on_the_right_is_no_answer h = unequal 2 1 refl (ap (λ (w : List ℤ). length w) (h.definitions 2 (lit< tt)).3)

-- an image is a definition of weight 1 alone
pub image_of_weight_two_is_no_answer : IsAnswer (record answer_of_order_two { weights = 2 ∷ [] }) → ⊥
image_of_weight_two_is_no_answer h = unequal 2 1 refl (h.definitions 0 (lit< tt)).0

-- a definition by the generator itself: a2 from a2^3
pub own_power_is_no_answer : IsAnswer (record answer_of_cycle { definitions = image 1 ∷ power 2 ∷ [] }) → ⊥
own_power_is_no_answer h = omega (arith, (h.definitions 1 (lit< tt)).1)

-- the exponent 2 at the prime 2
pub large_image_is_no_answer : IsAnswer (record answer_of_order_two { images = (2 ∷ []) ∷ [] }) → ⊥
large_image_is_no_answer h = omega (arith, h.images.0.below.0)

-- one name twice
pub repeated_name_is_no_answer : IsAnswer (record answer_of_order_eight { names = x_name ∷ x_name ∷ [] }) → ⊥
repeated_name_is_no_answer h = h.distinct 0 1 (lit< tt) (lit< tt) refl

-- the last weight
pub class_of_order_eight : class_of answer_of_order_eight ≡ 2
class_of_order_eight = refl

-- the last of four weights
pub class_of_order_sixteen : class_of answer_of_order_sixteen ≡ 3
class_of_order_sixteen = refl

-- no weight gives class 0
pub class_of_trivial : class_of trivial_answer ≡ 0
class_of_trivial = refl

-- four generators
pub rank_of_order_sixteen : answer_of_order_sixteen.presentation.rank ≡ 4
rank_of_order_sixteen = refl

-- the images as words
pub images_of_cycle : image_words answer_of_cycle ≡ (pos 1 ∷ []) ∷ (pos 1 ∷ pos 1 ∷ pos 2 ∷ pos 2 ∷ []) ∷ []
images_of_cycle = refl

-- a2 spells y
pub second_letter_is_spelled : spell answer_of_order_eight 1 ≡ pos 2 ∷ []
second_letter_is_spelled = refl

-- a3 spells [y,x]
pub commutator_is_spelled : spell answer_of_order_eight 2 ≡ negsuc 1 ∷ negsuc 0 ∷ pos 2 ∷ pos 1 ∷ []
commutator_is_spelled = refl

-- a4 spells [[y,x],x]
pub long_commutator_is_spelled
    : spell answer_of_order_sixteen 3 ≡ negsuc 0 ∷ negsuc 1 ∷ pos 1 ∷ pos 2 ∷ negsuc 0 ∷ negsuc 1 ∷ negsuc 0 ∷ pos 2 ∷ pos 1 ∷ pos 1 ∷ []
long_commutator_is_spelled = refl

-- a2 spells x^3
pub power_is_spelled : spell answer_of_cycle 1 ≡ pos 1 ∷ pos 1 ∷ pos 1 ∷ []
power_is_spelled = refl
