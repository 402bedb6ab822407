-- Canonical answers: those of small groups, and the dihedral answer of order sixteen with its last definition swapped.
use Rattle.std.proofs.Common.{◌<◌, ℕ, zero, suc, List, [], ◌∷◌, refl, inl, inr, lit<, lit≤, arith, sym}
use Rattle.pq_base.specs.Answer.{Answer, Definition, IsAnswer, HasDefinition, definition_at}
use Rattle.pq_base.specs.Answer.Definition.{image, commutator, power}
use Rattle.pq_base.specs.Canonical.{want_order, up_to_class, AreMet, ObeysWeights, IsCanonical}
use Rattle.pq_base.proofs.vectors.Tests.{differ, unequal}
use Rattle.pq_base.proofs.vectors.CanonicalTests.{tested_none, tested_weights, other-definition}
use Rattle.pq_base.proofs.vectors.LargestQuotients.{trivial_answer}
use Rattle.pq_base.proofs.vectors.Answers.{answer_of_order_eight, answer_of_order_sixteen, order_sixteen_is_answer, answer_of_quaternion}
use Rattle.pq_base.proofs.vectors.Answers.{answer_of_cycle}

-- an answer of class 0 has nothing to meet
pub trivial_is_canonical : IsCanonical trivial_answer
trivial_is_canonical = record {
  weights = tested_weights trivial_answer (record { commutators = refl; powers = refl });
  turns = λ k h. absurd (omega (arith, h));
}

-- a1 and a2 are images; a3 is [a2,a1], and neither square has it
pub order_eight_is_canonical : IsCanonical answer_of_order_eight
order_eight_is_canonical = record {
  weights = tested_weights answer_of_order_eight (record { commutators = refl; powers = refl });
  turns = turns;
} where
  turns : (k : ℕ) → k < 2 → AreMet answer_of_order_eight k 0 (want_order (up_to_class answer_of_order_eight k) k)
  turns zero h =
      inl (
        record { one_left = lit< tt; defined = refl; new_generator = refl; allowed = tt },
        inl (
          record { one_left = lit< tt; defined = refl; new_generator = refl; allowed = tt },
          refl,
        ),
      )
  turns (suc zero) h =
      inl (
        record { one_left = lit< tt; defined = refl; new_generator = refl; allowed = refl },
        inr (
          tested_none answer_of_order_eight 1 1 (power 1) (record { none_defined = refl; met_alone = refl }),
          inr (
            tested_none answer_of_order_eight 1 1 (power 2) (record { none_defined = refl; met_alone = refl }),
            refl,
          ),
        ),
      )
  turns (suc (suc k)) h = absurd (omega (arith, h))

-- the three entries [a3,a1], [a3,a2], a3^2 have equal new parts, and the first defines a4
pub order_sixteen_is_canonical : IsCanonical answer_of_order_sixteen
order_sixteen_is_canonical = record {
  weights = tested_weights answer_of_order_sixteen (record { commutators = refl; powers = refl });
  turns = turns;
} where
  turns : (k : ℕ) → k < 3 → AreMet answer_of_order_sixteen k 0 (want_order (up_to_class answer_of_order_sixteen k) k)
  turns zero h =
      inl (
        record { one_left = lit< tt; defined = refl; new_generator = refl; allowed = tt },
        inl (
          record { one_left = lit< tt; defined = refl; new_generator = refl; allowed = tt },
          refl,
        ),
      )
  turns (suc zero) h =
      inl (
        record { one_left = lit< tt; defined = refl; new_generator = refl; allowed = refl },
        inr (
          tested_none answer_of_order_sixteen 1 1 (power 1) (record { none_defined = refl; met_alone = refl }),
          inr (
            tested_none answer_of_order_sixteen 1 1 (power 2) (record { none_defined = refl; met_alone = refl }),
            refl,
          ),
        ),
      )
  turns (suc (suc zero)) h =
      inl (
        record { one_left = lit< tt; defined = refl; new_generator = refl; allowed = refl },
        inr (
          tested_none answer_of_order_sixteen 2 1 (commutator 3 2) (record { none_defined = refl; met_alone = refl }),
          inr (
            tested_none answer_of_order_sixteen 2 1 (power 3) (record { none_defined = refl; met_alone = refl }),
            inr (
              tested_none answer_of_order_sixteen 2 1 (power 1) (record { none_defined = refl; met_alone = refl }),
              inr (
                tested_none answer_of_order_sixteen 2 1 (power 2) (record { none_defined = refl; met_alone = refl }),
                refl,
              ),
            ),
          ),
        ),
      )
  turns (suc (suc (suc k))) h = absurd (omega (arith, h))

-- a3 is [a2,a1], and both squares are a3, which is met
pub quaternion_is_canonical : IsCanonical answer_of_quaternion
quaternion_is_canonical = record {
  weights = tested_weights answer_of_quaternion (record { commutators = refl; powers = refl });
  turns = turns;
} where
  turns : (k : ℕ) → k < 2 → AreMet answer_of_quaternion k 0 (want_order (up_to_class answer_of_quaternion k) k)
  turns zero h =
      inl (
        record { one_left = lit< tt; defined = refl; new_generator = refl; allowed = tt },
        inl (
          record { one_left = lit< tt; defined = refl; new_generator = refl; allowed = tt },
          refl,
        ),
      )
  turns (suc zero) h =
      inl (
        record { one_left = lit< tt; defined = refl; new_generator = refl; allowed = refl },
        inr (
          tested_none answer_of_quaternion 1 1 (power 1) (record { none_defined = refl; met_alone = refl }),
          inr (
            tested_none answer_of_quaternion 1 1 (power 2) (record { none_defined = refl; met_alone = refl }),
            refl,
          ),
        ),
      )
  turns (suc (suc k)) h = absurd (omega (arith, h))

-- the image of y defines nothing: it is met at class 0, and again at class 1 after a1^3
pub cycle_is_canonical : IsCanonical answer_of_cycle
cycle_is_canonical = record {
  weights = tested_weights answer_of_cycle (record { commutators = refl; powers = refl });
  turns = turns;
} where
  turns : (k : ℕ) → k < 2 → AreMet answer_of_cycle k 0 (want_order (up_to_class answer_of_cycle k) k)
  turns zero h =
      inl (
        record { one_left = lit< tt; defined = refl; new_generator = refl; allowed = tt },
        inr (
          tested_none answer_of_cycle 0 1 (image 2) (record { none_defined = refl; met_alone = refl }),
          refl,
        ),
      )
  turns (suc zero) h =
      inl (
        record { one_left = lit< tt; defined = refl; new_generator = refl; allowed = refl },
        inr (
          tested_none answer_of_cycle 1 1 (image 2) (record { none_defined = refl; met_alone = refl }),
          refl,
        ),
      )
  turns (suc (suc k)) h = absurd (omega (arith, h))

-- a4 from a3^2 in place of [a3,a1]
abbrev pub with_swapped_definition : Answer
with_swapped_definition = record answer_of_order_sixteen { definitions = image 1 ∷ image 2 ∷ commutator 2 1 ∷ power 3 ∷ [] }

-- it is an answer
pub swapped_definition_is_answer : IsAnswer with_swapped_definition
swapped_definition_is_answer = record {
  presentation = order_sixteen_is_answer.presentation;
  weight_count = refl;
  weights = order_sixteen_is_answer.weights;
  some_name = order_sixteen_is_answer.some_name;
  name_limit = order_sixteen_is_answer.name_limit;
  distinct = order_sixteen_is_answer.distinct;
  image_count = refl;
  images = order_sixteen_is_answer.images;
  definition_count = refl;
  definitions = defined;
} where
  defined : (k : ℕ) → k < 4 → HasDefinition with_swapped_definition k (definition_at with_swapped_definition k)
  defined zero h = (refl, lit< tt, refl)
  defined (suc zero) h = (refl, lit< tt, refl)
  defined (suc (suc zero)) h = (lit< tt, lit< tt, lit< tt, refl)
  defined (suc (suc (suc zero))) h = (lit< tt, lit< tt, refl)
  defined (suc (suc (suc (suc k)))) h = absurd (omega (arith, h))

-- [a3,a1] is the first entry, and is neither the definition of a4 nor without a4
first-entry : (rest : List Definition) → AreMet with_swapped_definition 2 0 (commutator 3 1 ∷ rest) → ⊥
first-entry rest (inl met) = other-definition (power 3) (commutator 3 1) refl met.0.defined
first-entry rest (inr met) = unequal 1 0 refl (met.0.met_alone 0 (lit≤ tt))

-- so the first of the equal entries has to define
pub swapped_definition_is_not_canonical : IsCanonical with_swapped_definition → ⊥
swapped_definition_is_not_canonical c =
    first-entry (commutator 3 2 ∷ power 3 ∷ power 1 ∷ power 2 ∷ []) (c.turns 2 (lit< tt))

-- weights 1, 1, 1, 2 for the dihedral answer of order sixteen: [a2,a1] has a3, of weight less than 1 + 1
pub light_commutator_is_not_canonical : IsCanonical (record answer_of_order_sixteen { weights = 1 ∷ 1 ∷ 1 ∷ 2 ∷ [] }) → ⊥
light_commutator_is_not_canonical c =
    omega (arith, c.weights.commutators 1 0 0 (lit< tt) (lit< tt) (unequal 1 0 refl))

-- weights 1, 1, 3 for the dihedral answer of order eight: at class 2 the commutator [a2,a1] is no qualifying relation
abbrev pub with_skipped_weight : Answer
with_skipped_weight = record answer_of_order_eight { weights = 1 ∷ 1 ∷ 3 ∷ [] }

-- its right sides obey the weights
pub skipped_weight_obeys_weights : ObeysWeights with_skipped_weight
skipped_weight_obeys_weights = tested_weights with_skipped_weight (record { commutators = refl; powers = refl })

early-entry : (rest : List Definition) → AreMet with_skipped_weight 2 0 (commutator 2 1 ∷ rest) → ⊥
early-entry rest (inl met) = differ (sym met.0.allowed)
early-entry rest (inr met) = met.0.none_defined 0 (lit< tt) refl

-- so a generator of weight 3 has to come from a qualifying relation
pub skipped_weight_is_not_canonical : IsCanonical with_skipped_weight → ⊥
skipped_weight_is_not_canonical c = early-entry (power 1 ∷ power 2 ∷ []) (c.turns 2 (lit< tt))
