-- What is given of a draft, what a right side is as a sparse word, and which columns are places.
use Rattle.std.proofs.Common.{◌≡◌, ◌<◌, ◌-◌, replicate, None, [], ◌∷◌, refl, inl, inr, arith}
use Rattle.pq_base.specs.Answer.Definition.{commutator, power}
use Rattle.pq_base.proofs.vectors.Answers.{answer_of_order_eight}
use Rattle.pq_base.proofs.vectors.Presentations.{dihedral_of_order_eight_is_presentation}
use Rattle.pc_presentation.specs.declared.relation.Relation.{Relation}
use Rattle.pc_presentation.specs.declared.relation.Relation.TheVariants.{Power, Commutator}
use Rattle.pc_presentation.specs.Syllable.{syllable}
use Rattle.pc_presentation.specs.Relation.{IsRelation, side_start}
use Rattle.pc_presentation.specs.Pcp.{right_side, side_word}
use Rattle.pc_presentation.specs.Builder.{Draft, WasGiven, empty_draft, extended}
use Rattle.cover_quotient.specs.NextParts.{IsPlace, IsAmong, IsDraft, Awaits}
use Rattle.cover_quotient.proofs.next_answers.NextDrafts.{draft-empty}

commutator_given : IsAmong 3 3 1 1 (Commutator 2 1)
commutator_given = inr (inl (refl, omega arith))

commutator_not_given : IsAmong 3 3 1 0 (Commutator 2 1) → ⊥
commutator_not_given (inl h) = omega (arith, h)
commutator_not_given (inr (inl h)) = omega (arith, h.1)
commutator_not_given (inr (inr h)) = omega (arith, h)

new_power_empty : IsAmong 3 0 0 0 (Power 4)
new_power_empty = inr (omega arith)

commutator_word : side_word answer_of_order_eight.presentation (Commutator 2 1) ≡ syllable 3 1 ∷ []
commutator_word = refl

power_word : side_word answer_of_order_eight.presentation (Power 3) ≡ []
power_word = refl

last_place : IsPlace (commutator 2 1 ∷ power 1 ∷ []) 2
last_place = record { first = omega arith; last = omega arith }

past_the_last : IsPlace (commutator 2 1 ∷ power 1 ∷ []) 3 → ⊥
past_the_last h = let l = h.last in omega arith

-- nothing given, and the first power given
abbrev begun : Draft
begun = empty_draft 2 (1 ∷ 1 ∷ 2 ∷ []) 0

abbrev with_first_power : Draft
with_first_power = extended begun (Power 1) [] None

no_more_generators : (r : Relation) → IsRelation 3 r → 3 < side_start r
    → right_side answer_of_order_eight.presentation r ≡ replicate (3 - side_start r) 0
no_more_generators (Power i) h l = absurd (omega arith)
no_more_generators (Commutator j i) h l = absurd (omega arith)

begun_is_draft : IsDraft answer_of_order_eight 3 0 0 0 begun
begun_is_draft =
    draft-empty answer_of_order_eight dihedral_of_order_eight_is_presentation 3 2 0 (1 ∷ 1 ∷ 2 ∷ []) begun (omega arith) refl refl refl refl
    no_more_generators refl

-- a relation was given that isn't among those
no_draft_of_none : IsDraft answer_of_order_eight 3 0 0 0 with_first_power → ⊥
no_draft_of_none d = elim (d.given (Power 1) (omega arith, omega arith) refl) [
  | inl h ↦ omega (arith, h)
  | inr h ↦ omega (arith, h)
]

first_power_awaited : Awaits answer_of_order_eight (Power 1) begun
first_power_awaited = record {
  of = dihedral_of_order_eight_is_presentation;
  draft = record { prime = refl; rank = refl };
  new = λ (g : WasGiven begun (Power 1)). cc;
}

first_power_no_longer_awaited : Awaits answer_of_order_eight (Power 1) with_first_power → ⊥
first_power_no_longer_awaited a = a.new refl
