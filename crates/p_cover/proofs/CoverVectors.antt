-- Covers of small answers: their tails, what comes from where, and lists that are no parts or give a definition a tail.
use Rattle.std.proofs.Common.{◌≡◌, ◌≤◌, ℕ, Some, None, List, [], ◌∷◌, get_or, refl, ap, arith}
use Rattle.pq_base.specs.Answer.Definition.{image, commutator, power}
use Rattle.pq_base.proofs.vectors.Tests.{unequal}
use Rattle.pq_base.proofs.vectors.Answers.{answer_of_order_eight, order_eight_is_answer, answer_of_cycle}
use Rattle.p_cover.specs.RowedAnswer.{IsRowedAnswer}
use Rattle.p_cover.specs.Sources.{place_in, IsPartOf}
use Rattle.p_cover.specs.Sources.IsPartOf.{nothing, left_out, taken}
use Rattle.p_cover.specs.Covers.{covering, cover_on, all_sources}
use Rattle.p_cover.specs.Images.{lifted_images}
use Rattle.p_cover.proofs.PartLaws.{part_of_itself}
use Rattle.p_cover.proofs.ListPairs.{AllPairs-part}
use Rattle.p_cover.proofs.WantParts.{IsBefore, all_sources-in_order}
use Rattle.p_cover.proofs.CoverRows.{covers_are_rowed_answers}

-- the five tails of the dihedral answer of order eight
pub sources_of_order_eight : all_sources answer_of_order_eight ≡ commutator 3 1 ∷ commutator 3 2 ∷ power 3 ∷ power 1 ∷ power 2 ∷ []
sources_of_order_eight = refl

pub place_of_a_power : place_in (all_sources answer_of_order_eight) (power 1) ≡ Some 4
place_of_a_power = refl

-- [a2,a1] defines a3, and a4 is out of range
pub no_place_of_a_definition : place_in (all_sources answer_of_order_eight) (commutator 2 1) ≡ None
no_place_of_a_definition = refl

pub no_place_out_of_range : place_in (all_sources answer_of_order_eight) (power 4) ≡ None
no_place_out_of_range = refl

-- the tails of the powers of a1, a2, a3, and of [a2,a1], [a3,a1], [a3,a2]
pub powers_of_order_eight : (covering answer_of_order_eight (all_sources answer_of_order_eight)).tail_table.powers
    ≡ Some 4 ∷ Some 5 ∷ Some 3 ∷ []
powers_of_order_eight = refl

pub commutators_of_order_eight : (covering answer_of_order_eight (all_sources answer_of_order_eight)).tail_table.commutators
    ≡ [] ∷ (None ∷ []) ∷ (Some 1 ∷ Some 2 ∷ []) ∷ []
commutators_of_order_eight = refl

-- fewer tails are numbered anew
pub two_tails : (covering answer_of_order_eight (power 3 ∷ power 2 ∷ [])).tail_table.powers ≡ None ∷ Some 2 ∷ Some 1 ∷ []
two_tails = refl

pub two_tails_are_a_part : IsPartOf (power 3 ∷ power 2 ∷ []) (all_sources answer_of_order_eight)
two_tails_are_a_part =
    left_out (commutator 3 1) (left_out (commutator 3 2) (taken (power 3) (left_out (power 1) (taken (power 2) nothing))))

-- in another order they are none
pub other_order_is_no_part : ¬ IsPartOf (power 3 ∷ commutator 3 1 ∷ []) (all_sources answer_of_order_eight)
other_order_is_no_part part =
    let b : IsBefore answer_of_order_eight 2 (power 3) (commutator 3 1) =
    AllPairs-part (IsBefore answer_of_order_eight 2) part (all_sources-in_order answer_of_order_eight) 0 1 (image 0) (omega arith)
    (omega arith) in
    let late : 1 ≤ 0 = b.parts in
    omega arith

-- the image of y, which defines no generator of the cyclic group of order nine, has the last tail
pub image_rows_of_cycle : (cover_on answer_of_cycle (all_sources answer_of_cycle)).image_rows ≡ (0 ∷ 0 ∷ 0 ∷ []) ∷ (0 ∷ 0 ∷ 1 ∷ []) ∷ []
image_rows_of_cycle = refl

pub lifted_images_of_cycle : lifted_images (record { answer = answer_of_cycle; sources = all_sources answer_of_cycle })
    ≡ record { prime = 3; state = record { exponents = 1 ∷ 0 ∷ []; row = 0 ∷ 0 ∷ 0 ∷ [] } }
    ∷ record { prime = 3; state = record { exponents = 2 ∷ 2 ∷ []; row = 0 ∷ 0 ∷ 1 ∷ [] } } ∷ []
lifted_images_of_cycle = refl

-- a cover is an answer with rows
pub cover_of_order_eight : IsRowedAnswer (cover_on answer_of_order_eight (all_sources answer_of_order_eight))
cover_of_order_eight =
    let part : IsPartOf (all_sources answer_of_order_eight) (all_sources answer_of_order_eight) =
    part_of_itself (all_sources answer_of_order_eight) in
    (covers_are_rowed_answers answer_of_order_eight (all_sources answer_of_order_eight) order_eight_is_answer part).0

-- with a tail for what defines a3 it would be none
pub definition_without_tail : ¬ IsRowedAnswer (cover_on answer_of_order_eight (commutator 2 1 ∷ []))
definition_without_tail h = unequal 1 0 refl (ap (λ (row : List ℕ). get_or row 0 0) (h.definitions 2 (omega arith)))
