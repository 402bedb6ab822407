-- Light sources and light overlaps of small answers. The generators of the dihedral answer of order sixteen have the weights 1, 1, 2, 3.
use Rattle.std.proofs.Common.{◌≡◌, true, false, Some, None, [], ◌∷◌, refl, arith}
use Rattle.pq_base.specs.Answer.Definition.{commutator, power}
use Rattle.pq_base.proofs.vectors.Answers.{answer_of_order_eight, answer_of_order_sixteen}
use Rattle.pq_base.proofs.vectors.LargestQuotients.{trivial_answer}
use Rattle.pc_presentation.specs.declared.overlap.Overlap.TheVariants.{Triple, Left, Right, Own}
use Rattle.p_cover.specs.Sources.{place_in}
use Rattle.p_cover.specs.Covers.{all_sources}
use Rattle.tails_by_weight.specs.LightCovers.{is_light, light_sources}
use Rattle.tails_by_weight.specs.LightOverlaps.{IsLightOverlap, light_overlaps}

-- of the eight sources the commutator of a4 and a3 alone, of weights 3 and 2, has no room at class 4
eight_sources : all_sources answer_of_order_sixteen
    ≡ commutator 4 1 ∷ commutator 4 2 ∷ power 4 ∷ commutator 3 2 ∷ commutator 4 3 ∷ power 1 ∷ power 2 ∷ power 3 ∷ []
eight_sources = refl

seven_are_light : light_sources answer_of_order_sixteen
    ≡ commutator 4 1 ∷ commutator 4 2 ∷ power 4 ∷ commutator 3 2 ∷ power 1 ∷ power 2 ∷ power 3 ∷ []
seven_are_light = refl

no_tail_of_a_heavy_commutator : place_in (light_sources answer_of_order_sixteen) (commutator 4 3) ≡ None
no_tail_of_a_heavy_commutator = refl

later_tails_move_up : place_in (light_sources answer_of_order_sixteen) (power 1) ≡ Some 5
later_tails_move_up = refl

-- a definition has room, and no tail
definition_has_room : is_light answer_of_order_sixteen (commutator 2 1) ≡ true
definition_has_room = refl

last_powers_have_room : is_light answer_of_order_sixteen (power 4) ≡ true
last_powers_have_room = refl

heavy_has_no_room : is_light answer_of_order_sixteen (commutator 4 3) ≡ false
heavy_has_no_room = refl

-- nine of twenty overlaps
overlaps_of_order_sixteen : light_overlaps answer_of_order_sixteen
    ≡ Triple 3 2 1 ∷ Left 2 1 ∷ Left 3 1 ∷ Left 3 2 ∷ Right 2 1 ∷ Right 3 1 ∷ Right 3 2 ∷ Own 1 ∷ Own 2 ∷ []
overlaps_of_order_sixteen = refl

no_triple_of_weight_five : ¬ IsLightOverlap answer_of_order_sixteen (Triple 4 2 1)
no_triple_of_weight_five h = let inside = h.inside in omega arith

no_power_of_weight_two : ¬ IsLightOverlap answer_of_order_sixteen (Own 3)
no_power_of_weight_two h = let inside = h.inside in omega arith

-- at class 2 all sources have room, and four of ten overlaps
all_are_light : light_sources answer_of_order_eight ≡ all_sources answer_of_order_eight
all_are_light = refl

overlaps_of_order_eight : light_overlaps answer_of_order_eight ≡ Left 2 1 ∷ Right 2 1 ∷ Own 1 ∷ Own 2 ∷ []
overlaps_of_order_eight = refl

-- at class 0 images alone
images_of_no_generator : light_sources trivial_answer ≡ all_sources trivial_answer
images_of_no_generator = refl

overlaps_of_no_generator : light_overlaps trivial_answer ≡ []
overlaps_of_no_generator = refl
