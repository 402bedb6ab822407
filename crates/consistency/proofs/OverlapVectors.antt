-- All overlaps of up to three generators, and the rows of overlaps in the cover of the dihedral group of order eight: those of
-- two overlaps that must be trivial there, and one of an overlap that agrees. Behind them an overlap whose ways reach
-- different exponents.
use Rattle.std.proofs.Common.{◌≡◌, [], ◌∷◌, refl}
use Rattle.pq_base.proofs.vectors.Answers.{answer_of_order_eight}
use Rattle.pc_presentation.specs.declared.overlap.Overlap.TheVariants.{Triple, Left, Right, Own}
use Rattle.pc_presentation.specs.Rowed.{RowedPresentation, without_rows}
use Rattle.pc_presentation.specs.Collection.{plain_push_from, plain_push}
use Rattle.pc_presentation.specs.OverlapNumbers.{overlap_of}
use Rattle.pc_presentation.specs.Tailed.{rowed_presentation}
use Rattle.p_cover.specs.Covers.{all_sources, cover_presentation}
use Rattle.consistency.specs.AllOverlaps.{all_overlaps}
use Rattle.fp_rows.specs.Differences.{difference}
use Rattle.pc_presentation.specs.OverlapRows.{left_end, right_end, ExponentsAgree, overlap_row}

none_of_no_generator : all_overlaps 0 ≡ []
none_of_no_generator = refl

one_of_one_generator : all_overlaps 1 ≡ Own 1 ∷ []
one_of_one_generator = refl

four_of_two_generators : all_overlaps 2 ≡ Left 2 1 ∷ Right 2 1 ∷ Own 1 ∷ Own 2 ∷ []
four_of_two_generators = refl

ten_of_three_generators : all_overlaps 3
    ≡ Triple 3 2 1 ∷ Left 2 1 ∷ Left 3 1 ∷ Left 3 2 ∷ Right 2 1 ∷ Right 3 1 ∷ Right 3 2 ∷ Own 1 ∷ Own 2 ∷ Own 3 ∷ []
ten_of_three_generators = refl

-- the cover of the dihedral group of order eight, with tails for [a3,a1], [a3,a2], a3^2, a1^2 and a2^2
abbrev cover_of_order_eight : RowedPresentation
cover_of_order_eight =
    rowed_presentation (cover_presentation (record { answer = answer_of_order_eight; sources = all_sources answer_of_order_eight }))

row_of_left : overlap_row cover_of_order_eight (plain_push cover_of_order_eight) (overlap_of (Left 2 1)) ≡ 0 ∷ 1 ∷ 1 ∷ 0 ∷ 0 ∷ []
unfolding plain_push_from
row_of_left = refl

row_of_right : overlap_row cover_of_order_eight (plain_push cover_of_order_eight) (overlap_of (Right 2 1)) ≡ 1 ∷ 0 ∷ 1 ∷ 0 ∷ 0 ∷ []
unfolding plain_push_from
row_of_right = refl

row_of_triple : overlap_row cover_of_order_eight (plain_push cover_of_order_eight) (overlap_of (Triple 3 2 1)) ≡ 0 ∷ 0 ∷ 0 ∷ 0 ∷ 0 ∷ []
unfolding plain_push_from
row_of_triple = refl

exponents_of_left : ExponentsAgree cover_of_order_eight (plain_push cover_of_order_eight) (overlap_of (Left 2 1))
unfolding plain_push_from
exponents_of_left = refl

-- the row is the left one minus the right one
one_minus_two_modulo_three : difference 3 (1 ∷ 0 ∷ []) (2 ∷ 1 ∷ []) ≡ 2 ∷ 2 ∷ []
one_minus_two_modulo_three = refl

-- a1 squared is a2 and [a2,a1] is a3: the cube of a1 has two values
abbrev collapsing : RowedPresentation
collapsing =
    without_rows (record {
      prime = 2;
      rank = 3;
      powers = (1 ∷ 0 ∷ []) ∷ (0 ∷ []) ∷ [] ∷ [];
      commutators = [] ∷ ((1 ∷ []) ∷ []) ∷ ([] ∷ [] ∷ []) ∷ [];
    })

left_exponents_of_cube : (left_end collapsing (plain_push collapsing) (overlap_of (Own 1))).exponents ≡ 1 ∷ 1 ∷ 1 ∷ []
unfolding plain_push_from
left_exponents_of_cube = refl

right_exponents_of_cube : (right_end collapsing (plain_push collapsing) (overlap_of (Own 1))).exponents ≡ 1 ∷ 1 ∷ 0 ∷ []
unfolding plain_push_from
right_exponents_of_cube = refl
