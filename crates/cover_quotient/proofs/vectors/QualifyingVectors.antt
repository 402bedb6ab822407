-- The elements of the images in the dihedral group of order eight.
use Rattle.std.proofs.Common.{◌≡◌, [], ◌∷◌, refl}
use Rattle.pq_base.specs.Table.{times}
use Rattle.pc_presentation.specs.Collection.{plain_push_from}
use Rattle.pc_presentation.specs.NormalTable.{normal_table}
use Rattle.cover_quotient.specs.NextAnswer.{cover_modulo}
use Rattle.cover_quotient.specs.KeptTailLaws.{flat_table, image_elements}
use Rattle.cover_quotient.proofs.vectors.NextAnswerVectors.{cover_of_class_one, squares}

-- x is the first generator and y the second, whose numbers are 1 and 2; the third, 4, is their commutator
images_of_order_eight : image_elements (cover_modulo cover_of_class_one squares) ≡ 1 ∷ 2 ∷ []
unfolding plain_push_from normal_table
images_of_order_eight = refl

-- y x is x y times the commutator, so the images don't commute
x_times_y : times (flat_table (cover_modulo cover_of_class_one squares)) 1 2 ≡ 3
unfolding plain_push_from normal_table
x_times_y = refl

y_times_x : times (flat_table (cover_modulo cover_of_class_one squares)) 2 1 ≡ 7
unfolding plain_push_from normal_table
y_times_x = refl

-- x has order two here
square_of_x : times (flat_table (cover_modulo cover_of_class_one squares)) 1 1 ≡ 0
unfolding plain_push_from normal_table
square_of_x = refl
