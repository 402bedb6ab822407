-- Answers with rows: beside the relations, the image of each given generator has a row over the tails. Covers, covers
-- modulo rows, and through the flat reading the next answers, are all of this form.
-- From: the p-covering groups of Newman and O'Brien's method, where F is free on all given generators.
use Rattle.std.specs.Prelude.{◌≡◌, ◌<◌, ℕ, zero, suc, ℤ, List, [], ◌∷◌, get_or, length, map, replicate}
use Rattle.pq_base.specs.Presentation.{word_from}
use Rattle.pq_base.specs.Answer.{Answer, Definition, IsAnswer, AreNormal, definition_at}
use Rattle.pq_base.specs.Answer.Definition.{image, commutator, power}
use Rattle.pc_presentation.specs.Relation.{PerRelation}
use Rattle.pc_presentation.specs.Rowed.{RowedPresentation, IsRowed}
use Rattle.pc_presentation.specs.Collection.{State}
use Rattle.pc_presentation.specs.Arithmetic.{word_of}

pub record RowedAnswer : Type 0 where
  pub answer : Answer
  -- the number of tails
  pub width : ℕ
  -- for each relation its row
  pub rows : PerRelation (List ℕ)
  -- for each given generator the row of its image
  pub image_rows : List (List ℕ)

-- the presentation with rows
abbrev pub rowed : RowedAnswer → RowedPresentation
rowed Y = record {
  base = Y.answer.presentation;
  width = Y.width;
  power_rows = Y.rows.powers;
  commutator_rows = Y.rows.commutators;
}

-- the row of a relation or an image, whose numbers count from 1
abbrev pub row_at : RowedAnswer → Definition → List ℕ
row_at Y (image zero) = []
row_at Y (image (suc i)) = get_or Y.image_rows i []
row_at Y (commutator zero i) = []
row_at Y (commutator (suc j) zero) = []
row_at Y (commutator (suc j) (suc i)) = get_or (get_or Y.rows.commutators j []) i []
row_at Y (power zero) = []
row_at Y (power (suc j)) = get_or Y.rows.powers j []

-- lengths are exact, and what defines a generator carries no tail
pub record IsRowedAnswer (Y : RowedAnswer) : Type 0 where
  pub answer : IsAnswer Y.answer
  pub presentation : IsRowed (rowed Y)
  pub image_count : length Y.image_rows ≡ length Y.answer.names
  pub image_rows : AreNormal Y.answer.presentation.prime Y.width Y.image_rows
  pub definitions : (k : ℕ) → k < Y.answer.presentation.rank → row_at Y (definition_at Y.answer k) ≡ replicate Y.width 0

-- exponents, each with its row
abbrev pub states_with : List (List ℕ) → List (List ℕ) → List State
states_with [] xs = []
states_with (e ∷ es) [] = []
states_with (e ∷ es) (x ∷ xs) = record { exponents = e; row = x } ∷ states_with es xs

-- the images of the given generators with their rows
abbrev pub image_states : RowedAnswer → List State
image_states Y = states_with Y.answer.images Y.image_rows

-- their words in the flat reading
abbrev pub rowed_images : RowedAnswer → List (List ℤ)
rowed_images Y = map (word_of (rowed Y)) (image_states Y)

-- the word of a row in the flat reading
abbrev pub tails_word : RowedAnswer → List ℕ → List ℤ
tails_word Y x = word_from Y.answer.presentation.rank x
