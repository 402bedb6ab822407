-- The JSON value of an answer has no float, and so its text is known.
use Rattle.std.proofs.Common.{◌≡◌, ℕ, suc, Bool, true, false, List, [], ◌∷◌, ◌++◌, map, refl, ap, ◌∙◌}
use Rattle.std.specs.Prelude.{◌||◌}
use Rattle.serde_json.specs.Data.{Data}
use Rattle.serde_json.specs.View.{items_of}
use Rattle.serde_json.specs.Written.{has_float, items_have_float}
use Rattle.pq_base.specs.Answer.{Answer, Definition}
use Rattle.pq_base.specs.Answer.Definition.{image, commutator, power}
use Rattle.pc_presentation.specs.declared.syllable.Syllable.{Syllable}
use Rattle.pc_presentation.specs.Syllable.{syllables_of}
use Rattle.answer_text.specs.AnswerData.{number_data, syllable_data, word_data, definition_data, power_data, commutator_data, powers_data}
use Rattle.answer_text.specs.AnswerData.{commutator_row_data, commutators_data, image_data, images_data, answer_data}

abbrev NoFloats : List Data → Type 0
NoFloats ds = items_have_float (items_of ds) ≡ false

NoFloats-cons : (d : Data) (ds : List Data) → has_float d ≡ false → NoFloats ds → NoFloats (d ∷ ds)
NoFloats-cons d ds first rest = ap (λ (b : Bool). b || items_have_float (items_of ds)) first ∙ rest

NoFloats-append : (ds es : List Data) → NoFloats ds → NoFloats es → NoFloats (ds ++ es)
NoFloats-append [] es first rest = rest
NoFloats-append (d ∷ ds) es first rest =
    elim (has_float d) as (λ b. (b || items_have_float (items_of ds)) ≡ false → (b || items_have_float (items_of (ds ++ es))) ≡ false) [
      | true ↦ λ h. h
      | false ↦ λ h. NoFloats-append ds es h rest
    ] first

numbers : (ns : List ℕ) → NoFloats (map number_data ns)
numbers [] = refl
numbers (n ∷ ns) = numbers ns

syllables : (w : List Syllable) → NoFloats (map syllable_data w)
syllables [] = refl
syllables (s ∷ w) = syllables w

has_float-word : (w : List Syllable) → has_float (word_data w) ≡ false
has_float-word w = syllables w

has_float-definition : (names : List (List ℕ)) (d : Definition) → has_float (definition_data names d) ≡ false
has_float-definition names (image i) = refl
has_float-definition names (commutator j i) = refl
has_float-definition names (power j) = refl

definitions : (names : List (List ℕ)) (ds : List Definition) → NoFloats (map (definition_data names) ds)
definitions names [] = refl
definitions names (d ∷ ds) =
    NoFloats-cons (definition_data names d) (map (definition_data names) ds) (has_float-definition names d) (definitions names ds)

one_word : (w : List Syllable) → (has_float (word_data w) || false) ≡ false
one_word w = ap (λ (b : Bool). b || false) (has_float-word w)

power-none : (j : ℕ) (w : List Syllable) → NoFloats (power_data j w)
power-none j [] = refl
power-none j (s ∷ ss) = ap (λ (b : Bool). b || false) (one_word (s ∷ ss))

commutator-none : (j i : ℕ) (w : List Syllable) → NoFloats (commutator_data j i w)
commutator-none j i [] = refl
commutator-none j i (s ∷ ss) = ap (λ (b : Bool). b || false) (one_word (s ∷ ss))

powers : (k : ℕ) (sides : List (List ℕ)) → NoFloats (powers_data k sides)
powers k [] = refl
powers k (side ∷ sides) =
    NoFloats-append (power_data (suc k) (syllables_of (suc k) side)) (powers_data (suc k) sides)
    (power-none (suc k) (syllables_of (suc k) side)) (powers (suc k) sides)

row : (j k : ℕ) (sides : List (List ℕ)) → NoFloats (commutator_row_data j k sides)
row j k [] = refl
row j k (side ∷ sides) =
    NoFloats-append (commutator_data j (suc k) (syllables_of j side)) (commutator_row_data j (suc k) sides)
    (commutator-none j (suc k) (syllables_of j side)) (row j (suc k) sides)

rows : (k : ℕ) (all : List (List (List ℕ))) → NoFloats (commutators_data k all)
rows k [] = refl
rows k (sides ∷ all) =
    NoFloats-append (commutator_row_data (suc k) 0 sides) (commutators_data (suc k) all) (row (suc k) 0 sides) (rows (suc k) all)

images : (names es : List (List ℕ)) → NoFloats (images_data names es)
images [] es = refl
images (name ∷ names) [] = refl
images (name ∷ names) (e ∷ es) = NoFloats-cons (image_data name e) (images_data names es) (one_word (syllables_of 0 e)) (images names es)

pub has_float-answer : (A : Answer) → has_float (answer_data A) ≡ false
has_float-answer A =
    rw (
      rows 0 A.presentation.commutators,
      definitions A.names A.definitions,
      images A.names A.images,
      powers 0 A.presentation.powers,
      numbers A.weights,
    ) refl
