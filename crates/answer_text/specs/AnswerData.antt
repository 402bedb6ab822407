-- The JSON text of an answer: what JSON value an answer is, and that value in compact text on a line.
-- From: this project's own format. Words are lists of pairs of a generator, counted from 1, and its exponent.
use Rattle.std.specs.Prelude.{ℕ, suc, List, [], ◌∷◌, ◌++◌, map, codes}
use Rattle.serde_json.specs.Data.{Data, number, unsigned, string, array, object, member, no_members}
use Rattle.serde_json.specs.View.{items_of}
use Rattle.serde_json.specs.Written.{compact_text}
use Rattle.pq_base.specs.Answer.{Answer, Definition, class_of}
use Rattle.pq_base.specs.Answer.Definition.{image, commutator, power}
use Rattle.pq_base.specs.Name.{name_text}
use Rattle.pc_presentation.specs.declared.syllable.Syllable.{Syllable}
use Rattle.pc_presentation.specs.Syllable.{syllables_of}

abbrev pub list_data : List Data → Data
list_data ds = array (items_of ds)

abbrev pub number_data : ℕ → Data
number_data n = number (unsigned n)

abbrev pub syllable_data : Syllable → Data
syllable_data s = list_data (number_data s.generator ∷ number_data s.exponent ∷ [])

abbrev pub word_data : List Syllable → Data
word_data w = list_data (map syllable_data w)

abbrev pub definition_data : List (List ℕ) → Definition → Data
definition_data names (image i) = list_data (string (codes "image") ∷ string (name_text names i) ∷ [])
definition_data names (commutator j i) = list_data (string (codes "commutator") ∷ number_data j ∷ number_data i ∷ [])
definition_data names (power j) = list_data (string (codes "power") ∷ number_data j ∷ [])

-- a power or a commutator, where its word isn't empty
abbrev pub power_data : ℕ → List Syllable → List Data
power_data j [] = []
power_data j (s ∷ ss) = list_data (number_data j ∷ word_data (s ∷ ss) ∷ []) ∷ []

abbrev pub commutator_data : ℕ → ℕ → List Syllable → List Data
commutator_data j i [] = []
commutator_data j i (s ∷ ss) = list_data (number_data j ∷ number_data i ∷ word_data (s ∷ ss) ∷ []) ∷ []

-- the powers of the generators after number k
abbrev pub powers_data : ℕ → List (List ℕ) → List Data
powers_data k [] = []
powers_data k (side ∷ sides) = power_data (suc k) (syllables_of (suc k) side) ++ powers_data (suc k) sides

-- the commutators of generator j with the generators after number k
abbrev pub commutator_row_data : ℕ → ℕ → List (List ℕ) → List Data
commutator_row_data j k [] = []
commutator_row_data j k (side ∷ sides) = commutator_data j (suc k) (syllables_of j side) ++ commutator_row_data j (suc k) sides

-- the commutators of the generators after number k
abbrev pub commutators_data : ℕ → List (List (List ℕ)) → List Data
commutators_data k [] = []
commutators_data k (row ∷ rows) = commutator_row_data (suc k) 0 row ++ commutators_data (suc k) rows

abbrev pub image_data : List ℕ → List ℕ → Data
image_data name e = list_data (string name ∷ word_data (syllables_of 0 e) ∷ [])

abbrev pub images_data : List (List ℕ) → List (List ℕ) → List Data
images_data [] es = []
images_data (name ∷ names) [] = []
images_data (name ∷ names) (e ∷ es) = image_data name e ∷ images_data names es

-- the members in the order of their keys
abbrev pub answer_data : Answer → Data
answer_data A = object
    (member (codes "class") (number_data (class_of A))
    (member (codes "commutators") (list_data (commutators_data 0 A.presentation.commutators))
    (member (codes "definitions") (list_data (map (definition_data A.names) A.definitions))
    (member (codes "images") (list_data (images_data A.names A.images))
    (member (codes "order") (list_data (number_data A.presentation.prime ∷ number_data A.presentation.rank ∷ []))
    (member (codes "powers") (list_data (powers_data 0 A.presentation.powers))
    (member (codes "prime") (number_data A.presentation.prime)
    (member (codes "rank") (number_data A.presentation.rank)
    (member (codes "weights") (list_data (map number_data A.weights))
    no_members)))))))))

unfoldable pub answer_json : Answer → List ℕ
answer_json A = compact_text (answer_data A) ++ 10 ∷ []
