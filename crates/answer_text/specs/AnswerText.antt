-- The text of an answer.
-- From: this project's own format. Numbers are in decimal, generators are a1, a2, ..
use Rattle.std.specs.Prelude.{ℕ, zero, suc, List, [], ◌∷◌, ◌++◌, get_or, codes, decimal}
use Rattle.pq_base.specs.Answer.{Answer, Definition, class_of}
use Rattle.pq_base.specs.Answer.Definition.{image, commutator, power}
use Rattle.pq_base.specs.Lines.{text_of_lines}
use Rattle.pq_base.specs.Name.{name_text}
use Rattle.pc_presentation.specs.declared.syllable.Syllable.{Syllable}
use Rattle.pc_presentation.specs.Syllable.{syllables_of}
use Rattle.answer_text.specs.Words.{generator_text, word_text}

abbrev pub commutator_text : ℕ → ℕ → List ℕ
commutator_text j i = codes "[" ++ (generator_text j ++ (codes "," ++ (generator_text i ++ codes "]")))

abbrev pub power_text : ℕ → ℕ → List ℕ
power_text p j = generator_text j ++ (codes "^" ++ decimal p)

abbrev pub definition_text : ℕ → List (List ℕ) → Definition → List ℕ
definition_text p names (image i) = codes "image " ++ name_text names i
definition_text p names (commutator j i) = commutator_text j i
definition_text p names (power j) = power_text p j

-- the line of generator k
abbrev pub generator_line : ℕ → List (List ℕ) → ℕ → ℕ → Definition → List ℕ
generator_line p names k w d =
    codes "generator " ++ (generator_text k ++ (codes " weight " ++ (decimal w ++ (codes " from " ++ definition_text p names d))))

-- the lines of the generators after number k
abbrev pub generator_lines : ℕ → List (List ℕ) → ℕ → List ℕ → List Definition → List (List ℕ)
generator_lines p names k [] ds = []
generator_lines p names k (w ∷ ws) [] = []
generator_lines p names k (w ∷ ws) (d ∷ ds) = generator_line p names (suc k) w d ∷ generator_lines p names (suc k) ws ds

-- the line of a relation, where its word isn't empty
abbrev pub relation_lines : List ℕ → List Syllable → List (List ℕ)
relation_lines left [] = []
relation_lines left (s ∷ ss) = (codes "relation " ++ (left ++ (codes " = " ++ word_text (s ∷ ss)))) ∷ []

-- the powers of the generators after number k
abbrev pub power_lines : ℕ → ℕ → List (List ℕ) → List (List ℕ)
power_lines p k [] = []
power_lines p k (side ∷ sides) = relation_lines (power_text p (suc k)) (syllables_of (suc k) side) ++ power_lines p (suc k) sides

-- the commutators of generator j with the generators after number k
abbrev pub commutator_row_lines : ℕ → ℕ → List (List ℕ) → List (List ℕ)
commutator_row_lines j k [] = []
commutator_row_lines j k (side ∷ sides) =
    relation_lines (commutator_text j (suc k)) (syllables_of j side) ++ commutator_row_lines j (suc k) sides

-- the commutators of the generators after number k
abbrev pub commutator_lines : ℕ → List (List (List ℕ)) → List (List ℕ)
commutator_lines k [] = []
commutator_lines k (row ∷ rows) = commutator_row_lines (suc k) 0 row ++ commutator_lines (suc k) rows

abbrev pub image_line : List ℕ → List ℕ → List ℕ
image_line name e = codes "image " ++ (name ++ (codes " = " ++ word_text (syllables_of 0 e)))

abbrev pub image_lines : List (List ℕ) → List (List ℕ) → List (List ℕ)
image_lines [] es = []
image_lines (name ∷ names) [] = []
image_lines (name ∷ names) (e ∷ es) = image_line name e ∷ image_lines names es

-- prime, class, rank and order
abbrev pub head_lines : ℕ → ℕ → ℕ → List (List ℕ)
head_lines p c n =
    (codes "prime " ++ decimal p)
    ∷ (codes "class " ++ decimal c)
    ∷ (codes "rank " ++ decimal n)
    ∷ (codes "order " ++ (decimal p ++ (codes "^" ++ decimal n)))
    ∷ []

abbrev pub answer_lines : Answer → List (List ℕ)
answer_lines A =
    head_lines A.presentation.prime (class_of A) A.presentation.rank
    ++ (generator_lines A.presentation.prime A.names 0 A.weights A.definitions
    ++ (power_lines A.presentation.prime 0 A.presentation.powers
    ++ (commutator_lines 0 A.presentation.commutators
    ++ (image_lines A.names A.images ++ codes "end" ∷ []))))

unfoldable pub answer_text : Answer → List ℕ
answer_text A = text_of_lines (answer_lines A)
