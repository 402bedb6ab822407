-- The text of an answer is made of its head, its generators, powers, commutators and images, one after the other.
use Rattle.std.proofs.Common.{◌≡◌, ℕ, List, [], ◌∷◌, ◌++◌, append_assoc}
use Rattle.std.specs.Prelude.{codes}
use Rattle.pq_base.specs.Answer.{Answer, class_of}
use Rattle.pq_base.specs.Lines.{text_of_lines}
use Rattle.answer_text.specs.AnswerText.{answer_text, head_lines, generator_lines, power_lines, commutator_lines, image_lines}
use Rattle.pq_base.proofs.LineLaws.{text_of_lines-append}

six_parts : (a b c d e f : List (List ℕ)) → text_of_lines (a ++ (b ++ (c ++ (d ++ (e ++ f)))))
    ≡ text_of_lines a ++ (text_of_lines b ++ (text_of_lines c ++ (text_of_lines d ++ (text_of_lines e ++ text_of_lines f))))
six_parts a b c d e f = simp text_of_lines-append

pub answer_text-parts : (A : Answer) → answer_text A
    ≡ text_of_lines (head_lines A.presentation.prime (class_of A) A.presentation.rank)
    ++ (text_of_lines (generator_lines A.presentation.prime A.names 0 A.weights A.definitions)
    ++ (text_of_lines (power_lines A.presentation.prime 0 A.presentation.powers)
    ++ (text_of_lines (commutator_lines 0 A.presentation.commutators)
    ++ (text_of_lines (image_lines A.names A.images)
    ++ (codes "end" ++ 10 ∷ [])))))
unfolding answer_text
answer_text-parts A =
    six_parts (head_lines A.presentation.prime (class_of A) A.presentation.rank)
    (generator_lines A.presentation.prime A.names 0 A.weights A.definitions)
    (power_lines A.presentation.prime 0 A.presentation.powers) (commutator_lines 0 A.presentation.commutators)
    (image_lines A.names A.images) (codes "end" ∷ [])

-- a text that is written in six parts
pub written_parts : (o0 o1 o2 o3 o4 o5 o6 a b c d e f : List ℕ) → o0 ≡ [] → o1 ≡ o0 ++ a → o2 ≡ o1 ++ b → o3 ≡ o2 ++ c → o4 ≡ o3 ++ d
    → o5 ≡ o4 ++ e → o6 ≡ o5 ++ f
    → o6 ≡ a ++ (b ++ (c ++ (d ++ (e ++ f))))
written_parts o0 o1 o2 o3 o4 o5 o6 a b c d e f e0 e1 e2 e3 e4 e5 e6 = rw (e6, e5, e4, e3, e2, e1, e0) (simp append_assoc)
