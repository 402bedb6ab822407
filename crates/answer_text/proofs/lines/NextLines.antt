-- The lines of an answer from place k on are those of entry k, and then those from the next place on.
use Rattle.std.proofs.Common.{◌≡◌, ◌<◌, ◌≤◌, ℕ, suc, List, [], ◌∷◌, ◌++◌, get_or, length, drop, ap, ◌∙◌, append_assoc, arith}
use Rattle.std.specs.Prelude.{codes}
use Rattle.std.proofs.Math.Seq.{drop-cons}
use Rattle.pq_base.specs.Answer.{Definition}
use Rattle.pq_base.specs.Answer.Definition.{image}
use Rattle.pq_base.specs.Lines.{text_of_lines}
use Rattle.pc_presentation.specs.declared.syllable.Syllable.{Syllable}
use Rattle.pc_presentation.specs.Syllable.{syllables_of}
use Rattle.answer_text.specs.Words.{word_text}
use Rattle.answer_text.specs.AnswerText.{generator_line, generator_lines, relation_lines, power_text, power_lines, commutator_text}
use Rattle.answer_text.specs.AnswerText.{commutator_row_lines, commutator_lines, image_line, image_lines}

pub generator_lines-next : (p : ℕ) (names : List (List ℕ)) (k j m : ℕ) (ws : List ℕ) (ds : List Definition)
    → j ≡ suc k → m ≡ k → k < length ws → k < length ds
    → generator_lines p names k (drop k ws) (drop k ds)
    ≡ generator_line p names j (get_or ws m 0) (get_or ds m (image 0)) ∷ generator_lines p names j (drop j ws) (drop j ds)
generator_lines-next p names k j m ws ds next same h g =
    rw (next, same)
    (ap (λ (xs : List ℕ). generator_lines p names k xs (drop k ds)) (drop-cons ws k 0 h)
    ∙ ap (λ (ys : List Definition). generator_lines p names k (get_or ws k 0 ∷ drop (suc k) ws) ys) (drop-cons ds k (image 0) g))

pub power_lines-next : (p k j m : ℕ) (sides : List (List ℕ)) → j ≡ suc k → m ≡ k → k < length sides
    → power_lines p k (drop k sides)
    ≡ relation_lines (power_text p j) (syllables_of j (get_or sides m [])) ++ power_lines p j (drop j sides)
power_lines-next p k j m sides next same h =
    rw (next, same) (ap (λ (xs : List (List ℕ)). power_lines p k xs) (drop-cons sides k [] h))

pub commutator_row_lines-next : (g k j m : ℕ) (sides : List (List ℕ)) → j ≡ suc k → m ≡ k → k < length sides
    → commutator_row_lines g k (drop k sides)
    ≡ relation_lines (commutator_text g j) (syllables_of g (get_or sides m [])) ++ commutator_row_lines g j (drop j sides)
commutator_row_lines-next g k j m sides next same h =
    rw (next, same) (ap (λ (xs : List (List ℕ)). commutator_row_lines g k xs) (drop-cons sides k [] h))

pub commutator_lines-next : (k j m : ℕ) (rows : List (List (List ℕ))) → j ≡ suc k → m ≡ k → k < length rows
    → commutator_lines k (drop k rows) ≡ commutator_row_lines j 0 (get_or rows m []) ++ commutator_lines j (drop j rows)
commutator_lines-next k j m rows next same h =
    rw (next, same) (ap (λ (xs : List (List (List ℕ))). commutator_lines k xs) (drop-cons rows k [] h))

pub image_lines-next : (k j m : ℕ) (names es : List (List ℕ)) → j ≡ suc k → m ≡ k → k < length names → k < length es
    → image_lines (drop k names) (drop k es) ≡ image_line (get_or names k []) (get_or es m []) ∷ image_lines (drop j names) (drop j es)
image_lines-next k j m names es next same h g =
    rw (next, same)
    (ap (λ (xs : List (List ℕ)). image_lines xs (drop k es)) (drop-cons names k [] h)
    ∙ ap (λ (ys : List (List ℕ)). image_lines (get_or names k [] ∷ drop (suc k) names) ys) (drop-cons es k [] g))

-- equal parts make equal lines
pub generator_line-same : (p q : ℕ) (names others : List (List ℕ)) (k w v : ℕ) (d e : Definition) → p ≡ q → names ≡ others → w ≡ v → d ≡ e
    → generator_line p names k w d ≡ generator_line q others k v e
generator_line-same p q names others k w v d e prime same weight definition =
    ap (λ (n : ℕ). generator_line n names k w d) prime
    ∙ ap (λ (ns : List (List ℕ)). generator_line q ns k w d) same
    ∙ ap (λ (n : ℕ). generator_line q others k n d) weight
    ∙ ap (λ (x : Definition). generator_line q others k v x) definition

-- a relation whose word isn't empty has one line
pub text-relation_lines : (left : List ℕ) (w : List Syllable) → 1 ≤ length w
    → codes "relation " ++ (left ++ (codes " = " ++ (word_text w ++ 10 ∷ []))) ≡ text_of_lines (relation_lines left w)
text-relation_lines left [] h = absurd (omega arith)
text-relation_lines left (s ∷ ss) h = simp append_assoc

-- a relation that was written up to its left side
pub relation-written : (o0 o1 o2 left : List ℕ) (w : List Syllable) → o1 ≡ o0 ++ codes "relation " → o2 ≡ o1 ++ left → 1 ≤ length w
    → o2 ++ (codes " = " ++ (word_text w ++ 10 ∷ [])) ≡ o0 ++ text_of_lines (relation_lines left w)
relation-written o0 o1 o2 left w start then some =
    rw (then, start, ← text-relation_lines left w some) (simp append_assoc)

-- an image that was written part by part
pub image_line-written : (out new name other : List ℕ) (w : List Syllable) (e : List ℕ)
    → new ≡ out ++ (codes "image " ++ (name ++ (codes " = " ++ (word_text w ++ 10 ∷ [])))) → name ≡ other → w ≡ syllables_of 0 e
    → new ≡ out ++ (image_line other e ++ 10 ∷ [])
image_line-written out new name other w e written same word =
    written
    ∙ ap (λ (n : List ℕ). out ++ (codes "image " ++ (n ++ (codes " = " ++ (word_text w ++ 10 ∷ []))))) same
    ∙ ap (λ (v : List Syllable). out ++ (codes "image " ++ (other ++ (codes " = " ++ (word_text v ++ 10 ∷ []))))) word
    ∙ simp append_assoc
