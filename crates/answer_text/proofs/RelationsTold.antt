-- The text of all relations tells all right sides: power by power, and then commutator by commutator.
use Rattle.std.proofs.Common.{◌≡◌, ◌<◌, ◌≤◌, ◌+◌, ℕ, suc, List, [], ◌∷◌, ◌++◌, get_or, length, refl, ap, ap₂, sym, ◌∙◌, inl, inr, arith}
use Rattle.pq_base.specs.Limits.{max_rank}
use Rattle.pq_base.specs.Lines.{text_of_lines}
use Rattle.pc_presentation.specs.Syllable.{syllables_of}
use Rattle.answer_text.specs.AnswerText.{relation_lines, power_text, power_lines, commutator_text, commutator_row_lines, commutator_lines}
use Rattle.answer_text.proofs.texts.RelationTexts.{NoRelation, AreApart, NoRelation-relation, NoRelation-lines, powers-apart}
use Rattle.answer_text.proofs.texts.RelationTexts.{commutators-apart, SidesAlike, RowsAlike, side-same, text-split}

sides-long : (p : ℕ) (es fs : List (List ℕ)) → SidesAlike p es fs → length es ≡ length fs
sides-long p [] [] a = refl
sides-long p [] (f ∷ fs) a = absurd a
sides-long p (e ∷ es) [] a = absurd a
sides-long p (e ∷ es) (f ∷ fs) a = ap suc (sides-long p es fs a.1)

rows-long : (p : ℕ) (es fs : List (List (List ℕ))) → RowsAlike p es fs → length es ≡ length fs
rows-long p [] [] a = refl
rows-long p [] (f ∷ fs) a = absurd a
rows-long p (e ∷ es) [] a = absurd a
rows-long p (e ∷ es) (f ∷ fs) a = ap suc (rows-long p es fs a.1)

pub NoRelation-powers : (left : List ℕ) (p k : ℕ) (es : List (List ℕ)) (more : List ℕ)
    → ((j : ℕ) → k ≤ j → j < k + length es → AreApart left (power_text p (suc j))) → NoRelation left more
    → NoRelation left (text_of_lines (power_lines p k es) ++ more)
NoRelation-powers left p k [] more apart n = n
NoRelation-powers left p k (e ∷ es) more apart n =
    NoRelation-lines left (relation_lines (power_text p (suc k)) (syllables_of (suc k) e)) (power_lines p (suc k) es) more
    (NoRelation-relation left (power_text p (suc k)) (syllables_of (suc k) e) (text_of_lines (power_lines p (suc k) es) ++ more)
    (apart k (omega arith) (omega arith))
    (NoRelation-powers left p (suc k) es more (λ j l m. apart j (omega arith) (omega arith)) n))

pub powers-same : (p k : ℕ) (es fs : List (List ℕ)) (more rest : List ℕ) → p < 100 → k + length es ≤ max_rank → SidesAlike p es fs
    → ((j : ℕ) → j < max_rank → NoRelation (power_text p (suc j)) more) → ((j : ℕ) → j < max_rank → NoRelation (power_text p (suc j)) rest)
    → text_of_lines (power_lines p k es) ++ more ≡ text_of_lines (power_lines p k fs) ++ rest → (es ≡ fs) × (more ≡ rest)
powers-same p k [] [] more rest small inside a n m h = (refl, h)
powers-same p k [] (f ∷ fs) more rest small inside a n m h = absurd a
powers-same p k (e ∷ es) [] more rest small inside a n m h = absurd a
powers-same p k (e ∷ es) (f ∷ fs) more rest small inside a n m h =
    let left : List ℕ = power_text p (suc k) in
    let long : length es ≡ length fs = sides-long p es fs a.1 in
    let split = sym (text-split (relation_lines left (syllables_of (suc k) e)) (power_lines p (suc k) es) more) ∙ h
    ∙ text-split (relation_lines left (syllables_of (suc k) f)) (power_lines p (suc k) fs) rest in
    let here =
    side-same left p (suc k) e f (text_of_lines (power_lines p (suc k) es) ++ more) (text_of_lines (power_lines p (suc k) fs) ++ rest) small
    (omega arith) a.0
    (NoRelation-powers left p (suc k) es more (λ j l g. powers-apart p (suc k) (suc j) (omega arith) (omega arith) (omega arith))
    (n k (omega arith)))
    (NoRelation-powers left p (suc k) fs rest (λ j l g. powers-apart p (suc k) (suc j) (omega arith) (omega arith) (omega arith))
    (m k (omega arith))) split in
    let later = powers-same p (suc k) es fs more rest small (omega arith) a.1 n m here.1 in
    (ap₂ (λ (x : List ℕ) (xs : List (List ℕ)). x ∷ xs) here.0 later.0, later.1)

NoRelation-row : (left : List ℕ) (j k : ℕ) (es : List (List ℕ)) (more : List ℕ)
    → ((i : ℕ) → k ≤ i → i < k + length es → AreApart left (commutator_text j (suc i))) → NoRelation left more
    → NoRelation left (text_of_lines (commutator_row_lines j k es) ++ more)
NoRelation-row left j k [] more apart n = n
NoRelation-row left j k (e ∷ es) more apart n =
    NoRelation-lines left (relation_lines (commutator_text j (suc k)) (syllables_of j e)) (commutator_row_lines j (suc k) es) more
    (NoRelation-relation left (commutator_text j (suc k)) (syllables_of j e) (text_of_lines (commutator_row_lines j (suc k) es) ++ more)
    (apart k (omega arith) (omega arith))
    (NoRelation-row left j (suc k) es more (λ i l m. apart i (omega arith) (omega arith)) n))

row-same : (p j k : ℕ) (es fs : List (List ℕ)) (more rest : List ℕ) → p < 100 → j ≤ max_rank → k + length es ≤ max_rank → SidesAlike p es fs
    → ((i : ℕ) → i < max_rank → NoRelation (commutator_text j (suc i)) more)
    → ((i : ℕ) → i < max_rank → NoRelation (commutator_text j (suc i)) rest)
    → text_of_lines (commutator_row_lines j k es) ++ more ≡ text_of_lines (commutator_row_lines j k fs) ++ rest → (es ≡ fs) × (more ≡ rest)
row-same p j k [] [] more rest small below inside a n m h = (refl, h)
row-same p j k [] (f ∷ fs) more rest small below inside a n m h = absurd a
row-same p j k (e ∷ es) [] more rest small below inside a n m h = absurd a
row-same p j k (e ∷ es) (f ∷ fs) more rest small below inside a n m h =
    let left : List ℕ = commutator_text j (suc k) in
    let long : length es ≡ length fs = sides-long p es fs a.1 in
    let split = sym (text-split (relation_lines left (syllables_of j e)) (commutator_row_lines j (suc k) es) more) ∙ h
    ∙ text-split (relation_lines left (syllables_of j f)) (commutator_row_lines j (suc k) fs) rest in
    let here =
    side-same left p j e f (text_of_lines (commutator_row_lines j (suc k) es) ++ more)
    (text_of_lines (commutator_row_lines j (suc k) fs) ++ rest) small below a.0
    (NoRelation-row left j (suc k) es more
    (λ i l g. commutators-apart j (suc k) j (suc i) (omega arith) (omega arith) (omega arith) (omega arith) (inr (omega arith)))
    (n k (omega arith)))
    (NoRelation-row left j (suc k) fs rest
    (λ i l g. commutators-apart j (suc k) j (suc i) (omega arith) (omega arith) (omega arith) (omega arith) (inr (omega arith)))
    (m k (omega arith))) split in
    let later = row-same p j (suc k) es fs more rest small below (omega arith) a.1 n m here.1 in
    (ap₂ (λ (x : List ℕ) (xs : List (List ℕ)). x ∷ xs) here.0 later.0, later.1)

-- no row has more entries than there may be generators
abbrev pub AreShortRows : List (List (List ℕ)) → Type 0
AreShortRows rows = (i : ℕ) → i < length rows → length (get_or rows i []) ≤ max_rank

pub NoRelation-rows : (left : List ℕ) (k : ℕ) (rows : List (List (List ℕ))) (more : List ℕ) → AreShortRows rows
    → ((j i : ℕ) → k ≤ j → j < k + length rows → i < max_rank → AreApart left (commutator_text (suc j) (suc i))) → NoRelation left more
    → NoRelation left (text_of_lines (commutator_lines k rows) ++ more)
NoRelation-rows left k [] more short apart n = n
NoRelation-rows left k (row ∷ rows) more short apart n =
    let entries : length row ≤ max_rank = short 0 (omega arith) in
    NoRelation-lines left (commutator_row_lines (suc k) 0 row) (commutator_lines (suc k) rows) more
    (NoRelation-row left (suc k) 0 row (text_of_lines (commutator_lines (suc k) rows) ++ more)
    (λ i l m. apart k i (omega arith) (omega arith) (omega arith))
    (NoRelation-rows left (suc k) rows more (λ i l. short (suc i) (omega arith)) (λ j i l m g. apart j i (omega arith) (omega arith) g) n))

pub rows-same : (p k : ℕ) (es fs : List (List (List ℕ))) (more rest : List ℕ) → p < 100 → k + length es ≤ max_rank → RowsAlike p es fs
    → AreShortRows es → AreShortRows fs
    → ((j i : ℕ) → j < max_rank → i < max_rank → NoRelation (commutator_text (suc j) (suc i)) more)
    → ((j i : ℕ) → j < max_rank → i < max_rank → NoRelation (commutator_text (suc j) (suc i)) rest)
    → text_of_lines (commutator_lines k es) ++ more ≡ text_of_lines (commutator_lines k fs) ++ rest → (es ≡ fs) × (more ≡ rest)
rows-same p k [] [] more rest small inside a s t n m h = (refl, h)
rows-same p k [] (f ∷ fs) more rest small inside a s t n m h = absurd a
rows-same p k (e ∷ es) [] more rest small inside a s t n m h = absurd a
rows-same p k (e ∷ es) (f ∷ fs) more rest small inside a s t n m h =
    let long : length es ≡ length fs = rows-long p es fs a.1 in
    let entries : length e ≤ max_rank = s 0 (omega arith) in
    let split = sym (text-split (commutator_row_lines (suc k) 0 e) (commutator_lines (suc k) es) more) ∙ h
    ∙ text-split (commutator_row_lines (suc k) 0 f) (commutator_lines (suc k) fs) rest in
    let here =
    row-same p (suc k) 0 e f (text_of_lines (commutator_lines (suc k) es) ++ more)
    (text_of_lines (commutator_lines (suc k) fs) ++ rest) small (omega arith) (omega arith) a.0
    (λ i l. NoRelation-rows (commutator_text (suc k) (suc i)) (suc k) es more (λ x y. s (suc x) (omega arith))
    (λ j x g o z. commutators-apart (suc k) (suc i) (suc j) (suc x) (omega arith) (omega arith) (omega arith) (omega arith)
    (inl (omega arith))) (n k i (omega arith) l))
    (λ i l. NoRelation-rows (commutator_text (suc k) (suc i)) (suc k) fs rest (λ x y. t (suc x) (omega arith))
    (λ j x g o z. commutators-apart (suc k) (suc i) (suc j) (suc x) (omega arith) (omega arith) (omega arith) (omega arith)
    (inl (omega arith))) (m k i (omega arith) l)) split in
    let later =
    rows-same p (suc k) es fs more rest small (omega arith) a.1 (λ x y. s (suc x) (omega arith))
    (λ x y. t (suc x) (omega arith)) n m here.1 in
    (ap₂ (λ (x : List (List ℕ)) (xs : List (List (List ℕ))). x ∷ xs) here.0 later.0, later.1)
