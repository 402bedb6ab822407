-- The text of the relations of a presentation tells their right sides: each left side stands at the beginning of one line
-- at most, and the lines are in the order of the left sides.
use Rattle.std.proofs.Common.{◌≡◌, ◌<◌, ◌≤◌, ℕ, List, [], ◌∷◌, ◌++◌, length, drop, decimal, refl, ap, sym, ◌∙◌, inl, inr, ◌⊎◌, arith}
use Rattle.std.proofs.Common.{append_assoc}
use Rattle.std.specs.Prelude.{codes}
use Rattle.std.proofs.lemmas.List.{append_cancel_left}
use Rattle.pq_base.specs.Limits.{max_rank}
use Rattle.pq_base.specs.Table.{AllBelow}
use Rattle.pq_base.specs.Lines.{text_of_lines}
use Rattle.pc_presentation.specs.declared.syllable.Syllable.{Syllable}
use Rattle.pc_presentation.specs.Syllable.{syllables_of}
use Rattle.answer_text.specs.Words.{word_text}
use Rattle.answer_text.specs.AnswerText.{relation_lines, power_text, commutator_text}
use Rattle.pq_base.proofs.LineLaws.{text_of_lines-append}
use Rattle.answer_text.proofs.Splits.{first-apart, split-same, decimal-same}
use Rattle.answer_text.proofs.texts.WordTexts.{AreWritten, avoids-word, word_text-same, AreWritten-syllables_of, syllables_of-same}

-- the text of a relation's line, or of none
abbrev pub relation_text : List ℕ → List Syllable → List ℕ
relation_text left w = text_of_lines (relation_lines left w)

-- a line with this left side, and what follows its equals sign
abbrev with_left : List ℕ → List ℕ → List ℕ
with_left left x = codes "relation " ++ (left ++ (codes " = " ++ x))

-- the text doesn't begin with such a line
abbrev pub NoRelation : List ℕ → List ℕ → Type 0
NoRelation left t = (x : List ℕ) → t ≡ with_left left x → ⊥

relation_text-some : (left : List ℕ) (s : Syllable) (ss : List Syllable) (more : List ℕ)
    → relation_text left (s ∷ ss) ++ more ≡ with_left left (word_text (s ∷ ss) ++ 10 ∷ more)
relation_text-some left s ss more = simp append_assoc

relation-same : (left : List ℕ) (v w : List Syllable) (more rest : List ℕ) → AreWritten v → AreWritten w → NoRelation left more
    → NoRelation left rest
    → relation_text left v ++ more ≡ relation_text left w ++ rest → (v ≡ w) × (more ≡ rest)
relation-same left [] [] more rest a b n m h = (refl, h)
relation-same left [] (t ∷ w) more rest a b n m h = absurd (n (word_text (t ∷ w) ++ 10 ∷ rest) (h ∙ relation_text-some left t w rest))
relation-same left (s ∷ v) [] more rest a b n m h = absurd (m (word_text (s ∷ v) ++ 10 ∷ more) (sym h ∙ relation_text-some left s v more))
relation-same left (s ∷ v) (t ∷ w) more rest a b n m h =
    let whole : with_left left (word_text (s ∷ v) ++ 10 ∷ more) ≡ with_left left (word_text (t ∷ w) ++ 10 ∷ rest) =
    sym (relation_text-some left s v more) ∙ h ∙ relation_text-some left t w rest in
    let from_left : left ++ (codes " = " ++ (word_text (s ∷ v) ++ 10 ∷ more)) ≡ left ++ (codes " = " ++ (word_text (t ∷ w) ++ 10 ∷ rest)) =
    ap (λ (x : List ℕ). drop 9 x) whole in
    let from_equals : codes " = " ++ (word_text (s ∷ v) ++ 10 ∷ more) ≡ codes " = " ++ (word_text (t ∷ w) ++ 10 ∷ rest) =
    append_cancel_left left _ _ from_left in
    let from_word : word_text (s ∷ v) ++ 10 ∷ more ≡ word_text (t ∷ w) ++ 10 ∷ rest = ap (λ (x : List ℕ). drop 3 x) from_equals in
    let parts = split-same 10 (word_text (s ∷ v)) (word_text (t ∷ w)) more rest (avoids-word (s ∷ v) a) (avoids-word (t ∷ w) b) from_word in
    (word_text-same (s ∷ v) (t ∷ w) a b parts.0, parts.1)

-- no line begins with both left sides
abbrev pub AreApart : List ℕ → List ℕ → Type 0
AreApart left other = (x y : List ℕ) → other ++ x ≡ left ++ y → ⊥

pub NoRelation-relation : (left other : List ℕ) (w : List Syllable) (more : List ℕ) → AreApart left other → NoRelation left more
    → NoRelation left (relation_text other w ++ more)
NoRelation-relation left other [] more apart n x h = n x h
NoRelation-relation left other (s ∷ w) more apart n x h =
    let whole : with_left other (word_text (s ∷ w) ++ 10 ∷ more) ≡ with_left left x = sym (relation_text-some other s w more) ∙ h in
    apart (codes " = " ++ (word_text (s ∷ w) ++ 10 ∷ more)) (codes " = " ++ x) (ap (λ (t : List ℕ). drop 9 t) whole)

pub power_text-long : (p j : ℕ) (x : List ℕ) → power_text p j ++ x ≡ 97 ∷ (decimal j ++ 94 ∷ (decimal p ++ x))
power_text-long p j x = simp append_assoc

commutator_text-long : (j i : ℕ) (x : List ℕ) → commutator_text j i ++ x ≡ 91 ∷ 97 ∷ (decimal j ++ 44 ∷ 97 ∷ (decimal i ++ 93 ∷ x))
commutator_text-long j i x =
    ap (λ (t : List ℕ). 91 ∷ 97 ∷ t)
    (append_assoc (decimal j) (44 ∷ 97 ∷ (decimal i ++ 93 ∷ [])) x
    ∙ ap (λ (t : List ℕ). decimal j ++ 44 ∷ 97 ∷ t) (append_assoc (decimal i) (93 ∷ []) x))

-- the number in the left side of a power
pub powers-apart : (p j k : ℕ) → j < 1000 → k < 1000 → j < k → AreApart (power_text p j) (power_text p k)
powers-apart p j k a b less x y h =
    let long : 97 ∷ (decimal k ++ 94 ∷ (decimal p ++ x)) ≡ 97 ∷ (decimal j ++ 94 ∷ (decimal p ++ y)) =
    sym (power_text-long p k x) ∙ h ∙ power_text-long p j y in
    let same : k ≡ j =
    (decimal-same 94 k j (decimal p ++ x) (decimal p ++ y) (λ n l i. omega arith) b a (ap (λ (t : List ℕ). drop 1 t) long)).0 in
    omega arith

pub power-commutator-apart : (p j k i : ℕ) → AreApart (power_text p j) (commutator_text k i)
power-commutator-apart p j k i x y h = first-apart 91 97 _ _ refl (sym (commutator_text-long k i x) ∙ h ∙ power_text-long p j y)

-- both numbers in the left side of a commutator
pub commutator_text-same : (j i k l : ℕ) (x y : List ℕ) → j < 1000 → i < 1000 → k < 1000 → l < 1000
    → commutator_text j i ++ x ≡ commutator_text k l ++ y → (j ≡ k) × (i ≡ l)
commutator_text-same j i k l x y a b c d h =
    let long : 91 ∷ 97 ∷ (decimal j ++ 44 ∷ 97 ∷ (decimal i ++ 93 ∷ x)) ≡ 91 ∷ 97 ∷ (decimal k ++ 44 ∷ 97 ∷ (decimal l ++ 93 ∷ y)) =
    sym (commutator_text-long j i x) ∙ h ∙ commutator_text-long k l y in
    let first =
    decimal-same 44 j k (97 ∷ (decimal i ++ 93 ∷ x)) (97 ∷ (decimal l ++ 93 ∷ y)) (λ n l i. omega arith) a c
    (ap (λ (t : List ℕ). drop 2 t) long) in
    let second = decimal-same 93 i l x y (λ n l i. omega arith) b d (ap (λ (t : List ℕ). drop 1 t) first.1) in
    (first.0, second.0)

pub commutators-apart : (j i k l : ℕ) → j < 1000 → i < 1000 → k < 1000 → l < 1000 → (j < k) ⊎ (i < l)
    → AreApart (commutator_text j i) (commutator_text k l)
commutators-apart j i k l a b c d less x y h =
    let same : (k ≡ j) × (l ≡ i) = commutator_text-same k l j i x y c d a b h in
    elim less [
      | inl first ↦ omega (arith, same.0, first)
      | inr second ↦ omega (arith, same.1, second)
    ]

-- exponents of one length and below p
pub record AreAlike (p : ℕ) (e f : List ℕ) : Type 0 where
  pub long : length e ≡ length f
  pub short : length e ≤ max_rank
  pub left : AllBelow p e
  pub right : AllBelow p f

abbrev pub SidesAlike : ℕ → List (List ℕ) → List (List ℕ) → Type 0
SidesAlike p [] [] = Unit {0}
SidesAlike p [] (f ∷ fs) = ⊥
SidesAlike p (e ∷ es) [] = ⊥
SidesAlike p (e ∷ es) (f ∷ fs) = AreAlike p e f × SidesAlike p es fs

abbrev pub RowsAlike : ℕ → List (List (List ℕ)) → List (List (List ℕ)) → Type 0
RowsAlike p [] [] = Unit {0}
RowsAlike p [] (f ∷ fs) = ⊥
RowsAlike p (e ∷ es) [] = ⊥
RowsAlike p (e ∷ es) (f ∷ fs) = SidesAlike p e f × RowsAlike p es fs

-- a right side is told by its relation's line
pub side-same : (left : List ℕ) (p k : ℕ) (e f more rest : List ℕ) → p < 100 → k ≤ max_rank → AreAlike p e f → NoRelation left more
    → NoRelation left rest
    → relation_text left (syllables_of k e) ++ more ≡ relation_text left (syllables_of k f) ++ rest → (e ≡ f) × (more ≡ rest)
side-same left p k e f more rest small inside a n m h =
    let long : length e ≡ length f = a.long in
    let short : length e ≤ max_rank = a.short in
    let parts = relation-same left (syllables_of k e) (syllables_of k f) more rest
    (AreWritten-syllables_of p k e (omega arith) (omega arith) a.left)
    (AreWritten-syllables_of p k f (omega arith) (omega arith) a.right) n m h in
    (syllables_of-same k e f long parts.0, parts.1)

pub text-split : (ks ls : List (List ℕ)) (more : List ℕ) → text_of_lines (ks ++ ls) ++ more ≡ text_of_lines ks ++ (text_of_lines ls ++ more)
text-split ks ls more =
    ap (λ (x : List ℕ). x ++ more) (text_of_lines-append ks ls) ∙ append_assoc (text_of_lines ks) (text_of_lines ls) more

pub NoRelation-lines : (left : List ℕ) (ks ls : List (List ℕ)) (more : List ℕ)
    → NoRelation left (text_of_lines ks ++ (text_of_lines ls ++ more)) → NoRelation left (text_of_lines (ks ++ ls) ++ more)
NoRelation-lines left ks ls more n x h = n x (sym (text-split ks ls more) ∙ h)
