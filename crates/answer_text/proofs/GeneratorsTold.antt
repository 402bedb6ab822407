-- The text of the generators tells their weights and the texts of their definitions, and these tell the definitions once
-- the names are known.
use Rattle.std.proofs.Common.{◌≡◌, ◌<◌, ◌≤◌, ◌+◌, ℕ, zero, suc, true, false, List, [], ◌∷◌, ◌++◌, get_or, length, drop, map, decimal, refl}
use Rattle.std.proofs.Common.{ap, ap₂, sym, ◌∙◌, arith, append_assoc}
use Rattle.std.specs.Prelude.{codes}
use Rattle.std.proofs.lemmas.List.{append_cancel_left}
use Rattle.pq_base.specs.Limits.{max_rank}
use Rattle.pq_base.specs.Name.{is_name_byte}
use Rattle.pq_base.specs.LPresentation.{AreDistinct}
use Rattle.pq_base.specs.Answer.{Definition, AreWeights}
use Rattle.pq_base.specs.Answer.Definition.{image, commutator, power}
use Rattle.pq_base.specs.Lines.{text_of_lines}
use Rattle.pq_base.proofs.DistinctNames.{place_unique}
use Rattle.answer_text.specs.AnswerText.{definition_text, generator_line, generator_lines}
use Rattle.answer_text.specs.OneText.{AreNames}
use Rattle.answer_text.proofs.Splits.{first-apart, avoids, avoids-append, avoids-decimal, split-same, decimal-same}
use Rattle.answer_text.proofs.texts.RelationTexts.{commutator_text-same}
use Rattle.answer_text.proofs.ImagesTold.{avoids-name}

-- a definition that its text tells
abbrev pub IsTold : List (List ℕ) → Definition → Type 0
IsTold names (image i) = (1 ≤ i) × (i ≤ length names)
IsTold names (commutator j i) = (j < 1000) × (i < 1000)
IsTold names (power j) = j < 1000

abbrev pub AreTold : List (List ℕ) → List Definition → Type 0
AreTold names [] = Unit {0}
AreTold names (d ∷ ds) = IsTold names d × AreTold names ds

avoids-nth : (c : ℕ) (names : List (List ℕ)) (i : ℕ) → is_name_byte c ≡ false → AreNames names → avoids c (get_or names i []) ≡ true
avoids-nth c [] zero out a = refl
avoids-nth c [] (suc i) out a = refl
avoids-nth c (n ∷ ns) zero out a = avoids-name c n out a.0
avoids-nth c (n ∷ ns) (suc i) out a = avoids-nth c ns i out a.1

avoids-definition : (p : ℕ) (names : List (List ℕ)) (d : Definition) → p < 100 → AreNames names → IsTold names d
    → avoids 10 (definition_text p names d) ≡ true
avoids-definition p names (image zero) small a t = absurd (omega (arith, t.0))
avoids-definition p names (image (suc i)) small a t = avoids-nth 10 names i refl a
avoids-definition p names (commutator j i) small a t =
    avoids-append 10 (decimal j) (44 ∷ 97 ∷ (decimal i ++ 93 ∷ [])) (avoids-decimal 10 j (λ n l e. omega arith) t.0)
    (avoids-append 10 (decimal i) (93 ∷ []) (avoids-decimal 10 i (λ n l e. omega arith) t.1) refl)
avoids-definition p names (power j) small a t =
    avoids-append 10 (decimal j) (94 ∷ decimal p) (avoids-decimal 10 j (λ n l e. omega arith) t)
    (avoids-decimal 10 p (λ n l e. omega arith) (omega arith))

definition_text-same : (p : ℕ) (names : List (List ℕ)) (d e : Definition) → AreDistinct names → IsTold names d → IsTold names e
    → definition_text p names d ≡ definition_text p names e → d ≡ e
definition_text-same p names (image zero) e distinct s t h = absurd (omega (arith, s.0))
definition_text-same p names (image (suc i)) (image zero) distinct s t h = absurd (omega (arith, t.0))
definition_text-same p names (image (suc i)) (image (suc j)) distinct s t h =
    ap (λ (n : ℕ). image (suc n))
    (place_unique names i j distinct (omega (arith, s.1)) (omega (arith, t.1)) (ap (λ (x : List ℕ). drop 6 x) h))
definition_text-same p names (image (suc i)) (commutator k l) distinct s t h = absurd (first-apart 105 91 _ _ refl h)
definition_text-same p names (image (suc i)) (power k) distinct s t h = absurd (first-apart 105 97 _ _ refl h)
definition_text-same p names (commutator j i) (image zero) distinct s t h = absurd (omega (arith, t.0))
definition_text-same p names (commutator j i) (image (suc k)) distinct s t h = absurd (first-apart 91 105 _ _ refl h)
definition_text-same p names (commutator j i) (commutator k l) distinct s t h =
    let same : (j ≡ k) × (i ≡ l) = commutator_text-same j i k l [] [] s.0 s.1 t.0 t.1 (ap (λ (x : List ℕ). x ++ []) h) in
    ap₂ (λ (m n : ℕ). commutator m n) same.0 same.1
definition_text-same p names (commutator j i) (power k) distinct s t h = absurd (first-apart 91 97 _ _ refl h)
definition_text-same p names (power j) (image zero) distinct s t h = absurd (omega (arith, t.0))
definition_text-same p names (power j) (image (suc k)) distinct s t h = absurd (first-apart 97 105 _ _ refl h)
definition_text-same p names (power j) (commutator k l) distinct s t h = absurd (first-apart 97 91 _ _ refl h)
definition_text-same p names (power j) (power k) distinct s t h =
    ap (λ (n : ℕ). power n) (decimal-same 94 j k (decimal p) (decimal p) (λ n l i. omega arith) s t (ap (λ (x : List ℕ). drop 1 x) h)).0

pub definitions-same : (p : ℕ) (names : List (List ℕ)) (ds es : List Definition) → AreDistinct names → AreTold names ds → AreTold names es
    → map (definition_text p names) ds ≡ map (definition_text p names) es → ds ≡ es
definitions-same p names [] [] distinct s t h = refl
definitions-same p names [] (e ∷ es) distinct s t h = cc
definitions-same p names (d ∷ ds) [] distinct s t h = cc
definitions-same p names (d ∷ ds) (e ∷ es) distinct s t h =
    let first = definition_text-same p names d e distinct s.0 t.0 (ap (λ (x : List (List ℕ)). get_or x 0 []) h) in
    let more = definitions-same p names ds es distinct s.1 t.1 (ap (λ (x : List (List ℕ)). drop 1 x) h) in
    ap₂ (λ (x : Definition) (xs : List Definition). x ∷ xs) first more

-- what follows the weight in the line of a generator
abbrev from_text : ℕ → List (List ℕ) → Definition → List ℕ → List ℕ
from_text p names d x = codes "from " ++ (definition_text p names d ++ 10 ∷ x)

generator_lines-first : (p : ℕ) (names : List (List ℕ)) (k w : ℕ) (d : Definition) (ws : List ℕ) (ds : List Definition) (more : List ℕ)
    → text_of_lines (generator_lines p names k (w ∷ ws) (d ∷ ds)) ++ more
    ≡ codes "generator a" ++ (decimal (suc k)
    ++ (codes " weight " ++ (decimal w ++ 32 ∷ from_text p names d (text_of_lines (generator_lines p names (suc k) ws ds) ++ more))))
generator_lines-first p names k w d ws ds more =
    let left : List (List ℕ) = generator_lines p names (suc k) ws ds in
    let x : List ℕ = 10 ∷ (text_of_lines left ++ more) in
    append_assoc (generator_line p names (suc k) w d) (10 ∷ text_of_lines left) more
    ∙ ap (λ (t : List ℕ). codes "generator a" ++ t)
    (append_assoc (decimal (suc k)) (codes " weight " ++ (decimal w ++ (codes " from " ++ definition_text p names d))) x
    ∙ ap (λ (t : List ℕ). decimal (suc k) ++ (codes " weight " ++ t))
    (append_assoc (decimal w) (codes " from " ++ definition_text p names d) x))

pub generators-same : (p : ℕ) (names others : List (List ℕ)) (k least lowest : ℕ) (ws vs : List ℕ) (ds es : List Definition)
    (more rest : List ℕ)
    → p < 100 → k + length ws ≤ max_rank → AreNames names → AreNames others → length ds ≡ length ws → length es ≡ length vs
    → length ws ≡ length vs
    → AreWeights least ws → AreWeights lowest vs → AreTold names ds → AreTold others es
    → text_of_lines (generator_lines p names k ws ds) ++ more ≡ text_of_lines (generator_lines p others k vs es) ++ rest
    → (ws ≡ vs) × (map (definition_text p names) ds ≡ map (definition_text p others) es) × (more ≡ rest)
generators-same p names others k least lowest [] [] [] [] more rest small inside a b l m n u v s t h = (refl, refl, h)
generators-same p names others k least lowest [] [] [] (e ∷ es) more rest small inside a b l m n u v s t h = absurd (omega arith)
generators-same p names others k least lowest [] [] (d ∷ ds) es more rest small inside a b l m n u v s t h = absurd (omega arith)
generators-same p names others k least lowest [] (x ∷ vs) ds es more rest small inside a b l m n u v s t h = absurd (omega arith)
generators-same p names others k least lowest (w ∷ ws) [] ds es more rest small inside a b l m n u v s t h = absurd (omega arith)
generators-same p names others k least lowest (w ∷ ws) (x ∷ vs) [] es more rest small inside a b l m n u v s t h = absurd (omega arith)
generators-same p names others k least lowest (w ∷ ws) (x ∷ vs) (d ∷ ds) [] more rest small inside a b l m n u v s t h =
    absurd (omega arith)
generators-same p names others k least lowest (w ∷ ws) (x ∷ vs) (d ∷ ds) (e ∷ es) more rest small inside a b l m n u v s t h =
    let after : List ℕ = text_of_lines (generator_lines p names (suc k) ws ds) ++ more in
    let behind : List ℕ = text_of_lines (generator_lines p others (suc k) vs es) ++ rest in
    let whole = sym (generator_lines-first p names k w d ws ds more) ∙ h ∙ generator_lines-first p others k x e vs es rest in
    let from_weight =
    append_cancel_left (decimal (suc k)) (codes " weight " ++ (decimal w ++ 32 ∷ from_text p names d after))
    (codes " weight " ++ (decimal x ++ 32 ∷ from_text p others e behind))
    (ap (λ (y : List ℕ). drop 11 y) whole) in
    let weight =
    decimal-same 32 w x (from_text p names d after) (from_text p others e behind) (λ n l i. omega arith) (omega (arith, u.1))
    (omega (arith, v.1)) (ap (λ (y : List ℕ). drop 8 y) from_weight) in
    let definition = split-same 10 (definition_text p names d) (definition_text p others e) after behind
    (avoids-definition p names d small a s.0) (avoids-definition p others e small b t.0) (ap (λ (y : List ℕ). drop 5 y) weight.1) in
    let next =
    generators-same p names others (suc k) w x ws vs ds es more rest small (omega arith) a b (omega arith) (omega arith)
    (omega arith) u.2 v.2 s.1 t.1 definition.1 in
    (ap₂ (λ (y : ℕ) (ys : List ℕ). y ∷ ys) weight.0 next.0, ap₂ (λ (y : List ℕ) (ys : List (List ℕ)). y ∷ ys) definition.0 next.1, next.2)
