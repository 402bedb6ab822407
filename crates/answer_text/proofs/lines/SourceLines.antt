-- The lines of generators, with named images, tell the weights and the definitions.
use Rattle.std.proofs.Common.{◌≡◌, ◌<◌, ◌≤◌, ◌+◌, ◌-◌, ℕ, zero, suc, List, [], ◌∷◌, ◌++◌, get_or, length, drop, map, decimal, refl, ap, ap₂}
use Rattle.std.proofs.Common.{sym, ◌∙◌, arith, append_assoc}
use Rattle.std.specs.Prelude.{codes}
use Rattle.std.proofs.lemmas.List.{append_cancel_left}
use Rattle.pq_base.specs.Limits.{max_class, max_names, max_rank}
use Rattle.pq_base.specs.LPresentation.{AreDistinct}
use Rattle.pq_base.specs.Answer.{Definition}
use Rattle.pq_base.specs.Answer.Definition.{image, commutator, power}
use Rattle.pq_base.specs.Lines.{text_of_lines}
use Rattle.pq_base.proofs.DistinctNames.{place_unique}
use Rattle.pc_presentation.specs.declared.relation.Relation.{Relation}
use Rattle.pc_presentation.specs.declared.relation.Relation.TheVariants.{Power, Commutator}
use Rattle.answer_text.specs.declared.source.Source.{Source}
use Rattle.answer_text.specs.declared.source.Source.TheVariants.{Image, RightSide}
use Rattle.answer_text.specs.AnswerText.{generator_line, generator_lines}
use Rattle.answer_text.specs.AnswerPlaces.{HasForm, IsScale, IsSource, source_text, source_line}
use Rattle.answer_text.specs.AnswerPlaces.Place.{in_body}
use Rattle.answer_text.specs.AnswerPlaces.HasForm.{generator}
pub use Rattle.answer_text.specs.Sources.{AreResolved}
use Rattle.answer_text.specs.Sources.{Resolves}
pub use Rattle.answer_text.specs.ReadSoFar.{source_lines, AreSources}
use Rattle.answer_text.proofs.Splits.{first-apart, split-same, decimal-same}
use Rattle.answer_text.proofs.FormLaws.{avoids-form, left_text-same}

pub source_lines-push : (p k j : ℕ) (ws : List ℕ) (ss : List Source) (w : ℕ) (s : Source) → length ss ≡ length ws → j ≡ suc (k + length ws)
    → source_lines p k (ws ++ w ∷ []) (ss ++ s ∷ []) ≡ source_lines p k ws ss ++ source_line p j w s ∷ []
source_lines-push p k j [] [] w s long same = ap (λ (x : ℕ). source_line p x w s ∷ []) (let e : suc k ≡ j = omega arith in e)
source_lines-push p k j [] (t ∷ ss) w s long same = absurd (omega arith)
source_lines-push p k j (v ∷ ws) [] w s long same = absurd (omega arith)
source_lines-push p k j (v ∷ ws) (t ∷ ss) w s long same =
    ap (λ (x : List (List ℕ)). source_line p (suc k) v t ∷ x) (source_lines-push p (suc k) j ws ss w s (omega arith) (omega arith))

pub AreSources-push : (n : ℕ) (ws : List ℕ) (ss : List Source) (w : ℕ) (s : Source) → AreSources n ws ss → 1 ≤ w → w ≤ max_class
    → IsSource n s → length ss ≡ length ws
    → AreSources n (ws ++ w ∷ []) (ss ++ s ∷ [])
AreSources-push n [] [] w s a one top is long = (one, top, is, tt)
AreSources-push n [] (t ∷ ss) w s a one top is long = absurd (omega arith)
AreSources-push n (v ∷ ws) [] w s a one top is long = absurd (omega arith)
AreSources-push n (v ∷ ws) (t ∷ ss) w s a one top is long = (a.0, a.1, a.2, AreSources-push n ws ss w s a.3 one top is (omega arith))

source_text-same : (p n : ℕ) (s t : Source) → n < 1000 → IsSource n s → IsSource n t → source_text p s ≡ source_text p t → s ≡ t
source_text-same p n (Image a) (Image b) limit u v h = ap (λ (x : List ℕ). Image x) (ap (λ (x : List ℕ). drop 6 x) h)
source_text-same p n (Image a) (RightSide (Power j)) limit u v h = absurd (first-apart 105 97 _ _ refl h)
source_text-same p n (Image a) (RightSide (Commutator j i)) limit u v h = absurd (first-apart 105 91 _ _ refl h)
source_text-same p n (RightSide (Power j)) (Image b) limit u v h = absurd (first-apart 97 105 _ _ refl h)
source_text-same p n (RightSide (Commutator j i)) (Image b) limit u v h = absurd (first-apart 91 105 _ _ refl h)
source_text-same p n (RightSide q) (RightSide r) limit u v h =
    ap (λ (x : Relation). RightSide x) (left_text-same p n q r [] [] limit u v (ap (λ (x : List ℕ). x ++ []) h))

source_line-same : (p n k w v : ℕ) (s t : Source) → n < 1000 → w < 1000 → v < 1000 → IsSource n s → IsSource n t
    → source_line p k w s ≡ source_line p k v t → (w ≡ v) × (s ≡ t)
source_line-same p n k w v s t limit a b is it h =
    let from_weight =
    append_cancel_left (decimal k) (codes " weight " ++ (decimal w ++ (codes " from " ++ source_text p s)))
    (codes " weight " ++ (decimal v ++ (codes " from " ++ source_text p t)))
    (ap (λ (x : List ℕ). drop 11 x) h) in
    let weight =
    decimal-same 32 w v (codes "from " ++ source_text p s) (codes "from " ++ source_text p t) (λ d l e. omega arith) a b
    (ap (λ (x : List ℕ). drop 8 x) from_weight) in
    (weight.0, source_text-same p n s t limit is it (ap (λ (x : List ℕ). drop 5 x) weight.1))

pub sources-same : (p n k : ℕ) (ws vs : List ℕ) (ss ts : List Source) (more rest : List ℕ) → IsScale p n → k + length ws ≡ n
    → length ss ≡ length ws → length vs ≡ length ws → length ts ≡ length ws → AreSources n ws ss → AreSources n vs ts
    → text_of_lines (source_lines p k ws ss) ++ more ≡ text_of_lines (source_lines p k vs ts) ++ rest
    → (ws ≡ vs) × (ss ≡ ts) × (more ≡ rest)
sources-same p n k [] [] [] [] more rest z inside l m o a b h = (refl, refl, h)
sources-same p n k [] [] [] (t ∷ ts) more rest z inside l m o a b h = absurd (omega arith)
sources-same p n k [] [] (s ∷ ss) ts more rest z inside l m o a b h = absurd (omega arith)
sources-same p n k [] (v ∷ vs) ss ts more rest z inside l m o a b h = absurd (omega arith)
sources-same p n k (w ∷ ws) [] ss ts more rest z inside l m o a b h = absurd (omega arith)
sources-same p n k (w ∷ ws) (v ∷ vs) [] ts more rest z inside l m o a b h = absurd (omega arith)
sources-same p n k (w ∷ ws) (v ∷ vs) (s ∷ ss) [] more rest z inside l m o a b h = absurd (omega arith)
sources-same p n k (w ∷ ws) (v ∷ vs) (s ∷ ss) (t ∷ ts) more rest z inside l m o a b h =
    let limit : n ≤ max_rank = z.limit in
    let next : suc k + length ws ≡ n = omega arith in
    let one : HasForm (in_body p n (suc (length ws)) 0) (source_line p (suc k) w s) (in_body p n (length ws) 0) =
    generator p n 0 (length ws) k w s z next a.0 a.1 a.2 in
    let two : HasForm (in_body p n (suc (length ws)) 0) (source_line p (suc k) v t) (in_body p n (length ws) 0) =
    generator p n 0 (length ws) k v t z next b.0 b.1 b.2 in
    let whole : source_line p (suc k) w s ++ 10 ∷ (text_of_lines (source_lines p (suc k) ws ss) ++ more)
    ≡ source_line p (suc k) v t ++ 10 ∷ (text_of_lines (source_lines p (suc k) vs ts) ++ rest) =
    sym (append_assoc (source_line p (suc k) w s) (10 ∷ text_of_lines (source_lines p (suc k) ws ss)) more)
    ∙ h ∙ append_assoc (source_line p (suc k) v t) (10 ∷ text_of_lines (source_lines p (suc k) vs ts)) rest in
    let parts =
    split-same 10 (source_line p (suc k) w s) (source_line p (suc k) v t) (text_of_lines (source_lines p (suc k) ws ss) ++ more)
    (text_of_lines (source_lines p (suc k) vs ts) ++ rest)
    (avoids-form one) (avoids-form two) whole in
    let first = source_line-same p n (suc k) w v s t (omega arith) (omega (arith, a.1)) (omega (arith, b.1)) a.2 b.2 parts.0 in
    let others = sources-same p n (suc k) ws vs ss ts more rest z (omega arith) (omega arith) (omega arith) (omega arith) a.3 b.3 parts.1 in
    (ap₂ (λ (x : ℕ) (xs : List ℕ). x ∷ xs) first.0 others.0, ap₂ (λ (x : Source) (xs : List Source). x ∷ xs) first.1 others.1, others.2)

-- a definition with its image named
abbrev pub source_of : List (List ℕ) → Definition → Source
source_of names (image zero) = Image []
source_of names (image (suc i)) = Image (get_or names i [])
source_of names (commutator j i) = RightSide (Commutator j i)
source_of names (power j) = RightSide (Power j)

-- a definition that its source tells
abbrev pub IsKnown : List (List ℕ) → Definition → Type 0
IsKnown names (image zero) = ⊥
IsKnown names (image (suc i)) = i < length names
IsKnown names (commutator j i) = Unit {0}
IsKnown names (power j) = Unit {0}

abbrev pub AreKnown : List (List ℕ) → List Definition → Type 0
AreKnown names [] = Unit {0}
AreKnown names (d ∷ ds) = IsKnown names d × AreKnown names ds

resolved-same : (names : List (List ℕ)) (c d : Definition) → AreDistinct names → length names ≤ max_names → IsKnown names c
    → Resolves names (source_of names c) d → c ≡ d
resolved-same names (image zero) d distinct limit known r = absurd known
resolved-same names (image (suc i)) d distinct limit known r =
    let found = r.2 i known (omega arith) refl in
    let some : 1 ≤ r.0 = found.0 in
    let inside : r.0 ≤ length names = found.1 in
    let same : r.0 - 1 ≡ i = place_unique names (r.0 - 1) i distinct (omega arith) known found.2 in
    ap (λ (x : ℕ). image x) (let e : suc i ≡ r.0 = omega arith in e) ∙ sym r.1
resolved-same names (commutator j i) d distinct limit known r = sym r
resolved-same names (power j) d distinct limit known r = sym r

pub AreResolved-same : (names : List (List ℕ)) (cs ds : List Definition) → AreDistinct names → length names ≤ max_names → AreKnown names cs
    → AreResolved names (map (source_of names) cs) ds → cs ≡ ds
AreResolved-same names [] [] distinct limit known r = refl
AreResolved-same names [] (d ∷ ds) distinct limit known r = absurd r
AreResolved-same names (c ∷ cs) [] distinct limit known r = absurd r
AreResolved-same names (c ∷ cs) (d ∷ ds) distinct limit known r =
    ap₂ (λ (x : Definition) (xs : List Definition). x ∷ xs) (resolved-same names c d distinct limit known.0 r.0)
    (AreResolved-same names cs ds distinct limit known.1 r.1)

generator_line-source : (p k w : ℕ) (names : List (List ℕ)) (d : Definition) → IsKnown names d
    → generator_line p names k w d ≡ source_line p k w (source_of names d)
generator_line-source p k w names (image zero) known = absurd known
generator_line-source p k w names (image (suc i)) known = refl
generator_line-source p k w names (commutator j i) known = refl
generator_line-source p k w names (power j) known = refl

pub generator_lines-sources : (p k : ℕ) (names : List (List ℕ)) (ws : List ℕ) (ds : List Definition) → AreKnown names ds
    → generator_lines p names k ws ds ≡ source_lines p k ws (map (source_of names) ds)
generator_lines-sources p k names [] ds known = refl
generator_lines-sources p k names (w ∷ ws) [] known = refl
generator_lines-sources p k names (w ∷ ws) (d ∷ ds) known =
    ap₂ (λ (x : List ℕ) (xs : List (List ℕ)). x ∷ xs) (generator_line-source p (suc k) w names d known.0)
    (generator_lines-sources p (suc k) names ws ds known.1)

pub AreResolved-push : (names : List (List ℕ)) (ss : List Source) (ds : List Definition) (s : Source) (d : Definition)
    → AreResolved names ss ds → Resolves names s d
    → AreResolved names (ss ++ s ∷ []) (ds ++ d ∷ [])
AreResolved-push names [] [] s d a r = (r, tt)
AreResolved-push names [] (e ∷ ds) s d a r = absurd a
AreResolved-push names (t ∷ ss) [] s d a r = absurd a
AreResolved-push names (t ∷ ss) (e ∷ ds) s d a r = (a.0, AreResolved-push names ss ds s d a.1 r)
