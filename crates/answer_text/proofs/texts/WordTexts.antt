-- Words with equal texts are equal, and so are lists of exponents whose words have equal texts.
use Rattle.std.proofs.Common.{◌≡◌, ◌≢◌, ◌<◌, ◌≤◌, ◌+◌, ℕ, zero, suc, true, List, [], ◌∷◌, ◌++◌, length, drop, decimal, refl, ap, ap₂, sym}
use Rattle.std.proofs.Common.{◌∙◌, arith, append_assoc}
use Rattle.std.specs.Prelude.{codes}
use Rattle.pq_base.specs.Table.{AllBelow}
use Rattle.pc_presentation.specs.declared.syllable.Syllable.{Syllable}
use Rattle.pc_presentation.specs.Syllable.{syllable, spread, syllables_of}
use Rattle.pc_presentation.proofs.presentations.SyllableLaws.{spread-syllables_of}
use Rattle.answer_text.specs.Words.{exponent_text, syllable_text, further_text, word_text}
pub use Rattle.answer_text.specs.Words.{IsWritten}
use Rattle.answer_text.proofs.Splits.{first-apart, nil-split, avoids, avoids-cons, avoids-append, avoids-decimal, split-same, decimal-same}

-- what stands behind the first `^`, where one more ends the exponent
abbrev after_power : ℕ → List ℕ
after_power zero = codes "0^"
after_power (suc zero) = []
after_power (suc (suc e)) = decimal (suc (suc e)) ++ 94 ∷ []

exponent_text-ended : (e : ℕ) → exponent_text e ++ 94 ∷ [] ≡ 94 ∷ after_power e
exponent_text-ended zero = refl
exponent_text-ended (suc zero) = refl
exponent_text-ended (suc (suc e)) = refl

after_power-same : (e f : ℕ) → 1 ≤ e → 1 ≤ f → e < 1000 → f < 1000 → after_power e ≡ after_power f → e ≡ f
after_power-same zero f a b c d h = absurd (omega arith)
after_power-same (suc e) zero a b c d h = absurd (omega arith)
after_power-same (suc zero) (suc zero) a b c d h = refl
after_power-same (suc zero) (suc (suc f)) a b c d h = absurd (nil-split 94 (decimal (suc (suc f))) [] h)
after_power-same (suc (suc e)) (suc zero) a b c d h = absurd (nil-split 94 (decimal (suc (suc e))) [] (sym h))
after_power-same (suc (suc e)) (suc (suc f)) a b c d h = (decimal-same 94 (suc (suc e)) (suc (suc f)) [] [] (λ n l i. omega arith) c d h).0

abbrev pub AreWritten : List Syllable → Type 0
AreWritten [] = Unit {0}
AreWritten (s ∷ w) = IsWritten s × AreWritten w

syllable_text-ended : (g e : ℕ) → (decimal g ++ exponent_text e) ++ 94 ∷ [] ≡ decimal g ++ (94 ∷ after_power e)
syllable_text-ended g e = append_assoc (decimal g) (exponent_text e) (94 ∷ []) ∙ ap (λ (x : List ℕ). decimal g ++ x) (exponent_text-ended e)

pub syllable_text-same : (s t : Syllable) → IsWritten s → IsWritten t → syllable_text s ≡ syllable_text t → s ≡ t
syllable_text-same s t a b h =
    let low : s.exponent < 1000 = omega (arith, a.2) in
    let high : t.exponent < 1000 = omega (arith, b.2) in
    let ended : (decimal s.generator ++ exponent_text s.exponent) ++ 94 ∷ []
    ≡ (decimal t.generator ++ exponent_text t.exponent) ++ 94 ∷ [] =
    ap (λ (x : List ℕ). drop 1 x ++ 94 ∷ []) h in
    let parts = decimal-same 94 s.generator t.generator (after_power s.exponent) (after_power t.exponent) (λ n l i. omega arith) a.0 b.0
    (sym (syllable_text-ended s.generator s.exponent) ∙ ended ∙ syllable_text-ended t.generator t.exponent) in
    ap₂ (λ (g e : ℕ). syllable g e) parts.0 (after_power-same s.exponent t.exponent a.1 b.1 low high parts.1)

-- a byte that words don't have
pub record IsOutside (c : ℕ) : Type 0 where
  pub no_digit : (d : ℕ) → d < 10 → 48 + d ≢ c
  pub no_letter : 97 ≢ c
  pub no_power : 94 ≢ c

avoids-exponent : (c e : ℕ) → IsOutside c → 1 ≤ e → e < 1000 → avoids c (exponent_text e) ≡ true
avoids-exponent c zero o h l = absurd (omega arith)
avoids-exponent c (suc zero) o h l = refl
avoids-exponent c (suc (suc e)) o h l = avoids-cons c 94 (decimal (suc (suc e))) o.no_power (avoids-decimal c (suc (suc e)) o.no_digit l)

pub avoids-generator : (c g : ℕ) → IsOutside c → g < 1000 → avoids c (97 ∷ decimal g) ≡ true
avoids-generator c g o h = avoids-cons c 97 (decimal g) o.no_letter (avoids-decimal c g o.no_digit h)

pub avoids-syllable : (c : ℕ) (s : Syllable) → IsOutside c → IsWritten s → avoids c (syllable_text s) ≡ true
avoids-syllable c s o a =
    avoids-append c (97 ∷ decimal s.generator) (exponent_text s.exponent) (avoids-generator c s.generator o a.0)
    (avoids-exponent c s.exponent o a.1 (omega (arith, a.2)))

pub newline : IsOutside 10
newline = record { no_digit = λ d l e. omega arith; no_letter = λ e. omega arith; no_power = λ e. omega arith }

avoids-further : (w : List Syllable) → AreWritten w → avoids 10 (further_text w) ≡ true
avoids-further [] a = refl
avoids-further (s ∷ w) a = avoids-append 10 (syllable_text s) (further_text w) (avoids-syllable 10 s newline a.0) (avoids-further w a.1)

pub star : IsOutside 42
star = record { no_digit = λ d l e. omega arith; no_letter = λ e. omega arith; no_power = λ e. omega arith }

pub avoids-word : (w : List Syllable) → AreWritten w → avoids 10 (word_text w) ≡ true
avoids-word [] a = refl
avoids-word (s ∷ w) a = avoids-append 10 (syllable_text s) (further_text w) (avoids-syllable 10 s newline a.0) (avoids-further w a.1)

-- what stands behind the first star, where one more ends the word
abbrev after_star : List Syllable → List ℕ
after_star [] = []
after_star (s ∷ w) = syllable_text s ++ (further_text w ++ 42 ∷ [])

further_text-ended : (w : List Syllable) → further_text w ++ 42 ∷ [] ≡ 42 ∷ after_star w
further_text-ended [] = refl
further_text-ended (s ∷ w) = ap (λ (x : List ℕ). 42 ∷ x) (append_assoc (syllable_text s) (further_text w) (42 ∷ []))

after_star-same : (v w : List Syllable) → AreWritten v → AreWritten w → after_star v ≡ after_star w → v ≡ w
after_star-same [] [] a b h = refl
after_star-same [] (t ∷ w) a b h = cc
after_star-same (s ∷ v) [] a b h = cc
after_star-same (s ∷ v) (t ∷ w) a b h =
    let split : syllable_text s ++ 42 ∷ after_star v ≡ syllable_text t ++ 42 ∷ after_star w =
    ap (λ (x : List ℕ). syllable_text s ++ x) (sym (further_text-ended v))
    ∙ h ∙ ap (λ (x : List ℕ). syllable_text t ++ x) (further_text-ended w) in
    let parts =
    split-same 42 (syllable_text s) (syllable_text t) (after_star v) (after_star w) (avoids-syllable 42 s star a.0)
    (avoids-syllable 42 t star b.0) split in
    ap₂ (λ (z : Syllable) (zs : List Syllable). z ∷ zs) (syllable_text-same s t a.0 b.0 parts.0) (after_star-same v w a.1 b.1 parts.1)

pub word_text-same : (v w : List Syllable) → AreWritten v → AreWritten w → word_text v ≡ word_text w → v ≡ w
word_text-same [] [] a b h = refl
word_text-same [] (t ∷ w) a b h = absurd (first-apart 49 97 _ _ refl h)
word_text-same (s ∷ v) [] a b h = absurd (first-apart 97 49 _ _ refl h)
word_text-same (s ∷ v) (t ∷ w) a b h =
    after_star-same (s ∷ v) (t ∷ w) a b
    (sym (append_assoc (syllable_text s) (further_text v) (42 ∷ []))
    ∙ ap (λ (x : List ℕ). x ++ 42 ∷ []) h ∙ append_assoc (syllable_text t) (further_text w) (42 ∷ []))

pub AreWritten-syllables_of : (p k : ℕ) (e : List ℕ) → p ≤ 100 → k + length e < 1000 → AllBelow p e → AreWritten (syllables_of k e)
AreWritten-syllables_of p k [] small h b = tt
AreWritten-syllables_of p k (zero ∷ es) small h b = AreWritten-syllables_of p (suc k) es small (omega arith) b.1
AreWritten-syllables_of p k (suc x ∷ es) small h b =
    ((omega arith, omega arith, omega (arith, b.0)), AreWritten-syllables_of p (suc k) es small (omega arith) b.1)

pub syllables_of-same : (k : ℕ) (e f : List ℕ) → length e ≡ length f → syllables_of k e ≡ syllables_of k f → e ≡ f
syllables_of-same k e f long h =
    sym (spread-syllables_of k e) ∙ ap₂ (λ (n : ℕ) (w : List Syllable). spread n k w) long h ∙ spread-syllables_of k f
