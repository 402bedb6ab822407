-- What the text of a piece tells of the places at which it is split.
use Rattle.std.proofs.Common.{◌≡◌, ◌<◌, ◌≤◌, ℕ, zero, suc, true, false, List, [], ◌∷◌, ◌++◌, decimal, refl, ap, sym, ◌∙◌, arith, append-nil}
use Rattle.std.specs.Prelude.{Option, Some, None, IfNone}
use Rattle.std.proofs.lemmas.Fmt.{decimal_injective}
use Rattle.pc_presentation.specs.declared.syllable.Syllable.{Syllable}
use Rattle.answer_text.specs.Numbers.{is_digit}
use Rattle.answer_text.specs.Words.{exponent_text, IsWritten}
use Rattle.answer_text.proofs.Splits.{avoids, avoids-parts, avoids-decimal, split-same, decimal-same}
use Rattle.answer_text.proofs.texts.NumberTexts.{IsNoDigit-is_digit}

pub IfNone-of : {X : Type 0} (o : Option X) (P : Type 0) → P → IfNone o P
IfNone-of None P h = h
IfNone-of (Some x) P h = tt

pub IfNone-then : {X : Type 0} (o : Option X) (P Q : Type 0) → IfNone o P → (P → Q) → IfNone o Q
IfNone-then None P Q h f = f h
IfNone-then (Some x) P Q h f = tt

pub IfNone-at : {X : Type 0} (o : Option X) (P : Type 0) → o ≡ None → IfNone o P → P
IfNone-at None P e h = h
IfNone-at (Some x) P e h = cc

pub avoids-not : (c : ℕ) (xs ys : List ℕ) → avoids c (xs ++ c ∷ ys) ≡ true → ⊥
avoids-not c [] ys h = (avoids-parts c c ys h).0 refl
avoids-not c (x ∷ xs) ys h = avoids-not c xs ys (avoids-parts c x (xs ++ c ∷ ys) h).1

pub decimal-missing : (c n : ℕ) (t rest : List ℕ) → avoids c t ≡ true → t ≡ decimal n ++ c ∷ rest → ⊥
decimal-missing c n t rest a e = avoids-not c (decimal n) rest (ap (λ (x : List ℕ). avoids c x) (sym e) ∙ a)

-- the digits before a byte
pub decimal-before : (c n : ℕ) (t l r rest : List ℕ) → is_digit c ≡ false → t ≡ l ++ c ∷ r → avoids c l ≡ true → n < 1000
    → t ≡ decimal n ++ c ∷ rest → (l ≡ decimal n) × (r ≡ rest)
decimal-before c n t l r rest no_digit e a h g =
    split-same c l (decimal n) r rest a (avoids-decimal c n (IsNoDigit-is_digit c no_digit) h) (sym e ∙ g)

pub number-same : (m n : ℕ) → m < 1000 → n < 1000 → decimal m ≡ decimal n → m ≡ n
number-same m n h g e = decimal_injective m n (omega arith) (omega arith) e

-- the number before a byte
pub number_before-same : (c m n : ℕ) (t r rest : List ℕ) → is_digit c ≡ false → t ≡ decimal m ++ c ∷ r → m < 1000 → n < 1000
    → t ≡ decimal n ++ c ∷ rest → (m ≡ n) × (r ≡ rest)
number_before-same c m n t r rest no_digit e h g same = decimal-same c m n r rest (IsNoDigit-is_digit c no_digit) h g (sym e ∙ same)

-- a syllable without a `^`
pub syllable-plain : (t : List ℕ) (s : Syllable) → avoids 94 t ≡ true → IsWritten s → t ≡ decimal s.generator ++ exponent_text s.exponent
    → t ≡ decimal s.generator
syllable-plain t s a w e = plain s.exponent w.1 e where
  plain : (x : ℕ) → 1 ≤ x → t ≡ decimal s.generator ++ exponent_text x → t ≡ decimal s.generator
  plain zero h e = absurd (omega arith)
  plain (suc zero) h e = e ∙ append-nil (decimal s.generator)
  plain (suc (suc x)) h e = absurd (decimal-missing 94 s.generator t (decimal (suc (suc x))) a e)

-- a syllable with one
pub syllable-power : (t l r : List ℕ) (s : Syllable) → t ≡ l ++ 94 ∷ r → avoids 94 l ≡ true → IsWritten s
    → t ≡ decimal s.generator ++ exponent_text s.exponent
    → (l ≡ decimal s.generator) × (r ≡ decimal s.exponent) × (2 ≤ s.exponent)
syllable-power t l r s cut a w e = power s.exponent w.1 e where
  power : (x : ℕ) → 1 ≤ x → t ≡ decimal s.generator ++ exponent_text x → (l ≡ decimal s.generator) × (r ≡ decimal x) × (2 ≤ x)
  power zero h e = absurd (omega arith)
  power (suc zero) h e =
      let whole : l ++ 94 ∷ r ≡ decimal s.generator = sym cut ∙ e ∙ append-nil (decimal s.generator) in
      absurd (avoids-not 94 l r (ap (λ (x : List ℕ). avoids 94 x) whole ∙ avoids-decimal 94 s.generator (λ d n i. omega arith) w.0))
  power (suc (suc x)) h e =
      let parts =
      split-same 94 l (decimal s.generator) r (decimal (suc (suc x))) a (avoids-decimal 94 s.generator (λ d n i. omega arith) w.0)
      (sym cut ∙ e) in
      (parts.0, parts.1, omega arith)
