-- What the tests of a word say together: generators in range, a normal word and later generators are syllables of a right
-- side, and the other way round.
use Rattle.std.proofs.Common.{◌≡◌, ℕ, zero, suc, ◌<◌, ◌≤◌, true, ◌&&◌, List, [], ◌∷◌, refl, arith}
use Rattle.std.specs.Prelude.{All, nat_lt}
use Rattle.std.proofs.lemmas.Bool.{and_parts, and_from, ltb-true, lt-ltb}
use Rattle.pc_presentation.specs.declared.syllable.Syllable.{Syllable}
use Rattle.pc_presentation.specs.Syllable.{AreSyllables, AreGenerators, AreLater, is_normal_from}

module _ {X : Type 0} (P : X → Type 0) where
  pub All-head : (x : X) (xs : List X) → All P (x ∷ xs) → P x
  All-head x xs h = h 0 x (omega arith)

  pub All-tail : (x : X) (xs : List X) → All P (x ∷ xs) → All P xs
  All-tail x xs h = λ k d l. h (suc k) d (omega arith)

  pub All-cons : (x : X) (xs : List X) → P x → All P xs → All P (x ∷ xs)
  All-cons x xs p h zero d l = p
  All-cons x xs p h (suc k) d l = h k d (omega arith)

-- the first syllable of a normal word, and the rest
pub record IsNormalStep (p k : ℕ) (s : Syllable) (w : List Syllable) : Type 0 where
  pub rises : k < s.generator
  pub nonzero : 1 ≤ s.exponent
  pub below : s.exponent < p
  pub rest : is_normal_from p s.generator w ≡ true

pub normal_step : (p k : ℕ) (s : Syllable) (w : List Syllable) → is_normal_from p k (s ∷ w) ≡ true → IsNormalStep p k s w
normal_step p k s w h =
    let tail = is_normal_from p s.generator w in
    let first = and_parts (nat_lt k s.generator) (nat_lt 0 s.exponent && (nat_lt s.exponent p && tail)) h in
    let second = and_parts (nat_lt 0 s.exponent) (nat_lt s.exponent p && tail) first.1 in
    let third = and_parts (nat_lt s.exponent p) tail second.1 in
    record {
      rises = ltb-true k s.generator first.0;
      nonzero = ltb-true 0 s.exponent second.0;
      below = ltb-true s.exponent p third.0;
      rest = third.1;
    }

pub from_normal_step : (p k : ℕ) (s : Syllable) (w : List Syllable) → IsNormalStep p k s w → is_normal_from p k (s ∷ w) ≡ true
from_normal_step p k s w h =
    let tail = is_normal_from p s.generator w in
    and_from (nat_lt k s.generator) (nat_lt 0 s.exponent && (nat_lt s.exponent p && tail)) (lt-ltb k s.generator h.rises)
    (and_from (nat_lt 0 s.exponent) (nat_lt s.exponent p && tail) (lt-ltb 0 s.exponent h.nonzero)
    (and_from (nat_lt s.exponent p) tail (lt-ltb s.exponent p h.below) h.rest))

pub AreLater-weaken : (j k : ℕ) (w : List Syllable) → j ≤ k → AreLater k w → AreLater j w
AreLater-weaken j k w h l = λ i d m. let after = l i d m in omega arith

-- a normal word stays after the place from which it rises
pub later_from_normal : (p k : ℕ) (w : List Syllable) → is_normal_from p k w ≡ true → AreLater k w
later_from_normal p k [] h = λ i d l. absurd (omega arith)
later_from_normal p k (s ∷ w) h =
    let step : IsNormalStep p k s w = normal_step p k s w h in
    All-cons (λ (x : Syllable). k < x.generator) s w step.rises
    (AreLater-weaken k s.generator w (omega arith) (later_from_normal p s.generator w step.rest))

pub AreSyllables-from_tests : (p n j k : ℕ) (w : List Syllable) → AreGenerators n w → is_normal_from p j w ≡ true → AreLater k w
    → AreSyllables p n k w
AreSyllables-from_tests p n j k [] g h l = tt
AreSyllables-from_tests p n j k (s ∷ w) g h l =
    let step : IsNormalStep p j s w = normal_step p j s w h in
    let first = All-head (λ (x : Syllable). (1 ≤ x.generator) × (x.generator ≤ n)) s w g in (
      All-head (λ (x : Syllable). k < x.generator) s w l,
      first.1,
      step.nonzero,
      step.below,
      AreSyllables-from_tests p n s.generator s.generator w (All-tail (λ (x : Syllable). (1 ≤ x.generator) × (x.generator ≤ n)) s w g)
          step.rest (later_from_normal p s.generator w step.rest),
    )

pub AreGenerators-AreSyllables : (p n k : ℕ) (w : List Syllable) → AreSyllables p n k w → AreGenerators n w
AreGenerators-AreSyllables p n k [] a = λ i d l. absurd (omega arith)
AreGenerators-AreSyllables p n k (s ∷ w) a =
    All-cons (λ (x : Syllable). (1 ≤ x.generator) × (x.generator ≤ n)) s w (omega arith, a.1)
    (AreGenerators-AreSyllables p n s.generator w a.4)

pub normal_from-AreSyllables : (p n k : ℕ) (w : List Syllable) → AreSyllables p n k w → is_normal_from p k w ≡ true
normal_from-AreSyllables p n k [] a = refl
normal_from-AreSyllables p n k (s ∷ w) a = from_normal_step p k s w (record {
  rises = a.0;
  nonzero = a.2;
  below = a.3;
  rest = normal_from-AreSyllables p n s.generator w a.4;
})

pub AreLater-zero : (n : ℕ) (w : List Syllable) → AreGenerators n w → AreLater 0 w
AreLater-zero n w g = λ i d l. let range = g i d l in omega arith
