-- A text is split at the first place of a byte, and before it there is no such byte.
use Rattle.std.proofs.Common.{◌≡◌, ℕ, ◌<◌, ◌≤◌, zero, suc, Bool, true, false, cond, ltb, eqb, ◌+◌, ◌-◌, List, [], ◌∷◌, ◌++◌, length, get_or}
use Rattle.std.proofs.Common.{position, take, drop, drop-cons, Some, None, refl, sym, ap, ◌∙◌, inl, inr, arith}
use Rattle.std.specs.Prelude.{◌==◌}
use Rattle.std.specs.List.{position_or_len}
use Rattle.std.proofs.lemmas.List.Quantifiers.{position-Some}
use Rattle.std.proofs.lemmas.Bool.{cases_Bool, ltb-false}
use Rattle.std.proofs.lemmas.List.Sums.{fails_before_first}
use Rattle.std.proofs.lemmas.List.{take-append-drop, take_rest}
use borrow.Author.Tests.{eqb-true, eqb-false}
use Rattle.answer_text.proofs.Splits.{avoids, avoids-cons}

avoids-take : (c i : ℕ) (xs : List ℕ) → i ≤ length xs → ((k : ℕ) → k < i → eqb (get_or xs k 0) c ≡ false) → avoids c (take i xs) ≡ true
avoids-take c zero xs h f = refl
avoids-take c (suc i) [] h f = absurd (omega arith)
avoids-take c (suc i) (x ∷ xs) h f =
    avoids-cons c x (take i xs) (eqb-false x c (f 0 (omega arith))) (avoids-take c i xs (omega arith) (λ k l. f (suc k) (omega arith)))

avoids-each : (c : ℕ) (xs : List ℕ) → ((k : ℕ) → k < length xs → eqb (get_or xs k 0) c ≡ false) → avoids c xs ≡ true
avoids-each c [] f = refl
avoids-each c (x ∷ xs) f = avoids-cons c x xs (eqb-false x c (f 0 (omega arith))) (avoids-each c xs (λ k l. f (suc k) (omega arith)))

pub avoids-before : (c i : ℕ) (xs : List ℕ) → position (λ b. b == c) xs ≡ Some i → avoids c (take i xs) ≡ true
avoids-before c i xs e =
    let found = position-Some (λ (b : ℕ). b == c) xs i 0 e in
    let inside : i < length xs = found.0 in
    avoids-take c i xs (omega arith) found.2

pub avoids-nowhere : (c : ℕ) (xs : List ℕ) → position (λ b. b == c) xs ≡ None → avoids c xs ≡ true
avoids-nowhere c xs e =
    let n = position_or_len (λ (b : ℕ). b == c) xs in
    let none : ltb n (length xs) ≡ false = elim (cases_Bool (ltb n (length xs))) [
      | inl t ↦ absurd (let f : Some n ≡ None = ap (λ (b : Bool). cond b (Some n) None) (sym t) ∙ e in cc)
      | inr f ↦ f
    ] in
    let long : length xs ≤ n = ltb-false n (length xs) none in
    avoids-each c xs (λ k h. fails_before_first (λ (b : ℕ). b == c) xs k 0 (omega arith))

split-place : (xs : List ℕ) (i j c : ℕ) → i < length xs → j ≡ suc i → get_or xs i 0 ≡ c
    → xs ≡ take i xs ++ c ∷ take (length xs - j) (drop j xs)
split-place xs i j c h next same =
    sym (take-append-drop i xs)
    ∙ ap (λ (t : List ℕ). take i xs ++ t) (drop-cons xs i 0 h)
    ∙ ap (λ (b : ℕ). take i xs ++ b ∷ drop (suc i) xs) same
    ∙ ap (λ (k : ℕ). take i xs ++ c ∷ drop k xs) (sym next)
    ∙ ap (λ (t : List ℕ). take i xs ++ c ∷ t) (sym (take_rest xs j))

pub split-first : (c i : ℕ) (xs : List ℕ) → position (λ b. b == c) xs ≡ Some i
    → xs ≡ take i xs ++ c ∷ take (length xs - (i + 1)) (drop (i + 1) xs)
split-first c i xs e =
    let found = position-Some (λ (b : ℕ). b == c) xs i 0 e in
    split-place xs i (i + 1) c found.0 (omega arith) (eqb-true (get_or xs i 0) c found.1)
