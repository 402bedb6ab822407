-- Sparse words of exponents in parts: one list behind another, zeros, and one exponent more.
use Rattle.std.proofs.Common.{◌≡◌, ℕ, zero, suc, ◌+◌, ◌-◌, ◌<◌, List, [], ◌∷◌, ◌++◌, length, map, get_or, take, replicate, refl, ap, sym}
use Rattle.std.proofs.Common.{◌∙◌, append_assoc, append-nil, arith, add-one}
use Rattle.std.proofs.Math.Seq.{take-suc}
use Rattle.std.proofs.lemmas.List.{map_push, length-map, length-take-le}
use Rattle.pc_presentation.specs.declared.syllable.Syllable.{Syllable}
use Rattle.pc_presentation.specs.Syllable.{syllable, syllables_of}

pub syllables_of-append : (k : ℕ) (e f : List ℕ) → syllables_of k (e ++ f) ≡ syllables_of k e ++ syllables_of (k + length e) f
syllables_of-append k [] f = let same : k ≡ k + 0 = omega arith in ap (λ (n : ℕ). syllables_of n f) same
syllables_of-append k (zero ∷ e) f =
    let same : suc k + length e ≡ k + suc (length e) = omega arith in
    syllables_of-append (suc k) e f ∙ ap (λ (n : ℕ). syllables_of (suc k) e ++ syllables_of n f) same
syllables_of-append k (suc x ∷ e) f =
    let same : suc k + length e ≡ k + suc (length e) = omega arith in
    ap (λ (w : List Syllable). syllable (suc k) (suc x) ∷ w)
    (syllables_of-append (suc k) e f ∙ ap (λ (n : ℕ). syllables_of (suc k) e ++ syllables_of n f) same)

pub syllables_of-zeros : (k n : ℕ) → syllables_of k (replicate n 0) ≡ []
syllables_of-zeros k zero = refl
syllables_of-zeros k (suc n) = syllables_of-zeros (suc k) n

-- what is written of the entries of a list, one by one, behind a word
module _ (f : ℕ → ℕ) (n : ℕ) (xs : List ℕ) (start : List Syllable) where
  abbrev pub Written : ℕ → List Syllable → Type 0
  Written k w = w ≡ start ++ syllables_of n (map f (take k xs))

  pub written-none : Written 0 start
  written-none = sym (append-nil start)

  pub written-more : (k y : ℕ) (w v : List Syllable) → k < length xs → Written k w → y ≡ f (get_or xs k 0)
      → v ≡ w ++ syllables_of (n + k + 1 - 1) (y ∷ []) → Written (k + 1) v
  written-more k y w v l h e same =
      let place : n + k + 1 - 1 ≡ n + length (map f (take k xs)) =
      let a = length-map (take k xs) f in let b = length-take-le k xs (omega arith) in omega arith in
      same
      ∙ ap (λ (u : List Syllable). u ++ syllables_of (n + k + 1 - 1) (y ∷ [])) h
      ∙ append_assoc start (syllables_of n (map f (take k xs))) (syllables_of (n + k + 1 - 1) (y ∷ []))
      ∙ ap (λ (u : List Syllable). start ++ u)
      (ap (λ (m : ℕ). syllables_of n (map f (take k xs)) ++ syllables_of m (y ∷ [])) place
      ∙ sym (syllables_of-append n (map f (take k xs)) (y ∷ []))
      ∙ ap (λ (z : ℕ). syllables_of n (map f (take k xs) ++ z ∷ [])) e
      ∙ ap (syllables_of n) (sym (map_push f (take k xs) (get_or xs k 0))
      ∙ ap (map f) (sym (take-suc xs k 0 l) ∙ ap (λ (m : ℕ). take m xs) (sym (add-one k)))))
