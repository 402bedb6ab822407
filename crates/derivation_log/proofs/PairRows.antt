-- Pairs of successive numbers with their coefficients, read as a row, are the coefficients.
use Rattle.std.proofs.Common.{◌≡◌, ◌≢◌, ◌+◌, ◌-◌, ◌<◌, ◌≤◌, ℕ, zero, suc, Bool, cond, List, [], ◌∷◌, ◌++◌, get_or, length, refl, ap, ◌∙◌}
use Rattle.std.proofs.Common.{subst, arith, eq-eqb, ne_eqb, inl, inr}
use Rattle.std.proofs.lemmas.Bool.{cases_eq}
use Rattle.std.proofs.lemmas.List.{ext_get_or, length-map}
use Rattle.pq_base.specs.Table.{AllBelow}
use Rattle.pq_base.specs.Canonical.{numbers_from}
use Rattle.pq_base.proofs.NumberLists.{length-numbers_from, get_or-map_numbers}
use Rattle.fp_rows.specs.Row.{at_column}
use Rattle.derivation_log.specs.CertificateRuns.{coefficient_in, row_of_pairs}
use Rattle.derivation_log.specs.HeldLines.{pair_unless_zero, pairs_of}
use Rattle.derivation_log.proofs.PairForms.{at_least_next}

pub AllBelow-from_entries : (p : ℕ) (xs : List ℕ) → ((i : ℕ) → i < length xs → get_or xs i 0 < p) → AllBelow p xs
AllBelow-from_entries p [] below = tt
AllBelow-from_entries p (x ∷ xs) below = (below 0 (omega arith), AllBelow-from_entries p xs (λ i l. below (suc i) (omega arith)))

-- one number before others
coefficient-here : (a e : ℕ) (rest : List (ℕ × ℕ)) → coefficient_in rest a ≡ 0 → coefficient_in (pair_unless_zero a e ++ rest) a ≡ e
coefficient-here a zero rest none = none
coefficient-here a (suc e) rest none = ap (λ (b : Bool). cond b (suc e) (coefficient_in rest a)) (eq-eqb a a refl)

coefficient-other : (a e t : ℕ) (rest : List (ℕ × ℕ)) → a ≢ t → coefficient_in (pair_unless_zero a e ++ rest) t ≡ coefficient_in rest t
coefficient-other a zero t rest ne = refl
coefficient-other a (suc e) t rest ne = ap (λ (b : Bool). cond b (suc e) (coefficient_in rest t)) (ne_eqb a t ne)

module _ (f : ℕ → ℕ) where
  coefficient-before : (n a t : ℕ) → t < a → coefficient_in (pairs_of f (numbers_from a n)) t ≡ 0
  coefficient-before zero a t l = refl
  coefficient-before (suc n) a t l =
      coefficient-other a (f a) t (pairs_of f (numbers_from (suc a) n)) (λ same. let e : a ≡ t = same in absurd (omega arith))
      ∙ coefficient-before n (suc a) t (omega arith)

  coefficient-at : (n a t : ℕ) → a ≤ t → t < a + n → coefficient_in (pairs_of f (numbers_from a n)) t ≡ f t
  coefficient-at zero a t l m = absurd (omega arith)
  coefficient-at (suc n) a t l m =
      elim (cases_eq a t) [
        | inl here ↦
            subst (λ (k : ℕ). coefficient_in (pairs_of f (numbers_from a (suc n))) k ≡ f k) here
            (coefficient-here a (f a) (pairs_of f (numbers_from (suc a) n)) (coefficient-before n (suc a) a (omega arith)))
        | inr other ↦
            coefficient-other a (f a) t (pairs_of f (numbers_from (suc a) n)) other
            ∙ coefficient-at n (suc a) t (at_least_next a t l other) (omega arith)
      ]

  pub get_or-row_of_pairs : (n i : ℕ) → i < n → get_or (row_of_pairs n (pairs_of f (numbers_from 1 n))) i 0 ≡ f (1 + i)
  get_or-row_of_pairs n i l =
      get_or-map_numbers (coefficient_in (pairs_of f (numbers_from 1 n))) 1 n i 0 l ∙ coefficient-at n 1 (1 + i) (omega arith) (omega arith)

pub length-row_of_pairs : (n : ℕ) (pairs : List (ℕ × ℕ)) → length (row_of_pairs n pairs) ≡ n
length-row_of_pairs n pairs = length-map (numbers_from 1 n) (coefficient_in pairs) ∙ length-numbers_from 1 n

-- the pairs of the entries of a row are the row
pub row_of_pairs-entries : (xs : List ℕ) → row_of_pairs (length xs) (pairs_of (at_column xs) (numbers_from 1 (length xs))) ≡ xs
row_of_pairs-entries xs =
    ext_get_or 0 (row_of_pairs (length xs) (pairs_of (at_column xs) (numbers_from 1 (length xs)))) xs
    (length-row_of_pairs (length xs) (pairs_of (at_column xs) (numbers_from 1 (length xs))))
    (λ i l.
    let long = length-row_of_pairs (length xs) (pairs_of (at_column xs) (numbers_from 1 (length xs))) in
    let place : 1 + i - 1 ≡ i = omega arith in
    get_or-row_of_pairs (at_column xs) (length xs) i (omega arith) ∙ ap (λ (k : ℕ). get_or xs k 0) place)
