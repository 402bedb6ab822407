-- The kept columns are the columns without a pivot, in rising order, and with the pivots they are all columns.
use Rattle.std.proofs.Common.{◌≡◌, ◌⊎◌, ℕ, suc, ◌+◌, ◌-◌, ◌<◌, ◌≤◌, ◌||◌, Bool, true, false, not, eqb, List, [], ◌∷◌, length, get_or, inl}
use Rattle.std.proofs.Common.{inr, ⊎_elim, refl, ap, sym, arith, eq-eqb}
use borrow.Author.Tests.{eqb-true}
use Rattle.std.specs.List.{All, Contains}
use Rattle.std.specs.List.Sorted.{IsStrictlyIncreasing}
use Rattle.std.proofs.lemmas.Bool.{false_from_ne_true}
use Rattle.std.proofs.lemmas.List.Elements.{All-filter, filter_passes}
use Rattle.std.proofs.lemmas.List.Kept.{IsStrictlyIncreasing-filter}
use Rattle.pq_base.specs.Canonical.{numbers_from}
use Rattle.fp_echelon.specs.Reduced.{BasisRow, pivots_of, IsPivot}
use Rattle.pq_base.proofs.NumberLists.{length-numbers_from, get_or-numbers_from, Contains-numbers_from}
use Rattle.p_cover.proofs.ListPairs.{Contains-filter}
use Rattle.cover_quotient.specs.Kept.{is_listed, kept_columns}

-- a number between the bounds
record IsBetween (least most c : ℕ) : Type 0 where
  pub first : least ≤ c
  pub last : c ≤ most

numbers-between : (a n m : ℕ) → a + n ≤ suc m → All (IsBetween a m) (numbers_from a n)
numbers-between a n m h k d within =
    let long = length-numbers_from a n in
    let entry = get_or-numbers_from a n k d (omega arith) in
    record { first = omega arith; last = omega arith }

-- pivots that are listed
either_true : (a b : Bool) → a || b ≡ true → (a ≡ true) ⊎ (b ≡ true)
either_true true b e = inl refl
either_true false b e = inr e

or-right : (a b : Bool) → b ≡ true → a || b ≡ true
or-right true b e = refl
or-right false b e = e

pub listed_pivot : (c : ℕ) (bs : List BasisRow) → is_listed c (pivots_of bs) ≡ true → IsPivot c bs
listed_pivot c [] e = cc
listed_pivot c (b ∷ bs) e =
    ⊎_elim (λ here. inl (sym (eqb-true c b.pivot here))) (λ later. inr (listed_pivot c bs later))
    (either_true (eqb c b.pivot) (is_listed c (pivots_of bs)) e)

pub pivot_listed : (c : ℕ) (bs : List BasisRow) → IsPivot c bs → is_listed c (pivots_of bs) ≡ true
pivot_listed c [] h = elim h [ ]
pivot_listed c (b ∷ bs) (inl e) = ap (λ (t : Bool). t || is_listed c (pivots_of bs)) (eq-eqb c b.pivot (sym e))
pivot_listed c (b ∷ bs) (inr h) = or-right (eqb c b.pivot) (is_listed c (pivots_of bs)) (pivot_listed c bs h)

not_true : (b : Bool) → not b ≡ true → b ≡ true → ⊥
not_true true e h = cc
not_true false e h = cc

-- a column that is no pivot
pub record IsKept (width : ℕ) (bs : List BasisRow) (c : ℕ) : Type 0 where
  pub first : 1 ≤ c
  pub last : c ≤ width
  pub no_pivot : IsPivot c bs → ⊥

module _ (width : ℕ) (bs : List BasisRow) where
  abbrev kept : ℕ → Bool
  kept c = not (is_listed c (pivots_of bs))

  -- each kept column is such a one
  pub all_kept : All (IsKept width bs) (kept_columns width bs)
  all_kept k d within =
      let between = All-filter kept (IsBetween 1 width) (numbers_from 1 width) (numbers-between 1 width width (omega arith)) k d within in
      let passes = filter_passes kept (numbers_from 1 width) k d within in
      record {
        first = between.first;
        last = between.last;
        no_pivot =
            λ h. not_true (is_listed (get_or (kept_columns width bs) k d) (pivots_of bs)) passes
            (pivot_listed (get_or (kept_columns width bs) k d) bs h);
      }

  pub kept_at : (i : ℕ) → i < length (kept_columns width bs) → IsKept width bs (get_or (kept_columns width bs) i 0)
  kept_at i l = all_kept i 0 l

  -- and each such column is kept
  pub contains_kept : (c : ℕ) → IsKept width bs c → Contains (kept_columns width bs) c
  contains_kept c h =
      let first = h.first in
      let last = h.last in
      let not_listed : is_listed c (pivots_of bs) ≡ false =
      false_from_ne_true (is_listed c (pivots_of bs)) (λ e. h.no_pivot (listed_pivot c bs e)) in
      Contains-filter kept (numbers_from 1 width) c (Contains-numbers_from 1 width c first (omega arith)) (ap not not_listed)

  numbers_rise : IsStrictlyIncreasing (numbers_from 1 width)
  numbers_rise k within =
      let long = length-numbers_from 1 width in
      let low = get_or-numbers_from 1 width k 0 (omega arith) in
      let high = get_or-numbers_from 1 width (k + 1) 0 (omega arith) in
      omega arith

  pub kept_columns_rise : IsStrictlyIncreasing (kept_columns width bs)
  kept_columns_rise = IsStrictlyIncreasing-filter kept (numbers_from 1 width) numbers_rise
