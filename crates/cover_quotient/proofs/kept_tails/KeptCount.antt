-- There are as many kept columns as the basis has rows less than columns.
use Rattle.std.proofs.Common.{◌≡◌, ℕ, zero, suc, ◌+◌, ◌<◌, ◌≤◌, ◌||◌, Bool, true, false, not, cond, eqb, List, [], ◌∷◌, length, filter, inl}
use Rattle.std.proofs.Common.{inr, ⊎_elim, refl, ap, ◌∙◌, subst, arith, eq-eqb, ne_eqb}
use borrow.Author.Tests.{eqb-true}
use Rattle.std.proofs.lemmas.Bool.{cases_eq, false_from_ne_true}
use Rattle.std.proofs.lemmas.List.Filters.{length-filter_both}
use Rattle.pq_base.specs.Canonical.{numbers_from}
use Rattle.fp_rows.specs.Row.{at_column}
use Rattle.fp_echelon.specs.Reduced.{BasisRow, pivots_of, IsPivot, ZeroAt, IsReduced}
use Rattle.cover_quotient.specs.Kept.{is_listed, kept_columns}
use Rattle.pq_base.proofs.NumberLists.{length-numbers_from}
use Rattle.cover_quotient.proofs.kept_tails.KeptColumns.{listed_pivot}

-- of two tests that never pass together, the one or the other
count_either : (a b : Bool) (x : ℕ) (us vs ws : List ℕ) → (a ≡ true → b ≡ false) → length us ≡ length vs + length ws
    → length (cond (a || b) (x ∷ us) us) ≡ length (cond a (x ∷ vs) vs) + length (cond b (x ∷ ws) ws)
count_either true b x us vs ws apart e =
    let one : length (cond b (x ∷ ws) ws) ≡ length ws = ap (λ (t : Bool). length (cond t (x ∷ ws) ws)) (apart refl) in
    omega arith
count_either false true x us vs ws apart e = omega arith
count_either false false x us vs ws apart e = e

length-filter_either : (f g : ℕ → Bool) → ((c : ℕ) → f c ≡ true → g c ≡ false) → (xs : List ℕ)
    → length (filter (λ c. f c || g c) xs) ≡ length (filter f xs) + length (filter g xs)
length-filter_either f g apart [] = refl
length-filter_either f g apart (x ∷ xs) =
    count_either (f x) (g x) x (filter (λ c. f c || g c) xs) (filter f xs) (filter g xs) (apart x) (length-filter_either f g apart xs)

-- one number among those from k on
none_equal : (k n a : ℕ) → a < k → length (filter (λ c. eqb c a) (numbers_from k n)) ≡ 0
none_equal k zero a h = refl
none_equal k (suc n) a h =
    ap (λ (t : Bool). length (cond t (k ∷ filter (λ c. eqb c a) (numbers_from (suc k) n)) (filter (λ c. eqb c a) (numbers_from (suc k) n))))
    (ne_eqb k a (λ e. omega arith))
    ∙ none_equal (suc k) n a (omega arith)

one_equal : (k n a : ℕ) → k ≤ a → a < k + n → length (filter (λ c. eqb c a) (numbers_from k n)) ≡ 1
one_equal k zero a h l = absurd (omega arith)
one_equal k (suc n) a h l =
    let rest : List ℕ = filter (λ c. eqb c a) (numbers_from (suc k) n) in
    ⊎_elim
    (λ same.
    ap (λ (t : Bool). length (cond t (k ∷ filter (λ c. eqb c a) (numbers_from (suc k) n)) (filter (λ c. eqb c a) (numbers_from (suc k) n))))
    (eq-eqb k a same)
    ∙ ap suc (none_equal (suc k) n a (omega arith)))
    (λ ne.
    ap (λ (t : Bool). length (cond t (k ∷ filter (λ c. eqb c a) (numbers_from (suc k) n)) (filter (λ c. eqb c a) (numbers_from (suc k) n))))
    (ne_eqb k a ne)
    ∙ one_equal (suc k) n a (let later : suc k ≤ a = omega arith in later) (omega arith))
    (cases_eq k a)

module _ (p width : ℕ) where
  -- a pivot of which the other rows have 0 is no pivot of theirs
  not_again : (c : ℕ) (bs : List BasisRow) → IsReduced p width bs → ZeroAt c bs → IsPivot c bs → ⊥
  not_again c [] reduced none h = h
  not_again c (b ∷ bs) reduced none (inl e) =
      let one = reduced.0.one in
      let nothing : at_column b.row b.pivot ≡ 0 = ap (at_column b.row) e ∙ none.0 in
      omega arith
  not_again c (b ∷ bs) reduced none (inr h) = not_again c bs reduced.2 none.1 h

  count_pivots : (bs : List BasisRow) → IsReduced p width bs
      → length (filter (λ c. is_listed c (pivots_of bs)) (numbers_from 1 width)) ≡ length bs
  count_pivots [] reduced = none_pass (numbers_from 1 width)
    where
      none_pass : (xs : List ℕ) → length (filter (λ c. is_listed c (pivots_of [])) xs) ≡ 0
      none_pass [] = refl
      none_pass (x ∷ xs) = none_pass xs
  count_pivots (b ∷ bs) reduced =
      let least = reduced.0.last.column.first in
      let most = reduced.0.last.column.last in
      let wide = reduced.0.fits.count in
      let apart : (c : ℕ) → eqb c b.pivot ≡ true → is_listed c (pivots_of bs) ≡ false =
      λ c e.
      false_from_ne_true (is_listed c (pivots_of bs))
      (λ listed. not_again b.pivot bs reduced.2 reduced.1.others
      (subst (λ (d : ℕ). IsPivot d bs) (eqb-true c b.pivot e) (listed_pivot c bs listed))) in
      let one : length (filter (λ c. eqb c b.pivot) (numbers_from 1 width)) ≡ 1 = one_equal 1 width b.pivot least (omega arith) in
      let rest = count_pivots bs reduced.2 in
      let both = length-filter_either (λ c. eqb c b.pivot) (λ c. is_listed c (pivots_of bs)) apart (numbers_from 1 width) in
      omega arith

  pub length-kept_columns : (bs : List BasisRow) → IsReduced p width bs → length (kept_columns width bs) + length bs ≡ width
  length-kept_columns bs reduced =
      let pivots = count_pivots bs reduced in
      let numbers = length-numbers_from 1 width in
      let both =
      length-filter_both (λ c. is_listed c (pivots_of bs)) (λ c. not (is_listed c (pivots_of bs))) (λ c. refl) (numbers_from 1 width) in
      omega arith
