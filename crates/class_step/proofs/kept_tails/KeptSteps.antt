-- One column more: it is kept where it is no pivot.
use Rattle.std.proofs.Common.{◌≡◌, ℕ, ◌+◌, Bool, not, cond, List, [], ◌∷◌, ◌++◌, filter, ap, ◌∙◌, append-nil}
use Rattle.std.proofs.lemmas.Bool.{false_from_ne_true}
use Rattle.std.proofs.lemmas.List.Elements.{filter-append}
use Rattle.pq_base.specs.Canonical.{numbers_from}
use Rattle.fp_echelon.specs.Reduced.{BasisRow, pivots_of, IsPivot}
use Rattle.pq_base.proofs.NumberLists.{numbers-more}
use Rattle.cover_quotient.specs.Kept.{is_listed, kept_columns}
use Rattle.cover_quotient.proofs.kept_tails.KeptColumns.{listed_pivot, pivot_listed}

module _ (k : ℕ) (bs : List BasisRow) where
  one-more : kept_columns (k + 1) bs ≡ kept_columns k bs ++ cond (not (is_listed (k + 1) (pivots_of bs))) ((k + 1) ∷ []) []
  one-more =
      ap (filter (λ c. not (is_listed c (pivots_of bs)))) (numbers-more k)
      ∙ filter-append (λ c. not (is_listed c (pivots_of bs))) (numbers_from 1 k) ((k + 1) ∷ [])

  pub kept_columns-kept : (IsPivot (k + 1) bs → ⊥) → kept_columns (k + 1) bs ≡ kept_columns k bs ++ (k + 1) ∷ []
  kept_columns-kept none =
      one-more
      ∙ ap (λ (b : Bool). kept_columns k bs ++ cond (not b) ((k + 1) ∷ []) [])
      (false_from_ne_true (is_listed (k + 1) (pivots_of bs)) (λ e. none (listed_pivot (k + 1) bs e)))

  pub kept_columns-pivot : IsPivot (k + 1) bs → kept_columns (k + 1) bs ≡ kept_columns k bs
  kept_columns-pivot pivot =
      one-more
      ∙ ap (λ (b : Bool). kept_columns k bs ++ cond (not b) ((k + 1) ∷ []) []) (pivot_listed (k + 1) bs pivot)
      ∙ append-nil (kept_columns k bs)
