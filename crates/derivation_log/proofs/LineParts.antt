-- Pairs of numbers and coefficients, and lines of pivots, grow by one at the end.
use Rattle.std.proofs.Common.{◌≡◌, ℕ, ◌+◌, Bool, cond, List, [], ◌∷◌, ◌++◌, map, filter, ap, sym, ◌∙◌, append-nil}
use Rattle.std.proofs.lemmas.Bool.{false_from_ne_true}
use Rattle.std.proofs.lemmas.List.{map-append}
use Rattle.std.proofs.lemmas.List.Elements.{filter-append}
use Rattle.std.proofs.lemmas.Grind.{flat_map-append}
use Rattle.pq_base.specs.Canonical.{numbers_from}
use Rattle.pq_base.proofs.NumberLists.{numbers-more}
use Rattle.fp_echelon.specs.Reduced.{BasisRow, pivots_of, IsPivot}
use Rattle.cover_quotient.specs.Kept.{is_listed}
use Rattle.cover_quotient.proofs.kept_tails.KeptColumns.{listed_pivot, pivot_listed}
use Rattle.derivation_log.specs.HeldLines.{pair_unless_zero, pairs_of, tail_line, tail_lines, pivot_columns}

pub pairs-more : (f : ℕ → ℕ) (n : ℕ)
    → pairs_of f (numbers_from 1 (n + 1)) ≡ pairs_of f (numbers_from 1 n) ++ pair_unless_zero (n + 1) (f (n + 1))
pairs-more f n =
    ap (pairs_of f) (numbers-more n)
    ∙ flat_map-append (λ (k : ℕ). pair_unless_zero k (f k)) (numbers_from 1 n) ((n + 1) ∷ [])
    ∙ ap (λ (ps : List (ℕ × ℕ)). pairs_of f (numbers_from 1 n) ++ ps) (append-nil (pair_unless_zero (n + 1) (f (n + 1))))

pub pairs-step : (f : ℕ → ℕ) (n e : ℕ) (before after : List (ℕ × ℕ)) → before ≡ pairs_of f (numbers_from 1 n) → e ≡ f (n + 1)
    → after ≡ before ++ pair_unless_zero (n + 1) e → after ≡ pairs_of f (numbers_from 1 (n + 1))
pairs-step f n e before after so_far entry pushed =
    pushed
    ∙ ap (λ (ps : List (ℕ × ℕ)). ps ++ pair_unless_zero (n + 1) e) so_far
    ∙ ap (λ (x : ℕ). pairs_of f (numbers_from 1 n) ++ pair_unless_zero (n + 1) x) entry
    ∙ sym (pairs-more f n)

module _ (p n : ℕ) (bs : List BasisRow) where
  one-more : pivot_columns (n + 1) bs ≡ pivot_columns n bs ++ cond (is_listed (n + 1) (pivots_of bs)) ((n + 1) ∷ []) []
  one-more =
      ap (filter (λ t. is_listed t (pivots_of bs))) (numbers-more n)
      ∙ filter-append (λ t. is_listed t (pivots_of bs)) (numbers_from 1 n) ((n + 1) ∷ [])

  -- where the next column is a pivot, its line comes behind
  pub lines-pivot : IsPivot (n + 1) bs → tail_lines p (n + 1) bs ≡ tail_lines p n bs ++ tail_line p bs (n + 1) ∷ []
  lines-pivot pivot =
      ap (map (tail_line p bs))
      (one-more ∙ ap (λ (b : Bool). pivot_columns n bs ++ cond b ((n + 1) ∷ []) []) (pivot_listed (n + 1) bs pivot))
      ∙ map-append (tail_line p bs) (pivot_columns n bs) ((n + 1) ∷ [])

  -- and where it is none, nothing does
  pub lines-no_pivot : (IsPivot (n + 1) bs → ⊥) → tail_lines p (n + 1) bs ≡ tail_lines p n bs
  lines-no_pivot none =
      ap (map (tail_line p bs))
      (one-more
      ∙ ap (λ (b : Bool). pivot_columns n bs ++ cond b ((n + 1) ∷ []) [])
      (false_from_ne_true (is_listed (n + 1) (pivots_of bs)) (λ e. none (listed_pivot (n + 1) bs e)))
      ∙ append-nil (pivot_columns n bs))
