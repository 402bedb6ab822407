-- What becomes of a tail, as a sparse word over the kept tails.
use Rattle.std.proofs.Common.{◌≡◌, ℕ, ◌-◌, ◌<◌, ◌≤◌, cond, eqb, List, [], get_or, map, ap, sym, ◌∙◌, subst, arith}
use Rattle.std.specs.Prelude.{All}
use Rattle.fp_rows.specs.Row.{at_column, IsColumn}
use Rattle.fp_echelon.specs.Reduced.{IsPivot, at_pivot}
use Rattle.fp_echelon.specs.Reduction.{negative}
use Rattle.fp_echelon.specs.Basis.{Echelon, IsBasis}
use Rattle.pc_presentation.specs.Syllable.{syllables_of}
use Rattle.cover_quotient.specs.Kept.{kept_columns, kept_rows}
use Rattle.class_step.proofs.kept_tails.TailEntries.{kept_row-pivot, kept_row-no_pivot, kept-columns}

module _ (B : Echelon) (is : IsBasis B) (kept : List ℕ) (are : kept ≡ kept_columns B.width B.rows) (t : ℕ) (first : 1 ≤ t)
    (last : t ≤ B.width) where
  two : 1 < B.prime
  two = let h = is.prime in omega arith

  pub part-pivot : IsPivot t B.rows → syllables_of 0 (map (λ c. negative B.prime (at_column (at_pivot t B.rows).row c)) kept)
      ≡ syllables_of 0 (get_or (kept_rows B.prime B.width B.rows) (t - 1) [])
  part-pivot pivot =
      ap (λ (k : List ℕ). syllables_of 0 (map (λ c. negative B.prime (at_column (at_pivot t B.rows).row c)) k)) are
      ∙ sym (ap (syllables_of 0) (kept_row-pivot B.prime B.width two B.rows is.reduced t first last pivot))

  pub part-no_pivot : (IsPivot t B.rows → ⊥) → syllables_of 0 (map (λ c. cond (eqb t c) 1 0) kept)
      ≡ syllables_of 0 (get_or (kept_rows B.prime B.width B.rows) (t - 1) [])
  part-no_pivot none =
      ap (λ (k : List ℕ). syllables_of 0 (map (λ c. cond (eqb t c) 1 0) k)) are
      ∙ sym (ap (syllables_of 0) (kept_row-no_pivot B.prime B.width two B.rows is.reduced t first last none))

  pub part-columns : IsPivot t B.rows → All (IsColumn (at_pivot t B.rows).row) kept
  part-columns pivot =
      subst (All (IsColumn (at_pivot t B.rows).row)) (sym are) (kept-columns B.prime B.width two B.rows is.reduced t first last pivot)
