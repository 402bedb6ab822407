-- The row of a basis at a pivot is what the basis says of its rows.
use Rattle.std.proofs.Common.{◌≡◌, ◌≢◌, ℕ, List, [], ◌∷◌, length, ⊎_elim, sym, subst, arith}
use Rattle.std.proofs.lemmas.Bool.{cases_eq}
use Rattle.fp_echelon.specs.Reduced.{BasisRow, IsPivot, at_pivot, IsPivotRow}
use Rattle.fp_echelon.specs.Basis.{Echelon, IsBasis, IsSum, AreSums}
use Rattle.fp_echelon.proofs.PlaceLaws.{at_pivot-head, at_pivot-tail}
use Rattle.fp_echelon.proofs.UniqueBasis.{Found, found}

IsSum-at_pivot : (p width : ℕ) (added : List (List ℕ)) (c : ℕ) (bs : List BasisRow) → AreSums p width added bs → IsPivot c bs
    → IsSum p width added (at_pivot c bs)
IsSum-at_pivot p width added c [] sums h = elim h [ ]
IsSum-at_pivot p width added c (b ∷ bs) sums h =
    ⊎_elim
    (λ e. subst (λ (a : BasisRow). IsSum p width added a) (sym (at_pivot-head c b bs e)) sums.0)
    (λ ne.
    subst (λ (a : BasisRow). IsSum p width added a) (sym (at_pivot-tail c b bs ne))
    (IsSum-at_pivot p width added c bs sums.1 (⊎_elim (λ e. absurd (ne e)) (λ more. more) h)))
    (cases_eq b.pivot c)

module _ (B : Echelon) (basis : IsBasis B) (c : ℕ) (pivot : IsPivot c B.rows) where
  pub sum_found : IsSum B.prime B.width B.added (at_pivot c B.rows)
  sum_found = IsSum-at_pivot B.prime B.width B.added c B.rows basis.sums pivot

  pub row_found : Found B.prime B.width c B.rows (at_pivot c B.rows)
  row_found = let two = basis.prime in found B.prime B.width (omega arith) c B.rows basis.reduced pivot
