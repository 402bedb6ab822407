-- A reduced basis has no two rows of one pivot, so it has at most as many rows as columns.
use Rattle.std.proofs.Common.{◌≡◌, ℕ, suc, ◌-◌, ◌<◌, ◌≤◌, ◌||◌, Bool, true, false, List, [], ◌∷◌, length, eqb, refl, ap, ◌∙◌, arith, ne_eqb}
use borrow.Author.Tests.{eqb-true}
use Rattle.std.specs.List.{IsDistinct, AllByRecursion, list_any}
use Rattle.std.proofs.lemmas.Map.Keys.{IsDistinct-cons, IsDistinct-from_apart}
use Rattle.std.proofs.lemmas.Map.Steps.{length-le_from_distinct_below}
use Rattle.fp_rows.specs.Row.{at_column}
use Rattle.fp_echelon.specs.Reduced.{BasisRow, ZeroAt, IsPivotRow, IsReduced}

-- the pivots, counted from 0
abbrev pub places : List BasisRow → List ℕ
places [] = []
places (b ∷ bs) = (b.pivot - 1) ∷ places bs

pub length-places : (bs : List BasisRow) → length (places bs) ≡ length bs
length-places [] = refl
length-places (b ∷ bs) = ap (λ (n : ℕ). suc n) (length-places bs)

other_pivot : (p width c : ℕ) (b : BasisRow) → IsPivotRow p width b → at_column b.row c ≡ 0 → 1 ≤ c → eqb (c - 1) (b.pivot - 1) ≡ false
other_pivot p width c b pivot none first =
    let least = pivot.last.column.first in
    let one = pivot.one in
    ne_eqb (c - 1) (b.pivot - 1) (λ e.
    let same : b.pivot ≡ c = omega (arith, e) in
    let none' : at_column b.row b.pivot ≡ 0 = ap (at_column b.row) same ∙ none in
    omega arith)

other_pivots : (p width c : ℕ) (bs : List BasisRow) → IsReduced p width bs → ZeroAt c bs → 1 ≤ c
    → AllByRecursion (λ y. eqb (c - 1) y ≡ false) (places bs)
other_pivots p width c [] reduced none first = tt
other_pivots p width c (b ∷ bs) reduced none first =
    (other_pivot p width c b reduced.0 none.0 first, other_pivots p width c bs reduced.2 none.1 first)

pub places_are_distinct : (p width : ℕ) (bs : List BasisRow) → IsReduced p width bs → IsDistinct eqb (places bs)
places_are_distinct p width [] reduced = IsDistinct-from_apart eqb [] (λ i j d h h'. absurd (omega arith))
places_are_distinct p width (b ∷ bs) reduced =
    IsDistinct-cons eqb (b.pivot - 1) (places bs) (other_pivots p width b.pivot bs reduced.2 reduced.1.others reduced.0.last.column.first)
    (places_are_distinct p width bs reduced.2)

pub either : (a b : Bool) (P : Type 0) → (a ≡ true → P) → (b ≡ true → P) → (a || b) ≡ true → P
either true b P f g h = f refl
either false b P f g h = g h

pub places-below : (p width : ℕ) (bs : List BasisRow) (q : ℕ) → IsReduced p width bs → list_any (eqb q) (places bs) ≡ true → q < width
places-below p width [] q reduced h = cc
places-below p width (b ∷ bs) q reduced h =
    let least = reduced.0.last.column.first in
    let most = reduced.0.last.column.last in
    let wide = reduced.0.fits.count in
    either (eqb q (b.pivot - 1)) (list_any (eqb q) (places bs)) (q < width)
    (λ e. let same = eqb-true q (b.pivot - 1) e in omega (arith, same)) (places-below p width bs q reduced.2) h

pub rank-le : (p width : ℕ) (bs : List BasisRow) → IsReduced p width bs → length bs ≤ width
rank-le p width bs reduced =
    omega (
      arith,
      length-places bs,
      length-le_from_distinct_below (places bs) width (places_are_distinct p width bs reduced) (λ q. places-below p width bs q reduced),
    )
