-- A difference and what was taken away make the row that was there; by way of a third row differences add up.
use Rattle.std.proofs.Common.{◌≡◌, ℕ, zero, suc, ◌+◌, ◌*◌, ◌%◌, ◌-◌, ◌<◌, List, ap, sym, ◌∙◌, arith, mod-eq_of_lt}
use Rattle.std.proofs.Math.Nat.{mul-add-mod_self_left, mul-mod_right}
use Rattle.pq_base.specs.Elementary.{zeros}
use Rattle.fp_rows.specs.Rows.{IsRow, add_rows, scale_row}
use Rattle.fp_rows.proofs.RowLaws.{IsRow-add_rows, IsRow-scale_row, zeros-add_rows, add_rows_comm, add_rows_assoc, scale_row-add_rows}
use Rattle.fp_rows.proofs.RowLaws.{scale_row-scale_row, scale_row-mod, scale_row-one, scale_row_cancels}
use Rattle.fp_rows.specs.Differences.{difference}

-- (p - 1)² is 1 modulo p
pub minus_one_squared : (p : ℕ) → 1 < p → ((p - 1) * (p - 1)) % p ≡ 1
minus_one_squared zero h = absurd (omega arith)
minus_one_squared (suc zero) h = absurd (omega arith)
minus_one_squared (suc (suc q)) h =
    let same : suc (suc q) - 1 ≡ suc q = omega arith in
    let square : suc q * suc q ≡ suc (suc q) * q + 1 = omega arith in
    ap (λ (n : ℕ). (n * n) % suc (suc q)) same
    ∙ ap (λ (n : ℕ). n % suc (suc q)) square
    ∙ mul-add-mod_self_left (suc (suc q)) q 1
    ∙ mod-eq_of_lt h

pub minus_one_cancels : (p : ℕ) → 0 < p → (1 + (p - 1)) % p ≡ 0
minus_one_cancels p h =
    let same : 1 + (p - 1) ≡ p * 1 = omega arith in
    ap (λ (n : ℕ). n % p) same ∙ mul-mod_right p 1

module _ (p width : ℕ) (some : 1 < p) where
  pub scale_row_twice : (x : List ℕ) → IsRow p width x → scale_row p (p - 1) (scale_row p (p - 1) x) ≡ x
  scale_row_twice x row =
      scale_row-scale_row p (p - 1) (p - 1) x
      ∙ sym (scale_row-mod p ((p - 1) * (p - 1)) x)
      ∙ ap (λ (n : ℕ). scale_row p n x) (minus_one_squared p some)
      ∙ scale_row-one p x row.below

  pub IsRow-difference : (x y : List ℕ) → IsRow p width x → IsRow p width y → IsRow p width (difference p x y)
  IsRow-difference x y row row' =
      IsRow-add_rows p width x (scale_row p (p - 1) y) (omega arith) row (IsRow-scale_row p width (p - 1) y (omega arith) row')

  pub difference-self : (x : List ℕ) → IsRow p width x → difference p x x ≡ zeros width
  difference-self x row =
      ap (λ (l : List ℕ). add_rows p l (scale_row p (p - 1) x)) (sym (scale_row-one p x row.below))
      ∙ scale_row_cancels p 1 (p - 1) x (omega arith) (minus_one_cancels p (omega arith))
      ∙ ap zeros row.count

  -- what is left of a sum without its first part
  pub add_rows-difference : (x y : List ℕ) → IsRow p width x → IsRow p width y → difference p (add_rows p x y) x ≡ y
  add_rows-difference x y row row' =
      ap (λ (l : List ℕ). add_rows p l (scale_row p (p - 1) x)) (add_rows_comm p x y)
      ∙ add_rows_assoc p y x (scale_row p (p - 1) x)
      ∙ ap (add_rows p y) (difference-self x row)
      ∙ add_rows_comm p y (zeros width)
      ∙ zeros-add_rows p width y row'

  -- a difference and what was taken away
  pub difference-add_rows : (x y : List ℕ) → IsRow p width x → IsRow p width y → add_rows p (difference p x y) y ≡ x
  difference-add_rows x y row row' =
      add_rows_assoc p x (scale_row p (p - 1) y) y
      ∙ ap (add_rows p x) (add_rows_comm p (scale_row p (p - 1) y) y ∙ difference-self y row')
      ∙ add_rows_comm p x (zeros width)
      ∙ zeros-add_rows p width x row

  pub equal_from_difference : (x y : List ℕ) → IsRow p width x → IsRow p width y → difference p x y ≡ zeros width → x ≡ y
  equal_from_difference x y row row' e =
      sym (difference-add_rows x y row row') ∙ ap (λ (l : List ℕ). add_rows p l y) e ∙ zeros-add_rows p width y row'

  -- by way of a third row
  pub difference-trans : (x y z : List ℕ) → IsRow p width x → IsRow p width y → IsRow p width z
      → add_rows p (difference p x y) (difference p y z) ≡ difference p x z
  difference-trans x y z row row' row'' =
      sym (add_rows_assoc p (difference p x y) y (scale_row p (p - 1) z))
      ∙ ap (λ (l : List ℕ). add_rows p l (scale_row p (p - 1) z)) (difference-add_rows x y row row')

  pub difference-turned : (x y : List ℕ) → IsRow p width x → IsRow p width y
      → scale_row p (p - 1) (difference p x y) ≡ difference p y x
  difference-turned x y row row' =
      scale_row-add_rows p (p - 1) x (scale_row p (p - 1) y)
      ∙ ap (add_rows p (scale_row p (p - 1) x)) (scale_row_twice y row')
      ∙ add_rows_comm p (scale_row p (p - 1) x) y
