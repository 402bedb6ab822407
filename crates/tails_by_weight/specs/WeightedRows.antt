-- Presentations with rows that obey weights, a tail having a greatest weight e, and the overlaps whose weights leave room below it.
-- Generators are at places, which count from 0.
-- From: M. R. Vaughan-Lee, An aspect of the nilpotent quotient algorithm, 1984.
use Rattle.std.specs.Prelude.{◌≡◌, ◌≢◌, ◌<◌, ◌≤◌, ◌+◌, ℕ, suc, List, get_or, replicate}
use Rattle.pq_base.specs.Presentation.{power_side, commutator_side}
use Rattle.pc_presentation.specs.Rowed.{RowedPresentation, power_row, commutator_row}
use Rattle.pc_presentation.specs.Overlaps.{Overlap}
use Rattle.pc_presentation.specs.Overlaps.Overlap.{triple, left, right, own}

-- each generator has a weight from 1 to e; a right side has generators of at least the sum of the weights, or one more for a p-th
-- power, and a row of zeros where this is above e
pub record ObeysWeightsTo (Y : RowedPresentation) (weights : List ℕ) (e : ℕ) : Type 0 where
  pub from_one : (i : ℕ) → i < Y.base.rank → 1 ≤ get_or weights i 0
  pub at_most : (i : ℕ) → i < Y.base.rank → get_or weights i 0 ≤ e
  pub commutators : (j i m : ℕ) → j < Y.base.rank → i < j → get_or (commutator_side Y.base j i) m 0 ≢ 0
      → get_or weights j 0 + get_or weights i 0 ≤ get_or weights (suc j + m) 0
  pub powers : (i m : ℕ) → i < Y.base.rank → get_or (power_side Y.base i) m 0 ≢ 0
      → suc (get_or weights i 0) ≤ get_or weights (suc i + m) 0
  pub commutator_rows : (j i : ℕ) → j < Y.base.rank → i < j → e < get_or weights j 0 + get_or weights i 0
      → commutator_row Y j i ≡ replicate Y.width 0
  pub power_rows : (i : ℕ) → i < Y.base.rank → e ≤ get_or weights i 0 → power_row Y i ≡ replicate Y.width 0

-- the weights of the generators of an overlap, and one more where a p-th power is among them, add up to at most e
abbrev pub IsInsideTo : List ℕ → ℕ → Overlap → Type 0
IsInsideTo weights e (triple k j i) = get_or weights k 0 + get_or weights j 0 + get_or weights i 0 ≤ e
IsInsideTo weights e (left j i) = suc (get_or weights j 0 + get_or weights i 0) ≤ e
IsInsideTo weights e (right j i) = suc (get_or weights j 0 + get_or weights i 0) ≤ e
IsInsideTo weights e (own i) = suc (get_or weights i 0 + get_or weights i 0) ≤ e
