-- An insertion keeps that the slots hold a basis: with one row more, or unchanged where the row is in the span.
use Rattle.std.proofs.Common.{◌≡◌, ◌≢◌, ◌↔◌, ℕ, zero, suc, ◌+◌, ◌*◌, ◌%◌, ◌-◌, ◌<◌, ◌≤◌, List, [], ◌∷◌, ◌++◌, length, take, get_or, refl}
use Rattle.std.proofs.Common.{ap, ap₂, sym, ◌∙◌, subst, arith}
use Rattle.std.proofs.lemmas.List.{length-take-le}
use Rattle.fp_rows.specs.Rows.{IsRow}
use Rattle.fp_rows.specs.Row.{at_column, IsZeroRow, IsLastNonzero}
use Rattle.fp_rows.proofs.EntryLaws.{IsZeroRow-is_zeros}
use Rattle.pq_base.specs.Elementary.{zeros}
use Rattle.fp_echelon.specs.Span.{InSpan}
use Rattle.fp_echelon.specs.Reduced.{BasisRow, rows_of, pivots_of, IsPivotRow, IsReduced}
use Rattle.fp_echelon.specs.Reduction.{reduce_by}
use Rattle.fp_echelon.proofs.InsertionSteps.{inserted}
use Rattle.fp_echelon.specs.Basis.{Echelon, IsBasis}
use Rattle.fp_echelon.specs.Slots.{Slot, AreSlots, HasPivot, HavePivots, HoldsBasis, echelon_of, all_seen, all_added, reduced_slots}
use Rattle.fp_echelon.specs.Slots.{no_slot, IsJoined, IsLeft}
use Rattle.fp_echelon.proofs.ReductionLaws.{IsRow-reduce_by, AreRows-reduced}
use Rattle.fp_echelon.proofs.SlotLaws.{AreSlots-fewer}
use Rattle.fp_echelon.proofs.InsertedSlots.{get_or-reduced, echelon_of-reduced, length-reduced, row-fresh, AreSlots-reduced}
use Rattle.fp_echelon.proofs.InsertedSlots.{echelon_of-joined, length-joined, AreSlots-joined}
use Rattle.fp_echelon.proofs.InsertionLaws.{pivots_of-inserted}
use Rattle.fp_echelon.proofs.BasisLaws.{dependent_from_zero, independent_from_nonzero, IsBasis-inserted}
use Rattle.fp_echelon.proofs.RankLaws.{rank-le}

pub length-all_added : (slots : List Slot) → length (all_added slots) ≡ length slots
length-all_added [] = refl
length-all_added (s ∷ slots) = ap (λ (n : ℕ). suc n) (length-all_added slots)

pub length-all_seen : (n : ℕ) (slots : List Slot) → length (all_seen n slots) ≡ length slots
length-all_seen n [] = refl
length-all_seen n (s ∷ slots) = ap (λ (m : ℕ). suc m) (length-all_seen n slots)

-- the slots of a basis have their pivots at columns
pub HavePivots-reduced : (p width n : ℕ) (slots : List Slot) → IsReduced p width (all_seen n slots) → HavePivots width slots
HavePivots-reduced p width n [] reduced = tt
HavePivots-reduced p width n (s ∷ slots) reduced =
    let wide = reduced.0.fits.count in
    let least = reduced.0.last.column.first in
    let most = reduced.0.last.column.last in
    (record { first = least; last = omega arith }, HavePivots-reduced p width n slots reduced.2)

module _ (p width n spare : ℕ) (slots new : List Slot) (x : List ℕ) (row : IsRow p width x)
    (held : HoldsBasis p width n (suc spare) slots) where
  abbrev before : Echelon
  before = echelon_of p width n (suc spare) slots

  some : 1 < p
  some = held.basis.prime

  fits : n < length slots
  fits = let room = held.room in omega arith

  enough : AreSlots p width (suc n) slots
  enough = AreSlots-fewer p width (n + suc spare) (suc n) slots (omega arith) held.are_slots

  count : length (all_added (take n slots)) ≡ n
  count = length-all_added (take n slots) ∙ length-take-le n slots (let room = held.room in omega arith)

  reduced_row : (get_or (reduced_slots n x slots) n no_slot).row ≡ reduce_by p before.rows x
  reduced_row =
      ap (λ (s : Slot). s.row) (get_or-reduced p width n some slots fits x row) ∙ row-fresh p width n some slots fits x row enough

  -- a row of the span
  module _ (left : IsLeft n x slots new) where
    pub left_same : echelon_of p width n (suc spare) new ≡ before
    left_same =
        ap (echelon_of p width n (suc spare)) left.slots ∙ echelon_of-reduced p width n some slots fits x row (suc spare)

    pub left_held : HoldsBasis p width n (suc spare) new
    left_held =
        let room = held.room in
        record {
          are_slots = subst (λ (l : List Slot). AreSlots p width (n + suc spare) l) (sym left.slots)
              (AreSlots-reduced p width n some slots fits x row enough (n + suc spare) (omega arith) held.are_slots);
          room = omega (arith, ap (λ (l : List Slot). length l) left.slots, length-reduced p width n some slots fits x row);
          basis = subst (λ (B : Echelon). IsBasis B) (sym left_same) held.basis;
        }

    pub left_in_span : InSpan p width before.added x
    left_in_span =
        let wide = (IsRow-reduce_by p width some before.rows x (AreRows-reduced p width before.rows held.basis.reduced) row).count in
        dependent_from_zero before held.basis x row
        (sym reduced_row
        ∙ IsZeroRow-is_zeros (get_or (reduced_slots n x slots) n no_slot).row left.zero_row
        ∙ ap zeros (ap (λ (l : List ℕ). length l) reduced_row ∙ wide))

  -- any other row
  module _ (c : ℕ) (joined : IsJoined p n c x slots new) where
    last : IsLastNonzero (reduce_by p before.rows x) c
    last = subst (λ (l : List ℕ). IsLastNonzero l c) reduced_row joined.last

    one : (at_column (reduce_by p before.rows x) c * joined.factor) % p ≡ 1
    one = subst (λ (l : List ℕ). (at_column l c * joined.factor) % p ≡ 1) reduced_row joined.one

    pub joined_is : echelon_of p width (suc n) spare new ≡ record {
      prime = p;
      width = width;
      added = before.added ++ x ∷ [];
      rows = inserted p c joined.factor x n before.rows;
      spare = spare;
    }
    joined_is =
        ap (echelon_of p width (suc n) spare) joined.slots
        ∙ echelon_of-joined p width n some slots fits x row enough c joined.factor spare

    pub joined_basis : IsBasis (echelon_of p width (suc n) spare new)
    joined_basis =
        subst (λ (B : Echelon). IsBasis B)
        (sym (joined_is ∙ ap (λ (m : ℕ). record {
          prime = p;
          width = width;
          added = before.added ++ x ∷ [];
          rows = inserted p c joined.factor x m before.rows;
          spare = spare;
        }) (sym count)))
        (IsBasis-inserted before held.basis x row c joined.factor spare last one)

    pub joined_held : HoldsBasis p width (suc n) spare new
    joined_held =
        let room = held.room in
        let same : n + suc spare ≡ suc n + spare = omega arith in
        record {
          are_slots = subst (λ (l : List Slot). AreSlots p width (suc n + spare) l) (sym joined.slots)
              (AreSlots-joined p width n some slots fits x row enough c joined.factor (suc n + spare) (omega arith)
              (subst (λ (m : ℕ). AreSlots p width m slots) same held.are_slots));
          room = omega (
            arith,
            ap (λ (l : List Slot). length l) joined.slots,
            length-joined p width n some slots fits x row enough c joined.factor,
          );
          basis = joined_basis;
        }

    pub joined_independent : InSpan p width before.added x → ⊥
    joined_independent = independent_from_nonzero before held.basis x row c last

    pub joined_added : all_added (take (suc n) new) ≡ before.added ++ x ∷ []
    joined_added = ap (λ (B : Echelon). B.added) joined_is

    pub joined_pivots : pivots_of (all_seen (suc n) (take (suc n) new)) ≡ pivots_of before.rows ++ c ∷ []
    joined_pivots =
        ap (λ (B : Echelon). pivots_of B.rows) joined_is ∙ pivots_of-inserted p c joined.factor x n before.rows

    -- there are no more rows than columns
    pub joined_rank : suc n ≤ width
    joined_rank =
        let B = echelon_of p width (suc n) spare new in
        let room = joined_held.room in
        omega (
          arith,
          rank-le p width B.rows joined_basis.reduced,
          length-all_seen (suc n) (take (suc n) new),
          length-take-le (suc n) new (omega arith),
        )
