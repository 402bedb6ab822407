-- What is read of a basis in memory, and what a reduction by it leaves.
use Rattle.std.proofs.Common.{◌≡◌, ℕ, zero, suc, ◌+◌, ◌<◌, ◌≤◌, List, [], ◌∷◌, length, take, get_or, refl, ap, sym, ◌∙◌, subst, arith}
use Rattle.std.proofs.lemmas.List.{length-take-le, get_or-take}
use Rattle.fp_rows.specs.Rows.{IsRow}
use Rattle.fp_rows.specs.Row.{PrimeRow, IsZeroRow}
use Rattle.fp_rows.proofs.EntryLaws.{IsZeroRow-is_zeros}
use Rattle.pq_base.specs.Elementary.{zeros}
use Rattle.fp_echelon.specs.Span.{InSpan}
use Rattle.fp_echelon.specs.Reduced.{IsPivot, at_pivot, IsRepresentative}
use Rattle.fp_echelon.specs.Reduction.{reduce_by}
use Rattle.fp_echelon.specs.Basis.{Echelon, IsBasis}
use Rattle.fp_echelon.specs.Slots.{Slot, AreSlots, HavePivots, HoldsBasis, echelon_of, all_seen, all_added}
use Rattle.fp_echelon.proofs.SlotLaws.{AreSlots-own, AreSlots-fewer, AreSlots-take, AreSlots-at}
use Rattle.fp_echelon.proofs.HeldBasis.{length-all_added, length-all_seen, HavePivots-reduced}
use Rattle.fp_echelon.proofs.RankLaws.{rank-le}
use Rattle.fp_echelon.proofs.ReductionLaws.{IsRepresentative-reduce_by}
use Rattle.fp_echelon.proofs.PlaceLaws.{IsPivot-seen}
use Rattle.fp_echelon.proofs.PivotLaws.{InSpan-from_representative}
use Rattle.fp_echelon.proofs.BasisLaws.{basis_spans}

added-at : (slots : List Slot) (i : ℕ) (d : Slot) → i < length slots → get_or (all_added slots) i [] ≡ (get_or slots i d).added
added-at [] i d h = absurd (omega arith)
added-at (s ∷ slots) zero d h = refl
added-at (s ∷ slots) (suc i) d h = added-at slots i d (omega arith)

module _ (q width rank spare : ℕ) (slots : List Slot) (B : Echelon)
    (view : echelon_of q width rank spare slots ≡ B) (held : HoldsBasis q width rank spare slots) where
  enough : rank ≤ length slots
  enough = let room = held.room in omega arith

  pub are_read : (n : ℕ) → n ≤ rank → AreSlots q width n (take rank slots)
  are_read n h = AreSlots-take q width n rank slots (AreSlots-fewer q width (rank + spare) n slots (omega arith) held.are_slots)

  pub rank_read : rank ≤ B.width
  rank_read =
      subst (λ (E : Echelon). rank ≤ E.width) view
      (omega (
        arith,
        rank-le q width (all_seen rank (take rank slots)) held.basis.reduced,
        length-all_seen rank (take rank slots),
        length-take-le rank slots enough,
      ))

  -- the added rows
  pub added_read : (i : ℕ) (d : Slot) → i < length B.added → (get_or slots i d).added ≡ get_or B.added i []
  added_read i d h =
      let long : length (all_added (take rank slots)) ≡ length B.added = ap (λ (E : Echelon). length E.added) view in
      let low : i < rank = omega (arith, long, length-all_added (take rank slots), length-take-le rank slots enough) in
      ap (λ (s : Slot). s.added) (sym (get_or-take rank slots i d low))
      ∙ sym (added-at (take rank slots) i d (omega (arith, length-take-le rank slots enough)))
      ∙ ap (λ (E : Echelon). get_or E.added i []) view

  pub prime_read : (i : ℕ) (d : Slot) → i < length B.added → (get_or slots i d).prime ≡ B.prime
  prime_read i d h =
      let long : length (all_added (take rank slots)) ≡ length B.added = ap (λ (E : Echelon). length E.added) view in
      let low : i < rank = omega (arith, long, length-all_added (take rank slots), length-take-le rank slots enough) in
      (AreSlots-at q width (rank + spare) slots i d (omega (arith, enough)) held.are_slots).prime ∙ ap (λ (E : Echelon). E.prime) view

  -- the rows of the basis, in a copy of the slots
  module _ (old : List Slot) (same : old ≡ slots) where
    pub pivot_given : (c n : ℕ) → IsPivot c B.rows → IsPivot c (all_seen n (take rank old))
    pivot_given c n h =
        subst (λ (l : List Slot). IsPivot c (all_seen n (take rank l))) (sym same)
        (IsPivot-seen c rank n (take rank slots) (subst (λ (E : Echelon). IsPivot c E.rows) (sym view) h))

    pub pivot_read : (c n : ℕ) → IsPivot c (all_seen n (take rank old)) → IsPivot c B.rows
    pivot_read c n h =
        subst (λ (E : Echelon). IsPivot c E.rows) view
        (IsPivot-seen c n rank (take rank slots) (subst (λ (l : List Slot). IsPivot c (all_seen n (take rank l))) same h))

    pub row_read : (c : ℕ) → at_pivot c (all_seen rank (take rank old)) ≡ at_pivot c B.rows
    row_read c =
        ap (λ (l : List Slot). at_pivot c (all_seen rank (take rank l))) same ∙ ap (λ (E : Echelon). at_pivot c E.rows) view

    pub are_given : (n : ℕ) → n ≤ rank → AreSlots q width n (take rank old)
    are_given n h = subst (λ (l : List Slot). AreSlots q width n (take rank l)) (sym same) (are_read n h)

    -- a row to reduce
    module _ (r : PrimeRow) (prime : r.prime ≡ B.prime) (wide : length r.entries ≡ B.width) where
      pub given_to_reduce : AreSlots r.prime (length r.entries) 0 (take rank old)
      given_to_reduce =
          AreSlots-own q r.prime width (length r.entries) 0 0 (take rank old)
          (ap (λ (E : Echelon). E.prime) view ∙ sym prime) (ap (λ (E : Echelon). E.width) view ∙ sym wide) refl (are_given 0 (omega arith))

      pub pivots_to_reduce : HavePivots (length r.entries) (take rank old)
      pivots_to_reduce =
          subst (λ (w : ℕ). HavePivots w (take rank old)) (ap (λ (E : Echelon). E.width) view ∙ sym wide)
          (subst (λ (l : List Slot). HavePivots width (take rank l)) (sym same)
          (HavePivots-reduced q width rank (take rank slots) held.basis.reduced))

      pub representative_left : (new : PrimeRow) → IsRow r.prime (length r.entries) r.entries
          → new ≡ record { prime = r.prime; entries = reduce_by r.prime (all_seen rank (take rank old)) r.entries }
          → IsRepresentative B.prime B.width B.rows r.entries new.entries
      representative_left new row is =
          let basis = subst (λ (E : Echelon). IsBasis E) view held.basis in
          let two = basis.prime in
          let row' =
          subst (λ (w : ℕ). IsRow B.prime w r.entries) wide (subst (λ (p : ℕ). IsRow p (length r.entries) r.entries) prime row) in
          let entries : reduce_by B.prime B.rows r.entries ≡ new.entries =
          sym (ap (λ (n : PrimeRow). n.entries) is
          ∙ ap (λ (p : ℕ). reduce_by p (all_seen rank (take rank old)) r.entries) prime
          ∙ ap (λ (l : List Slot). reduce_by B.prime (all_seen rank (take rank l)) r.entries) same
          ∙ ap (λ (E : Echelon). reduce_by B.prime E.rows r.entries) view) in
          subst (λ (l : List ℕ). IsRepresentative B.prime B.width B.rows r.entries l) entries
          (IsRepresentative-reduce_by B.prime B.width (omega arith) B.rows r.entries basis.reduced row')

      -- where nothing is left of the row, it is in the span
      pub zero_in_span : (new : PrimeRow) → IsRow r.prime (length r.entries) r.entries
          → new ≡ record { prime = r.prime; entries = reduce_by r.prime (all_seen rank (take rank old)) r.entries }
          → IsZeroRow new.entries → InSpan B.prime B.width B.added r.entries
      zero_in_span new row is zero_row =
          let basis = subst (λ (E : Echelon). IsBasis E) view held.basis in
          let two = basis.prime in
          let row' =
          subst (λ (w : ℕ). IsRow B.prime w r.entries) wide (subst (λ (p : ℕ). IsRow p (length r.entries) r.entries) prime row) in
          let left = representative_left new row is in
          (basis_spans B basis r.entries).1
          (InSpan-from_representative B.prime B.width (omega arith) B.rows r.entries new.entries basis.reduced row' left
          (IsZeroRow-is_zeros new.entries zero_row ∙ ap zeros left.fits.count))
