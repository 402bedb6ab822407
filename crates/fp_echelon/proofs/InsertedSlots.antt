-- The slots after an insertion hold the basis that the insertion leaves.
use Rattle.std.proofs.Common.{◌≡◌, ◌≢◌, ◌↔◌, ℕ, zero, suc, ◌+◌, ◌*◌, ◌%◌, ◌-◌, ◌<◌, ◌≤◌, List, [], ◌∷◌, ◌++◌, length, take, drop, map}
use Rattle.std.proofs.Common.{get_or, refl, ap, ap₂, sym, ◌∙◌, subst, arith, length-append, append_assoc}
use Rattle.std.proofs.Math.ListN.{set}
use Rattle.std.proofs.lemmas.List.{take_at, length-take-le, length-drop, get_or_at, take-set, length_push, drop_at, length-map}
use Rattle.fp_rows.specs.Rows.{IsRow}
use Rattle.fp_rows.specs.Row.{at_column, IsZeroRow, IsLastNonzero}
use Rattle.fp_rows.proofs.EntryLaws.{IsZeroRow-is_zeros}
use Rattle.pq_base.specs.Elementary.{zeros}
use Rattle.fp_echelon.specs.Span.{InSpan}
use Rattle.fp_echelon.specs.Reduced.{BasisRow, rows_of, IsReduced}
use Rattle.fp_echelon.specs.Reduction.{reduce_by}
use Rattle.fp_echelon.proofs.InsertionSteps.{started, extended, clear_by_each, clear_each, scaled, new_row, inserted}
use Rattle.fp_echelon.specs.Basis.{Echelon, IsBasis}
use Rattle.fp_echelon.specs.Slots.{Slot, IsSlot, AreSlots, HoldsBasis, echelon_of, seen, all_seen, all_added, cleared_slot, cleared_by_each}
use Rattle.fp_echelon.specs.Slots.{placed_slot, scaled_slot, started_slot, reduced_slots, joined_slots, no_slot, IsJoined, IsLeft}
use Rattle.fp_echelon.proofs.SumLaws.{row-clear_by_each, reduce_by-extended}
use Rattle.fp_echelon.proofs.ReductionLaws.{IsRow-reduce_by, AreRows-reduced}
use Rattle.fp_echelon.proofs.SlotLaws.{IsSlot-fewer, IsSlot-started_slot, IsSlot-cleared_by_each, IsSlot-cleared_slot, IsSlot-scaled_slot}
use Rattle.fp_echelon.proofs.SlotLaws.{IsSlot-placed_slot, AreSlots-at, AreSlots-append, AreSlots-take, AreSlots-drop, AreSlots-fewer}
use Rattle.fp_echelon.proofs.SlotLaws.{AreSlots-placed, AreSlots-cleared, HaveRoom-slots}
use Rattle.fp_echelon.proofs.SeenLaws.{seen-cleared_by_each, seen-scaled_slot, all_seen-cleared, seen-started_slot, all_seen-placed}
use Rattle.fp_echelon.proofs.SeenLaws.{all_added-placed, all_added-cleared, added-cleared_by_each, all_seen-append, all_added-append}
use Rattle.fp_echelon.proofs.BasisLaws.{dependent_from_zero, independent_from_nonzero, IsBasis-inserted}

-- the first n coefficients stay when the next is made 0
all_seen-placed_before : (n : ℕ) (slots : List Slot) → all_seen n (map (placed_slot n) slots) ≡ all_seen n slots
all_seen-placed_before n [] = refl
all_seen-placed_before n (s ∷ slots) =
    ap₂ (λ (l : List ℕ) (bs : List BasisRow). record { pivot = s.pivot; row = s.row; coefficients = l } ∷ bs)
    (take-set s.coefficients n 0) (all_seen-placed_before n slots)

module _ (p width n : ℕ) (some : 1 < p) (slots : List Slot) (fits : n < length slots) (x : List ℕ) (row : IsRow p width x) where
  abbrev older : List Slot
  older = map (placed_slot n) (take n slots)

  abbrev fresh : Slot
  fresh = cleared_by_each (suc n) older (started_slot n x (get_or slots n no_slot))

  abbrev basis_rows : List BasisRow
  basis_rows = all_seen n (take n slots)

  length-older : length older ≡ n
  length-older = length-map (take n slots) (placed_slot n) ∙ length-take-le n slots (omega arith)

  pub get_or-reduced : get_or (reduced_slots n x slots) n no_slot ≡ fresh
  get_or-reduced = get_or_at older fresh (drop (suc n) slots) no_slot n length-older

  take-reduced : take n (reduced_slots n x slots) ≡ older
  take-reduced = take_at older (fresh ∷ drop (suc n) slots) n length-older

  drop-reduced : drop (suc n) (reduced_slots n x slots) ≡ drop (suc n) slots
  drop-reduced =
      ap (drop (suc n)) (sym (append_assoc older (fresh ∷ []) (drop (suc n) slots)))
      ∙ drop_at (older ++ fresh ∷ []) (drop (suc n) slots) (suc n) (omega (arith, length_push older fresh, length-older))

  pub length-reduced : length (reduced_slots n x slots) ≡ length slots
  length-reduced =
      omega (arith, length-append older (fresh ∷ drop (suc n) slots), length-older, length-drop (suc n) slots)

  -- the basis is not changed
  pub echelon_of-reduced : (spare : ℕ) → echelon_of p width n spare (reduced_slots n x slots) ≡ echelon_of p width n spare slots
  echelon_of-reduced spare =
      ap (λ (l : List Slot). record { prime = p; width = width; added = all_added l; rows = all_seen n l; spare = spare }) take-reduced
      ∙ ap₂ (λ (rows : List (List ℕ)) (bs : List BasisRow). record { prime = p; width = width; added = rows; rows = bs; spare = spare })
      (all_added-placed n (take n slots)) (all_seen-placed_before n (take n slots))

  module _ (are : AreSlots p width (suc n) slots) where
    older_are : AreSlots p width (suc n) older
    older_are = AreSlots-placed p width (omega arith) n (suc n) (take n slots) (AreSlots-take p width (suc n) n slots are)

    here : IsSlot p width (suc n) (get_or slots n no_slot)
    here = AreSlots-at p width (suc n) slots n no_slot fits are

    begun : IsSlot p width (suc n) (started_slot n x (get_or slots n no_slot))
    begun = IsSlot-started_slot p width (omega arith) n (suc n) x (get_or slots n no_slot) some row here here

    fresh_is : IsSlot p width (suc n) fresh
    fresh_is =
        IsSlot-cleared_by_each p width (omega arith) (suc n) (suc n) older (started_slot n x (get_or slots n no_slot)) older_are begun begun

    seen-fresh : seen (suc n) fresh ≡ clear_by_each p (extended basis_rows) (started x n)
    seen-fresh =
        seen-cleared_by_each p width (omega arith) (suc n) older (started_slot n x (get_or slots n no_slot)) older_are begun
        ∙ ap₂ (clear_by_each p)
        (all_seen-placed n (take n slots) (HaveRoom-slots p width (suc n) (take n slots) (AreSlots-take p width (suc n) n slots are)))
        (seen-started_slot n x (get_or slots n no_slot))

    -- the new slot holds the reduction
    pub row-fresh : fresh.row ≡ reduce_by p basis_rows x
    row-fresh =
        ap (λ (b : BasisRow). b.row) seen-fresh
        ∙ row-clear_by_each p (extended basis_rows) (started x n)
        ∙ reduce_by-extended p basis_rows x

    pub AreSlots-reduced : (m : ℕ) → suc n ≤ m → AreSlots p width m slots → AreSlots p width m (reduced_slots n x slots)
    AreSlots-reduced m h are' =
        AreSlots-append p width m older (fresh ∷ drop (suc n) slots)
        (AreSlots-placed p width (omega arith) n m (take n slots) (AreSlots-take p width m n slots are')) (
          IsSlot-cleared_by_each p width (omega arith) (suc n) m older (started_slot n x (get_or slots n no_slot)) older_are begun
              (IsSlot-started_slot p width (omega arith) n m x (get_or slots n no_slot) some row here
              (AreSlots-at p width m slots n no_slot fits are')),
          AreSlots-drop p width m (suc n) slots are',
        )

    -- after the join
    module _ (c k : ℕ) where
      abbrev last_slot : Slot
      last_slot = scaled_slot (suc n) c k fresh

      abbrev cleared_older : List Slot
      cleared_older = map (cleared_slot (suc n) last_slot) older

      abbrev joined : List Slot
      joined = joined_slots n c k (reduced_slots n x slots)

      last_is : IsSlot p width (suc n) last_slot
      last_is = IsSlot-scaled_slot p width (omega arith) (suc n) (suc n) c k fresh fresh_is fresh_is

      joined-is : joined ≡ cleared_older ++ last_slot ∷ drop (suc n) slots
      joined-is =
          let F = λ (s : Slot) (l r : List Slot).
          map (cleared_slot (suc n) (scaled_slot (suc n) c k s)) l ++ scaled_slot (suc n) c k s ∷ r in
          ap (λ (s : Slot). F s (take n (reduced_slots n x slots)) (drop (suc n) (reduced_slots n x slots))) get_or-reduced
          ∙ ap₂ (F fresh) take-reduced drop-reduced

      length-cleared_older : length cleared_older ≡ n
      length-cleared_older = length-map older (cleared_slot (suc n) last_slot) ∙ length-older

      take-joined : take (suc n) joined ≡ cleared_older ++ last_slot ∷ []
      take-joined =
          ap (take (suc n)) (joined-is ∙ sym (append_assoc cleared_older (last_slot ∷ []) (drop (suc n) slots)))
          ∙ take_at (cleared_older ++ last_slot ∷ []) (drop (suc n) slots) (suc n)
          (omega (arith, length_push cleared_older last_slot, length-cleared_older))

      seen-last : seen (suc n) last_slot ≡ new_row p c k x n basis_rows
      seen-last = seen-scaled_slot p width (omega arith) (suc n) c k fresh fresh_is ∙ ap (scaled p c k) seen-fresh

      all_seen-joined : all_seen (suc n) (take (suc n) joined) ≡ inserted p c k x n basis_rows
      all_seen-joined =
          ap (all_seen (suc n)) take-joined
          ∙ all_seen-append (suc n) cleared_older (last_slot ∷ [])
          ∙ ap (λ (bs : List BasisRow). bs ++ seen (suc n) last_slot ∷ [])
          (all_seen-cleared p width (omega arith) (suc n) last_slot older last_is older_are
          ∙ ap (clear_each p (seen (suc n) last_slot))
          (all_seen-placed n (take n slots) (HaveRoom-slots p width (suc n) (take n slots) (AreSlots-take p width (suc n) n slots are))))
          ∙ ap (λ (b : BasisRow). clear_each p b (extended basis_rows) ++ b ∷ []) seen-last

      all_added-joined : all_added (take (suc n) joined) ≡ all_added (take n slots) ++ x ∷ []
      all_added-joined =
          ap all_added take-joined
          ∙ all_added-append cleared_older (last_slot ∷ [])
          ∙ ap₂ (λ (rows : List (List ℕ)) (r : List ℕ). rows ++ r ∷ [])
          (all_added-cleared (suc n) last_slot older ∙ all_added-placed n (take n slots))
          (added-cleared_by_each (suc n) older (started_slot n x (get_or slots n no_slot)))

      pub echelon_of-joined : (spare : ℕ) → echelon_of p width (suc n) spare joined ≡ record {
        prime = p;
        width = width;
        added = all_added (take n slots) ++ x ∷ [];
        rows = inserted p c k x n basis_rows;
        spare = spare;
      }
      echelon_of-joined spare =
          ap₂ (λ (rows : List (List ℕ)) (bs : List BasisRow). record { prime = p; width = width; added = rows; rows = bs; spare = spare })
          all_added-joined all_seen-joined

      pub length-joined : length joined ≡ length slots
      length-joined =
          omega (
            arith,
            ap (λ (l : List Slot). length l) joined-is,
            length-append cleared_older (last_slot ∷ drop (suc n) slots),
            length-cleared_older,
            length-drop (suc n) slots,
          )

      pub AreSlots-joined : (m : ℕ) → suc n ≤ m → AreSlots p width m slots → AreSlots p width m joined
      AreSlots-joined m h are' =
          let fresh_are =
          AreSlots-at p width m (reduced_slots n x slots) n no_slot (omega (arith, length-reduced)) (AreSlots-reduced m h are') in
          let fresh_is' = subst (λ (s : Slot). IsSlot p width m s) get_or-reduced fresh_are in
          subst (λ (l : List Slot). AreSlots p width m l) (sym joined-is)
          (AreSlots-append p width m cleared_older (last_slot ∷ drop (suc n) slots)
          (AreSlots-cleared p width (omega arith) (suc n) m last_slot older last_is older_are
          (AreSlots-placed p width (omega arith) n m (take n slots) (AreSlots-take p width m n slots are'))) (
            IsSlot-scaled_slot p width (omega arith) (suc n) m c k fresh fresh_is fresh_is',
            AreSlots-drop p width m (suc n) slots are',
          ))
