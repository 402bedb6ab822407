-- What an insertion does to a basis in memory: `slots` before, `old` and `new` around the call, and `stored` after it.
use Rattle.std.proofs.Common.{◌≡◌, ◌≢◌, ℕ, zero, suc, ◌+◌, ◌*◌, ◌%◌, ◌-◌, ◌<◌, ◌≤◌, List, [], ◌∷◌, ◌++◌, length, take, get_or, refl, ap}
use Rattle.std.proofs.Common.{ap₂, sym, ◌∙◌, subst, arith, add-one}
use Rattle.fp_rows.specs.Rows.{IsRow}
use Rattle.fp_rows.specs.Row.{PrimeRow}
use Rattle.fp_echelon.specs.Span.{InSpan}
use Rattle.fp_echelon.specs.Reduced.{BasisRow, pivots_of}
use Rattle.fp_echelon.specs.Basis.{Echelon, IsBasis}
use Rattle.fp_echelon.specs.Slots.{Slot, AreSlots, HavePivots, HoldsBasis, echelon_of, all_seen, all_added, IsJoined, IsLeft}
use Rattle.fp_echelon.proofs.SlotLaws.{AreSlots-own, AreSlots-fewer}
use Rattle.fp_echelon.proofs.HeldBasis.{HavePivots-reduced, left_same, left_held, left_in_span, joined_held, joined_basis}
use Rattle.fp_echelon.proofs.HeldBasis.{joined_independent, joined_added, joined_pivots, joined_rank}

module _ (q width rank spare : ℕ) (slots old new stored : List Slot) (B : Echelon) (r : PrimeRow)
    (view : echelon_of q width rank spare slots ≡ B) (held : HoldsBasis q width rank spare slots) (same : old ≡ slots) (kept : stored ≡ new)
    (prime : r.prime ≡ B.prime) (wide : length r.entries ≡ B.width) (some : 1 ≤ B.spare) where
  same_prime : q ≡ r.prime
  same_prime = ap (λ (E : Echelon). E.prime) view ∙ sym prime

  same_width : width ≡ length r.entries
  same_width = ap (λ (E : Echelon). E.width) view ∙ sym wide

  one_spare : spare ≡ suc (spare - 1)
  one_spare = let e = ap (λ (E : Echelon). E.spare) view in omega arith

  held' : HoldsBasis q width rank (suc (spare - 1)) slots
  held' = subst (λ (n : ℕ). HoldsBasis q width rank n slots) one_spare held

  pub given_slots : AreSlots r.prime (length r.entries) (suc rank) old
  given_slots =
      subst (λ (l : List Slot). AreSlots r.prime (length r.entries) (suc rank) l) (sym same)
      (AreSlots-own q r.prime width (length r.entries) (suc rank) (suc rank) slots same_prime same_width refl
      (AreSlots-fewer q width (rank + spare) (suc rank) slots (let e = one_spare in omega arith) held.are_slots))

  pub given_pivots : HavePivots (length r.entries) (take rank old)
  given_pivots =
      subst (λ (w : ℕ). HavePivots w (take rank old)) same_width
      (subst (λ (l : List Slot). HavePivots width (take rank l)) (sym same)
      (HavePivots-reduced q width rank (take rank slots) held.basis.reduced))

  module _ (fits : IsRow r.prime (length r.entries) r.entries) where
    fits' : IsRow q width r.entries
    fits' = subst (λ (w : ℕ). IsRow q w r.entries) (sym same_width)
        (subst (λ (p : ℕ). IsRow p (length r.entries) r.entries) (sym same_prime) fits)

    -- a row of the span
    module _ (left : IsLeft rank r.entries old new) where
      left' : IsLeft rank r.entries slots new
      left' = subst (λ (l : List Slot). IsLeft rank r.entries l new) same left

      pub after_left : HoldsBasis q width rank spare stored
      after_left =
          subst (λ (l : List Slot). HoldsBasis q width rank spare l) (sym kept)
          (subst (λ (n : ℕ). HoldsBasis q width rank n new) (sym one_spare)
          (left_held q width rank (spare - 1) slots new r.entries fits' held' left'))

      pub same_after_left : echelon_of q width rank spare stored ≡ B
      same_after_left =
          ap₂ (λ (n : ℕ) (l : List Slot). echelon_of q width rank n l) one_spare kept
          ∙ left_same q width rank (spare - 1) slots new r.entries fits' held' left'
          ∙ ap (λ (n : ℕ). echelon_of q width rank n slots) (sym one_spare)
          ∙ view

      pub basis_after_left : IsBasis (echelon_of q width rank spare stored)
      basis_after_left = after_left.basis

      pub in_span_where_left : InSpan B.prime B.width B.added r.entries
      in_span_where_left =
          subst (λ (E : Echelon). InSpan E.prime E.width E.added r.entries) view
          (left_in_span q width rank (spare - 1) slots new r.entries fits' held' left')

    -- any other row
    module _ (c : ℕ) (joined : IsJoined r.prime rank c r.entries old new) where
      joined' : IsJoined q rank c r.entries slots new
      joined' =
          subst (λ (l : List Slot). IsJoined q rank c r.entries l new) same
          (subst (λ (p : ℕ). IsJoined p rank c r.entries old new) (sym same_prime) joined)

      pub after_joined : HoldsBasis q width (rank + 1) (spare - 1) stored
      after_joined =
          subst (λ (n : ℕ). HoldsBasis q width n (spare - 1) stored) (sym (add-one rank))
          (subst (λ (l : List Slot). HoldsBasis q width (suc rank) (spare - 1) l) (sym kept)
          (joined_held q width rank (spare - 1) slots new r.entries fits' held' c joined'))

      pub basis_after_joined : IsBasis (echelon_of q width (rank + 1) (spare - 1) stored)
      basis_after_joined = after_joined.basis

      pub independent_where_joined : InSpan B.prime B.width B.added r.entries → ⊥
      independent_where_joined =
          subst (λ (E : Echelon). InSpan E.prime E.width E.added r.entries → ⊥) view
          (joined_independent q width rank (spare - 1) slots new r.entries fits' held' c joined')

      pub added_after_joined : all_added (take (rank + 1) stored) ≡ B.added ++ r.entries ∷ []
      added_after_joined =
          ap₂ (λ (n : ℕ) (l : List Slot). all_added (take n l)) (add-one rank) kept
          ∙ joined_added q width rank (spare - 1) slots new r.entries fits' held' c joined'
          ∙ ap (λ (E : Echelon). E.added ++ r.entries ∷ []) view

      pub pivots_after_joined : pivots_of (all_seen (rank + 1) (take (rank + 1) stored)) ≡ pivots_of B.rows ++ c ∷ []
      pivots_after_joined =
          ap₂ (λ (n : ℕ) (l : List Slot). pivots_of (all_seen n (take n l))) (add-one rank) kept
          ∙ joined_pivots q width rank (spare - 1) slots new r.entries fits' held' c joined'
          ∙ ap (λ (E : Echelon). pivots_of E.rows ++ c ∷ []) view

      pub rank_after_joined : rank + 1 ≤ width
      rank_after_joined = let low = joined_rank q width rank (spare - 1) slots new r.entries fits' held' c joined' in omega arith
