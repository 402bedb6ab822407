-- The steps of an insertion on slots are the steps on the rows of the basis that are seen in them.
use Rattle.std.proofs.Common.{◌≡◌, ℕ, zero, suc, ◌+◌, ◌-◌, ◌<◌, ◌≤◌, List, [], ◌∷◌, ◌++◌, length, take, drop, map, get_or, refl, ap, ap₂}
use Rattle.std.proofs.Common.{sym, ◌∙◌, subst, arith, add-one, append_assoc}
use Rattle.std.proofs.Math.ListN.{set}
use Rattle.std.proofs.lemmas.List.{take_more_set, take_at, length-replicate, length_push}
use Rattle.pq_base.specs.Elementary.{zeros}
use Rattle.fp_rows.specs.Rows.{scale_row, add_scaled}
use Rattle.fp_rows.specs.Row.{at_column}
use Rattle.fp_echelon.specs.Reduced.{BasisRow}
use Rattle.fp_echelon.specs.Reduction.{negative}
use Rattle.fp_echelon.proofs.InsertionSteps.{started, extended, clear_by, clear_by_each, clear_each, scaled, new_row, inserted}
use Rattle.fp_echelon.specs.Slots.{Slot, IsSlot, AreSlots, HaveRoom, seen, all_seen, all_added, add_front, scale_front, plus_slot}
use Rattle.fp_echelon.specs.Slots.{cleared_slot, cleared_by_each, scaled_slot, placed_slot, started_slot}
use Rattle.fp_echelon.proofs.SlotLaws.{take-add_front, take-scale_front, IsSlot-cleared_slot}

module _ (p width : ℕ) (some : 0 < p) where
  pub seen-cleared_slot : (n : ℕ) (a s : Slot) → IsSlot p width n a → IsSlot p width n s
      → seen n (cleared_slot n a s) ≡ clear_by p (seen n a) (seen n s)
  seen-cleared_slot n a s slot slot' =
      let k = negative s.prime (at_column s.row a.pivot) in
      ap (λ (l : List ℕ). record { pivot = s.pivot; row = add_scaled s.prime k s.row a.row; coefficients = l })
      (take-add_front n s.prime k s.coefficients a.coefficients slot'.room slot.room)
      ∙ ap (λ (q : ℕ). clear_by q (seen n a) (seen n s)) slot'.prime

  pub seen-scaled_slot : (n c k : ℕ) (s : Slot) → IsSlot p width n s → seen n (scaled_slot n c k s) ≡ scaled p c k (seen n s)
  seen-scaled_slot n c k s slot =
      ap (λ (l : List ℕ). record { pivot = c; row = scale_row s.prime k s.row; coefficients = l })
      (take-scale_front n s.prime k s.coefficients slot.room)
      ∙ ap (λ (q : ℕ). scaled q c k (seen n s)) slot.prime

  pub seen-cleared_by_each : (n : ℕ) (slots : List Slot) (s : Slot) → AreSlots p width n slots → IsSlot p width n s
      → seen n (cleared_by_each n slots s) ≡ clear_by_each p (all_seen n slots) (seen n s)
  seen-cleared_by_each n [] s are slot = refl
  seen-cleared_by_each n (a ∷ slots) s are slot =
      seen-cleared_by_each n slots (cleared_slot n a s) are.1 (IsSlot-cleared_slot p width some n n a s are.0 slot slot)
      ∙ ap (clear_by_each p (all_seen n slots)) (seen-cleared_slot n a s are.0 slot)

  pub all_seen-cleared : (n : ℕ) (a : Slot) (slots : List Slot) → IsSlot p width n a → AreSlots p width n slots
      → all_seen n (map (cleared_slot n a) slots) ≡ clear_each p (seen n a) (all_seen n slots)
  all_seen-cleared n a [] slot are = refl
  all_seen-cleared n a (s ∷ slots) slot are =
      ap₂ (λ (b : BasisRow) (bs : List BasisRow). b ∷ bs) (seen-cleared_slot n a s slot are.0) (all_seen-cleared n a slots slot are.1)

pub seen-started_slot : (n : ℕ) (x : List ℕ) (s : Slot) → seen (suc n) (started_slot n x s) ≡ started x n
seen-started_slot n x s =
    ap (λ (l : List ℕ). record { pivot = 0; row = x; coefficients = l })
    (ap (take (suc n)) (sym (append_assoc (zeros n) (1 ∷ []) (drop (suc n) s.coefficients)))
    ∙ take_at (zeros n ++ 1 ∷ []) (drop (suc n) s.coefficients) (suc n)
    (length_push (zeros n) 1 ∙ ap (λ (m : ℕ). m + 1) (length-replicate {A = ℕ} n 0) ∙ add-one n))

pub all_seen-placed : (n : ℕ) (slots : List Slot) → HaveRoom (suc n) slots
    → all_seen (suc n) (map (placed_slot n) slots) ≡ extended (all_seen n slots)
all_seen-placed n [] room = refl
all_seen-placed n (s ∷ slots) room =
    ap₂ (λ (l : List ℕ) (bs : List BasisRow). record { pivot = s.pivot; row = s.row; coefficients = l } ∷ bs)
    (ap (λ (m : ℕ). take m (set s.coefficients n 0)) (sym (add-one n)) ∙ take_more_set s.coefficients n 0 room.0)
    (all_seen-placed n slots room.1)

-- the inserted rows stay
pub all_added-placed : (n : ℕ) (slots : List Slot) → all_added (map (placed_slot n) slots) ≡ all_added slots
all_added-placed n [] = refl
all_added-placed n (s ∷ slots) = ap (λ (l : List (List ℕ)). s.added ∷ l) (all_added-placed n slots)

pub all_added-cleared : (n : ℕ) (a : Slot) (slots : List Slot) → all_added (map (cleared_slot n a) slots) ≡ all_added slots
all_added-cleared n a [] = refl
all_added-cleared n a (s ∷ slots) = ap (λ (l : List (List ℕ)). s.added ∷ l) (all_added-cleared n a slots)

pub added-cleared_by_each : (n : ℕ) (slots : List Slot) (s : Slot) → (cleared_by_each n slots s).added ≡ s.added
added-cleared_by_each n [] s = refl
added-cleared_by_each n (a ∷ slots) s = added-cleared_by_each n slots (cleared_slot n a s)

pub all_seen-append : (n : ℕ) (slots more : List Slot) → all_seen n (slots ++ more) ≡ all_seen n slots ++ all_seen n more
all_seen-append n [] more = refl
all_seen-append n (s ∷ slots) more = ap (λ (bs : List BasisRow). seen n s ∷ bs) (all_seen-append n slots more)

pub all_added-append : (slots more : List Slot) → all_added (slots ++ more) ≡ all_added slots ++ all_added more
all_added-append [] more = refl
all_added-append (s ∷ slots) more = ap (λ (l : List (List ℕ)). s.added ∷ l) (all_added-append slots more)
