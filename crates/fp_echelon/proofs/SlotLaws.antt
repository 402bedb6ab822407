-- Slots keep their rows' width and their room through each step of an insertion, and lists of slots through loops.
use Rattle.std.proofs.Common.{◌≡◌, ◌≢◌, ℕ, zero, suc, ◌+◌, ◌-◌, ◌<◌, ◌≤◌, List, [], ◌∷◌, ◌++◌, length, take, drop, map, get_or, refl, ap}
use Rattle.std.proofs.Common.{ap₂, sym, ◌∙◌, subst, arith, length-append}
use Rattle.std.proofs.Math.ListN.{set, length-set}
use Rattle.std.proofs.lemmas.List.{length-take-le, take_at, length-replicate, length-drop, get_or_default, get_or-map}
use Rattle.std.proofs.lemmas.List.Edits.{map_over_more}
use Rattle.pq_base.specs.Table.{AllBelow}
use Rattle.pq_base.specs.Elementary.{zeros}
use Rattle.pq_base.proofs.ElementarySides.{zeros-below}
use Rattle.fp_rows.specs.Rows.{IsRow, scale_row, add_scaled}
use Rattle.fp_rows.specs.Row.{at_column}
use Rattle.fp_rows.proofs.RowLaws.{IsRow-zeros, IsRow-scale_row, IsRow-add_scaled, length-add_scaled, length-scale_row}
use Rattle.fp_rows.proofs.BelowLaws.{AllBelow-set, get_or-below_within}
use Rattle.fp_echelon.specs.Reduction.{negative}
use Rattle.fp_echelon.specs.Slots.{Slot, IsSlot, AreSlots, HasPivot, HavePivots, HaveRoom, add_front, scale_front, plus_slot, cleared_slot}
use Rattle.fp_echelon.specs.Slots.{cleared_by_each, scaled_slot, placed_slot, started_slot, grown_slot, new_slot, pivot_at}
use Rattle.fp_echelon.proofs.EntryStorage.{AllBelow-add_front, AllBelow-scale_front, AllBelow-unit, AllBelow-grown}

pub length-add_front : (n p k : ℕ) (xs ys : List ℕ) → n ≤ length xs → n ≤ length ys → length (add_front n p k xs ys) ≡ length xs
length-add_front n p k xs ys h h' =
    let long = length-take-le n xs h in
    let long' = length-take-le n ys h' in
    omega (
      arith,
      length-append (add_scaled p k (take n xs) (take n ys)) (drop n xs),
      length-add_scaled p k (take n xs) (take n ys) (long ∙ sym long'),
      length-drop n xs,
    )

pub take-add_front : (n p k : ℕ) (xs ys : List ℕ) → n ≤ length xs → n ≤ length ys
    → take n (add_front n p k xs ys) ≡ add_scaled p k (take n xs) (take n ys)
take-add_front n p k xs ys h h' =
    let long = length-take-le n xs h in
    let long' = length-take-le n ys h' in
    take_at (add_scaled p k (take n xs) (take n ys)) (drop n xs) n (length-add_scaled p k (take n xs) (take n ys) (long ∙ sym long') ∙ long)

pub length-scale_front : (n p k : ℕ) (xs : List ℕ) → n ≤ length xs → length (scale_front n p k xs) ≡ length xs
length-scale_front n p k xs h =
    omega (
      arith,
      length-append (scale_row p k (take n xs)) (drop n xs),
      length-scale_row p k (take n xs),
      length-take-le n xs h,
      length-drop n xs,
    )

pub take-scale_front : (n p k : ℕ) (xs : List ℕ) → n ≤ length xs → take n (scale_front n p k xs) ≡ scale_row p k (take n xs)
take-scale_front n p k xs h =
    take_at (scale_row p k (take n xs)) (drop n xs) n (length-scale_row p k (take n xs) ∙ length-take-le n xs h)

-- in its own prime and width
pub IsSlot-own : (p q width long n : ℕ) (s : Slot) → p ≡ q → width ≡ long → IsSlot p width n s → IsSlot q long n s
IsSlot-own p q width long n s e e' slot =
    subst (λ (w : ℕ). IsSlot q w n s) e' (subst (λ (r : ℕ). IsSlot r width n s) e slot)

module _ (p width : ℕ) where
  pub IsSlot-fewer : (n m : ℕ) (s : Slot) → m ≤ n → IsSlot p width n s → IsSlot p width m s
  IsSlot-fewer n m s h slot =
      let room = slot.room in
      record { prime = slot.prime; added = slot.added; row = slot.row; room = omega arith; below = slot.below }

  pub AreSlots-at : (n : ℕ) (slots : List Slot) (i : ℕ) (d : Slot) → i < length slots → AreSlots p width n slots
      → IsSlot p width n (get_or slots i d)
  AreSlots-at n [] i d h are = absurd (omega arith)
  AreSlots-at n (s ∷ slots) zero d h are = are.0
  AreSlots-at n (s ∷ slots) (suc i) d h are = AreSlots-at n slots i d (omega arith) are.1

  pub AreSlots-append : (n : ℕ) (slots more : List Slot) → AreSlots p width n slots → AreSlots p width n more
      → AreSlots p width n (slots ++ more)
  AreSlots-append n [] more are are' = are'
  AreSlots-append n (s ∷ slots) more are are' = (are.0, AreSlots-append n slots more are.1 are')

  pub AreSlots-take : (n i : ℕ) (slots : List Slot) → AreSlots p width n slots → AreSlots p width n (take i slots)
  AreSlots-take n zero slots are = tt
  AreSlots-take n (suc i) [] are = tt
  AreSlots-take n (suc i) (s ∷ slots) are = (are.0, AreSlots-take n i slots are.1)

  pub AreSlots-drop : (n i : ℕ) (slots : List Slot) → AreSlots p width n slots → AreSlots p width n (drop i slots)
  AreSlots-drop n zero slots are = are
  AreSlots-drop n (suc i) [] are = tt
  AreSlots-drop n (suc i) (s ∷ slots) are = AreSlots-drop n i slots are.1

  pub AreSlots-fewer : (n m : ℕ) (slots : List Slot) → m ≤ n → AreSlots p width n slots → AreSlots p width m slots
  AreSlots-fewer n m [] h are = tt
  AreSlots-fewer n m (s ∷ slots) h are = (IsSlot-fewer n m s h are.0, AreSlots-fewer n m slots h are.1)

  pub HaveRoom-slots : (n : ℕ) (slots : List Slot) → AreSlots p width n slots → HaveRoom n slots
  HaveRoom-slots n [] are = tt
  HaveRoom-slots n (s ∷ slots) are = (are.0.room, HaveRoom-slots n slots are.1)

module _ (p width : ℕ) (some : 0 < p) where
  pub IsSlot-plus_slot : (n m k : ℕ) (a s : Slot) → IsSlot p width n a → IsSlot p width n s → IsSlot p width m s
      → IsSlot p width m (plus_slot n k a s)
  IsSlot-plus_slot n m k a s slot slot' slot'' =
      let room = slot''.room in
      let row = IsRow-add_scaled p width k s.row a.row (omega arith) slot'.row slot.row in
      let below = AllBelow-add_front p n k s.coefficients a.coefficients (omega arith) slot'.below in
      record {
        prime = slot'.prime;
        added = slot'.added;
        row = subst (λ (q : ℕ). IsRow p width (add_scaled q k s.row a.row)) (sym slot'.prime) row;
        room = omega (arith, length-add_front n s.prime k s.coefficients a.coefficients slot'.room slot.room);
        below = subst (λ (q : ℕ). AllBelow p (add_front n q k s.coefficients a.coefficients)) (sym slot'.prime) below;
      }

  pub IsSlot-cleared_slot : (n m : ℕ) (a s : Slot) → IsSlot p width n a → IsSlot p width n s → IsSlot p width m s
      → IsSlot p width m (cleared_slot n a s)
  IsSlot-cleared_slot n m a s slot slot' slot'' =
      IsSlot-plus_slot n m (negative s.prime (at_column s.row a.pivot)) a s slot slot' slot''

  pub IsSlot-cleared_by_each : (n m : ℕ) (slots : List Slot) (s : Slot) → AreSlots p width n slots → IsSlot p width n s → IsSlot p width m s
      → IsSlot p width m (cleared_by_each n slots s)
  IsSlot-cleared_by_each n m [] s are slot slot' = slot'
  IsSlot-cleared_by_each n m (a ∷ slots) s are slot slot' =
      IsSlot-cleared_by_each n m slots (cleared_slot n a s) are.1 (IsSlot-cleared_slot n n a s are.0 slot slot)
      (IsSlot-cleared_slot n m a s are.0 slot slot')

  pub IsSlot-scaled_slot : (n m c k : ℕ) (s : Slot) → IsSlot p width n s → IsSlot p width m s → IsSlot p width m (scaled_slot n c k s)
  IsSlot-scaled_slot n m c k s slot slot' =
      let room = slot'.room in
      let row = IsRow-scale_row p width k s.row (omega arith) slot.row in
      let below = AllBelow-scale_front p n k s.coefficients (omega arith) slot.below in
      record {
        prime = slot.prime;
        added = slot.added;
        row = subst (λ (q : ℕ). IsRow p width (scale_row q k s.row)) (sym slot.prime) row;
        room = omega (arith, length-scale_front n s.prime k s.coefficients slot.room);
        below = subst (λ (q : ℕ). AllBelow p (scale_front n q k s.coefficients)) (sym slot.prime) below;
      }

  pub IsSlot-placed_slot : (n m : ℕ) (s : Slot) → IsSlot p width m s → IsSlot p width m (placed_slot n s)
  IsSlot-placed_slot n m s slot =
      let room = slot.room in
      record {
        prime = slot.prime;
        added = slot.added;
        row = slot.row;
        room = omega (arith, length-set s.coefficients n 0);
        below = AllBelow-set p s.coefficients n 0 (omega arith) slot.below;
      }

  pub IsSlot-started_slot : (n m : ℕ) (x : List ℕ) (s : Slot) → 1 < p → IsRow p width x → IsSlot p width (suc n) s → IsSlot p width m s
      → IsSlot p width m (started_slot n x s)
  IsSlot-started_slot n m x s two row slot slot' =
      let room = slot.room in
      let room' = slot'.room in
      record {
        prime = slot.prime;
        added = row;
        row = row;
        room = omega (
          arith,
          length-append (zeros n) (1 ∷ drop (suc n) s.coefficients),
          length-replicate {A = ℕ} n 0,
          length-drop (suc n) s.coefficients,
        );
        below = AllBelow-unit p n s.coefficients two slot.below;
      }

  pub IsSlot-grown_slot : (n m : ℕ) (s : Slot) → IsSlot p width m s → IsSlot p width m (grown_slot n s)
  IsSlot-grown_slot n m s slot =
      let room = slot.room in
      record {
        prime = slot.prime;
        added = slot.added;
        row = slot.row;
        room = omega (arith, length-append s.coefficients (zeros (n - length s.coefficients)));
        below = AllBelow-grown p (n - length s.coefficients) s.coefficients (omega arith) slot.below;
      }

  pub IsSlot-new_slot : (n : ℕ) → IsSlot p width n (new_slot p width n)
  IsSlot-new_slot n = record {
    prime = refl;
    added = IsRow-zeros p width (omega arith);
    row = IsRow-zeros p width (omega arith);
    room = omega (arith, length-replicate {A = ℕ} n 0);
    below = zeros-below p n (omega arith);
  }

  pub AreSlots-placed : (n m : ℕ) (slots : List Slot) → AreSlots p width m slots → AreSlots p width m (map (placed_slot n) slots)
  AreSlots-placed n m [] are = tt
  AreSlots-placed n m (s ∷ slots) are = (IsSlot-placed_slot n m s are.0, AreSlots-placed n m slots are.1)

  pub AreSlots-cleared : (n m : ℕ) (a : Slot) (slots : List Slot) → IsSlot p width n a → AreSlots p width n slots → AreSlots p width m slots
      → AreSlots p width m (map (cleared_slot n a) slots)
  AreSlots-cleared n m a [] slot are are' = tt
  AreSlots-cleared n m a (s ∷ slots) slot are are' =
      (IsSlot-cleared_slot n m a s slot are.0 are'.0, AreSlots-cleared n m a slots slot are.1 are'.1)

pub HaveRoom-at : (n : ℕ) (slots : List Slot) (i : ℕ) (d : Slot) → i < length slots → HaveRoom n slots
    → n ≤ length (get_or slots i d).coefficients
HaveRoom-at n [] i d h room = absurd (omega arith)
HaveRoom-at n (s ∷ slots) zero d h room = room.0
HaveRoom-at n (s ∷ slots) (suc i) d h room = HaveRoom-at n slots i d (omega arith) room.1

pub HavePivots-at : (width : ℕ) (slots : List Slot) (i : ℕ) (d : Slot) → i < length slots → HavePivots width slots
    → HasPivot width (get_or slots i d)
HavePivots-at width [] i d h pivots = absurd (omega arith)
HavePivots-at width (s ∷ slots) zero d h pivots = pivots.0
HavePivots-at width (s ∷ slots) (suc i) d h pivots = HavePivots-at width slots i d (omega arith) pivots.1

pub HavePivots-placed : (width n : ℕ) (slots : List Slot) → HavePivots width slots → HavePivots width (map (placed_slot n) slots)
HavePivots-placed width n [] pivots = tt
HavePivots-placed width n (s ∷ slots) pivots =
    let here = pivots.0 in
    (record { first = here.first; last = here.last }, HavePivots-placed width n slots pivots.1)

-- in a loop that maps a list in place, what is still to come is as it was
pub get_or-mapped : (f : Slot → Slot) (xs : List Slot) (i : ℕ) (d : Slot) → i < length xs
    → get_or (map f (take i xs) ++ drop i xs) i d ≡ get_or xs i d
get_or-mapped f [] i d h = absurd (omega arith)
get_or-mapped f (x ∷ xs) zero d h = refl
get_or-mapped f (x ∷ xs) (suc i) d h = get_or-mapped f xs i d (omega arith)

pub mapped_more : (f : Slot → Slot) (xs ys : List Slot) (i : ℕ) (d t : Slot) → i < length xs → length ys ≡ length xs
    → ys ≡ map f (take i xs) ++ drop i xs → t ≡ f (get_or ys i d) → set ys i t ≡ map f (take (i + 1) xs) ++ drop (i + 1) xs
mapped_more f xs ys i d t h long is e =
    ap (set ys i) e ∙ map_over_more f xs ys i (get_or ys i d) h is (get_or_default ys i d (get_or ys i d) (omega arith))

pub IsSlot-mapped : (p width n : ℕ) (f : Slot → Slot) (xs ys : List Slot) (i : ℕ) (d : Slot) → i < length xs
    → ys ≡ map f (take i xs) ++ drop i xs
    → AreSlots p width n xs → IsSlot p width n (get_or ys i d)
IsSlot-mapped p width n f xs ys i d h is are =
    subst (λ (s : Slot). IsSlot p width n s) (sym (ap (λ (l : List Slot). get_or l i d) is ∙ get_or-mapped f xs i d h))
    (AreSlots-at p width n xs i d h are)

-- a row with a pivot has an entry, so there is a residue
pub prime_from_pivot : (p width n : ℕ) (s a : Slot) → IsSlot p width n s → HasPivot width a → 0 < p
prime_from_pivot p width n s a slot pivot =
    let first = pivot.first in
    let last = pivot.last in
    let long = slot.row.count in
    let low = get_or-below_within p s.row 0 0 (omega arith) slot.row.below in
    omega (arith, low)

pub pivot_at-is : (slots : List Slot) (i : ℕ) (d : Slot) → i < length slots → pivot_at slots i ≡ (get_or slots i d).pivot
pivot_at-is slots i d h = get_or-map (λ s. s.pivot) slots i d 0 h

pub AreSlots-own : (p q width long n m : ℕ) (slots : List Slot) → p ≡ q → width ≡ long → n ≡ m → AreSlots p width n slots
    → AreSlots q long m slots
AreSlots-own p q width long n m slots e e' e'' are =
    subst (λ (o : ℕ). AreSlots q long o slots) e''
    (subst (λ (w : ℕ). AreSlots q w n slots) e' (subst (λ (r : ℕ). AreSlots r width n slots) e are))

-- the two parts of a list of slots
pub IsSlot-later : (p width n i : ℕ) (slots later : List Slot) (d : Slot) → i < length slots → later ≡ drop i slots
    → AreSlots p width n slots
    → IsSlot p width n (get_or later 0 d)
IsSlot-later p width n i slots later d h e are =
    subst (λ (l : List Slot). IsSlot p width n (get_or l 0 d)) (sym e)
    (AreSlots-at p width n (drop i slots) 0 d (omega (arith, length-drop i slots)) (AreSlots-drop p width n i slots are))

pub AreSlots-older : (p width n i : ℕ) (slots older : List Slot) → older ≡ take i slots → AreSlots p width n slots
    → AreSlots p width n older
AreSlots-older p width n i slots older e are =
    subst (λ (l : List Slot). AreSlots p width n l) (sym e) (AreSlots-take p width n i slots are)
