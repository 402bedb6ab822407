-- How a basis is kept: a slot for each row that was added, in the order of the insertions, then slots for rows to come.
-- The coefficients of a slot may be more than the rows that were added: the first count.
use Rattle.std.specs.Prelude.{◌≡◌, ◌≢◌, ◌≤◌, ◌<◌, ◌+◌, ◌-◌, ◌*◌, ◌%◌, ℕ, suc, List, [], ◌∷◌, ◌++◌, length, take, drop, get_or, slice_set}
use Rattle.std.specs.Prelude.{map, replicate}
use Rattle.pq_base.specs.Table.{AllBelow}
use Rattle.pq_base.specs.Elementary.{zeros}
use Rattle.fp_rows.specs.Rows.{IsRow, scale_row, add_scaled}
use Rattle.fp_rows.specs.Row.{at_column, IsZeroRow, IsLastNonzero}
use Rattle.fp_echelon.specs.Reduced.{BasisRow}
use Rattle.fp_echelon.specs.Reduction.{negative}
use Rattle.fp_echelon.specs.Basis.{Echelon, IsBasis}

pub record Slot : Type 0 where
  pub prime : ℕ
  pub pivot : ℕ
  pub added : List ℕ
  pub row : List ℕ
  pub coefficients : List ℕ

-- rows of this width, and room for n coefficients
pub record IsSlot (p width n : ℕ) (s : Slot) : Type 0 where
  pub prime : s.prime ≡ p
  pub added : IsRow p width s.added
  pub row : IsRow p width s.row
  pub room : n ≤ length s.coefficients
  pub below : AllBelow p s.coefficients

abbrev pub AreSlots : ℕ → ℕ → ℕ → List Slot → Type 0
AreSlots p width n [] = Unit {0}
AreSlots p width n (s ∷ slots) = IsSlot p width n s × AreSlots p width n slots

-- each pivot is a column
pub record HasPivot (width : ℕ) (s : Slot) : Type 0 where
  pub first : 1 ≤ s.pivot
  pub last : s.pivot ≤ width

abbrev pub HavePivots : ℕ → List Slot → Type 0
HavePivots width [] = Unit {0}
HavePivots width (s ∷ slots) = HasPivot width s × HavePivots width slots

-- the rows of the basis, each with its first n coefficients
abbrev pub seen : ℕ → Slot → BasisRow
seen n s = record { pivot = s.pivot; row = s.row; coefficients = take n s.coefficients }

abbrev pub all_seen : ℕ → List Slot → List BasisRow
all_seen n [] = []
all_seen n (s ∷ slots) = seen n s ∷ all_seen n slots

abbrev pub all_added : List Slot → List (List ℕ)
all_added [] = []
all_added (s ∷ slots) = s.added ∷ all_added slots

-- the basis in the first slots
abbrev pub echelon_of : ℕ → ℕ → ℕ → ℕ → List Slot → Echelon
echelon_of p width rank spare slots = record {
  prime = p;
  width = width;
  added = all_added (take rank slots);
  rows = all_seen rank (take rank slots);
  spare = spare;
}

pub record HoldsBasis (p width rank spare : ℕ) (slots : List Slot) : Type 0 where
  pub are_slots : AreSlots p width (rank + spare) slots
  pub room : rank + spare ≤ length slots
  pub basis : IsBasis (echelon_of p width rank spare slots)

-- xs with the first n entries changed: k times those of ys added, and k times these
abbrev pub add_front : ℕ → ℕ → ℕ → List ℕ → List ℕ → List ℕ
add_front n p k xs ys = add_scaled p k (take n xs) (take n ys) ++ drop n xs

abbrev pub scale_front : ℕ → ℕ → ℕ → List ℕ → List ℕ
scale_front n p k xs = scale_row p k (take n xs) ++ drop n xs

-- s plus k times a
abbrev pub plus_slot : ℕ → ℕ → Slot → Slot → Slot
plus_slot n k a s = record {
  prime = s.prime;
  pivot = s.pivot;
  added = s.added;
  row = add_scaled s.prime k s.row a.row;
  coefficients = add_front n s.prime k s.coefficients a.coefficients;
}

-- s with the column of a's pivot made 0 by means of a
abbrev pub cleared_slot : ℕ → Slot → Slot → Slot
cleared_slot n a s = plus_slot n (negative s.prime (at_column s.row a.pivot)) a s

abbrev pub cleared_by_each : ℕ → List Slot → Slot → Slot
cleared_by_each n [] s = s
cleared_by_each n (a ∷ slots) s = cleared_by_each n slots (cleared_slot n a s)

-- k times s, with its pivot at column c
abbrev pub scaled_slot : ℕ → ℕ → ℕ → Slot → Slot
scaled_slot n c k s = record {
  prime = s.prime;
  pivot = c;
  added = s.added;
  row = scale_row s.prime k s.row;
  coefficients = scale_front n s.prime k s.coefficients;
}

-- s with the coefficient at a place made 0
abbrev pub placed_slot : ℕ → Slot → Slot
placed_slot n s = record {
  prime = s.prime;
  pivot = s.pivot;
  added = s.added;
  row = s.row;
  coefficients = slice_set s.coefficients n 0;
}

-- s with a row to insert as the last of n + 1
abbrev pub started_slot : ℕ → List ℕ → Slot → Slot
started_slot n x s = record {
  prime = s.prime;
  pivot = 0;
  added = x;
  row = x;
  coefficients = zeros n ++ 1 ∷ drop (suc n) s.coefficients;
}

-- s with room for n coefficients
abbrev pub grown_slot : ℕ → Slot → Slot
grown_slot n s = record {
  prime = s.prime;
  pivot = s.pivot;
  added = s.added;
  row = s.row;
  coefficients = s.coefficients ++ zeros (n - length s.coefficients);
}

-- an empty slot with room for n coefficients
abbrev pub new_slot : ℕ → ℕ → ℕ → Slot
new_slot p width n = record {
  prime = p;
  pivot = 0;
  added = zeros width;
  row = zeros width;
  coefficients = zeros n;
}

-- the pivot of a slot, and 0 past the last
abbrev pub pivot_at : List Slot → ℕ → ℕ
pivot_at slots i = get_or (map (λ s. s.pivot) slots) i 0

-- the first slot whose pivot is column c
pub record IsPlaceOf (c : ℕ) (slots : List Slot) (i : ℕ) : Type 0 where
  pub within : i < length slots
  pub pivot : pivot_at slots i ≡ c
  pub first : (k : ℕ) → k < i → pivot_at slots k ≢ c

-- room for n coefficients in each
abbrev pub HaveRoom : ℕ → List Slot → Type 0
HaveRoom n [] = Unit {0}
HaveRoom n (s ∷ slots) = (n ≤ length s.coefficients) × HaveRoom n slots

abbrev pub no_slot : Slot
no_slot = new_slot 0 0 0

-- the first n slots with a place for one coefficient more, then x reduced by them, then the other slots
abbrev pub reduced_slots : ℕ → List ℕ → List Slot → List Slot
reduced_slots n x slots =
    map (placed_slot n) (take n slots)
    ++ cleared_by_each (suc n) (map (placed_slot n) (take n slots)) (started_slot n x (get_or slots n no_slot)) ∷ drop (suc n) slots

-- the slot after the first n times k, and its column made 0 in these
abbrev pub joined_slots : ℕ → ℕ → ℕ → List Slot → List Slot
joined_slots n c k slots =
    map (cleared_slot (suc n) (scaled_slot (suc n) c k (get_or slots n no_slot))) (take n slots)
    ++ scaled_slot (suc n) c k (get_or slots n no_slot) ∷ drop (suc n) slots

-- the slots after x was inserted: it is not in the span, and its reduction, times k, has its pivot at column c
pub record IsJoined (p n c : ℕ) (x : List ℕ) (old new : List Slot) : Type 0 where
  pub factor : ℕ
  pub last : IsLastNonzero (get_or (reduced_slots n x old) n no_slot).row c
  pub one : (at_column (get_or (reduced_slots n x old) n no_slot).row c * factor) % p ≡ 1
  pub slots : new ≡ joined_slots n c factor (reduced_slots n x old)

-- the slots after x was found in the span
pub record IsLeft (n : ℕ) (x : List ℕ) (old new : List Slot) : Type 0 where
  pub zero_row : IsZeroRow (get_or (reduced_slots n x old) n no_slot).row
  pub slots : new ≡ reduced_slots n x old

-- the first i slots with room for n coefficients
abbrev pub grown_front : ℕ → ℕ → List Slot → List Slot
grown_front n i slots = map (grown_slot n) (take i slots) ++ drop i slots

-- some slots were given room, and some were added
pub record IsGrown (p width n : ℕ) (old new : List Slot) : Type 0 where
  pub grown : ℕ
  pub more : ℕ
  pub slots : new ≡ grown_front n grown old ++ replicate more (new_slot p width n)

-- all slots have room, and there are at least n
pub record AreGrown (p width n : ℕ) (old new : List Slot) : Type 0 where
  pub more : ℕ
  pub slots : new ≡ map (grown_slot n) old ++ replicate more (new_slot p width n)
  pub enough : n ≤ length new
