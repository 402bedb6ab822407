-- What the calls of an entry leave in its memory: residues again. An entry whose column is 0 already stays as it is.
use Rattle.std.proofs.Common.{◌≡◌, ℕ, zero, suc, ◌+◌, ◌*◌, ◌%◌, ◌-◌, ◌<◌, ◌≤◌, List, [], ◌∷◌, ◌++◌, length, take, drop, refl, ap, ap₂, sym}
use Rattle.std.proofs.Common.{◌∙◌, subst, arith, take-append-drop, length-take, mod-eq_of_lt}
use Rattle.std.proofs.Math.Nat.{mul-mod_right}
use Rattle.std.proofs.lemmas.List.{take_at, length-take-le}
use Rattle.pq_base.specs.Table.{AllBelow}
use Rattle.pq_base.specs.Elementary.{zeros}
use Rattle.pq_base.proofs.ElementarySides.{zeros-below}
use Rattle.fp_rows.specs.Rows.{IsRow, scale_row, add_scaled}
use Rattle.fp_rows.specs.Row.{at_column}
use Rattle.fp_rows.proofs.RowLaws.{add_rows-below, scale_row-below, add_scaled-zero}
use Rattle.fp_rows.proofs.BelowLaws.{AllBelow-append, AllBelow-take, AllBelow-drop}
use Rattle.fp_echelon.specs.Reduction.{negative, cleared}
use Rattle.fp_echelon.specs.Slots.{Slot, IsSlot, add_front, scale_front, plus_slot, cleared_slot}
use Rattle.fp_echelon.proofs.ReductionLaws.{negative-zero}

-- what is written back to the memory of n entries
pub AllBelow-stored : (p n : ℕ) (new rest : List ℕ) → length new ≡ n → AllBelow p new → AllBelow p (take n (new ++ rest))
AllBelow-stored p n new rest long below = rw (take_at new rest n long) below

pub AllBelow-add_front : (p n k : ℕ) (xs ys : List ℕ) → 0 < p → AllBelow p xs → AllBelow p (add_front n p k xs ys)
AllBelow-add_front p n k xs ys h below =
    AllBelow-append p (add_scaled p k (take n xs) (take n ys)) (drop n xs)
    (add_rows-below p (take n xs) (scale_row p k (take n ys)) h) (AllBelow-drop p n xs below)

pub AllBelow-added : (p q n len k : ℕ) (new rest xs ys : List ℕ) → 0 < p → q ≡ p → length new ≡ len → AllBelow p xs
    → new ≡ add_front n q k xs ys → AllBelow p (take len (new ++ rest))
AllBelow-added p q n len k new rest xs ys h e long below is =
    AllBelow-stored p len new rest long
    (subst (λ (l : List ℕ). AllBelow p l) (sym (is ∙ ap (λ (r : ℕ). add_front n r k xs ys) e)) (AllBelow-add_front p n k xs ys h below))

pub AllBelow-scale_front : (p n k : ℕ) (xs : List ℕ) → 0 < p → AllBelow p xs → AllBelow p (scale_front n p k xs)
AllBelow-scale_front p n k xs h below =
    AllBelow-append p (scale_row p k (take n xs)) (drop n xs) (scale_row-below p k (take n xs) h) (AllBelow-drop p n xs below)

pub AllBelow-multiplied : (p q n len k : ℕ) (new rest xs : List ℕ) → 0 < p → q ≡ p → length new ≡ len → AllBelow p xs
    → new ≡ scale_front n q k xs → AllBelow p (take len (new ++ rest))
AllBelow-multiplied p q n len k new rest xs h e long below is =
    AllBelow-stored p len new rest long
    (subst (λ (l : List ℕ). AllBelow p l) (sym (is ∙ ap (λ (r : ℕ). scale_front n r k xs) e)) (AllBelow-scale_front p n k xs h below))

pub AllBelow-unit : (p n : ℕ) (xs : List ℕ) → 1 < p → AllBelow p xs → AllBelow p (zeros n ++ 1 ∷ drop (suc n) xs)
AllBelow-unit p n xs h below =
    AllBelow-append p (zeros n) (1 ∷ drop (suc n) xs) (zeros-below p n (omega arith)) (h, AllBelow-drop p (suc n) xs below)

pub AllBelow-grown : (p n : ℕ) (xs : List ℕ) → 1 ≤ p → AllBelow p xs → AllBelow p (xs ++ zeros n)
AllBelow-grown p n xs h below = AllBelow-append p xs (zeros n) below (zeros-below p n h)

-- where a column is 0 there is nothing to clear
pub cleared-none : (p c : ℕ) (b x : List ℕ) → 0 < p → AllBelow p x → length b ≡ length x → at_column x c ≡ 0 → x ≡ cleared p c b x
cleared-none p c b x h below e none =
    sym (ap (λ (k : ℕ). add_scaled p (negative p k) x b) none
    ∙ ap (λ (k : ℕ). add_scaled p k x b) (negative-zero p)
    ∙ add_scaled-zero p x b h below e)

add_front-none : (p n : ℕ) (xs ys : List ℕ) → 0 < p → AllBelow p xs → n ≤ length xs → n ≤ length ys → add_front n p 0 xs ys ≡ xs
add_front-none p n xs ys h below e f =
    ap (λ (l : List ℕ). l ++ drop n xs)
    (add_scaled-zero p (take n xs) (take n ys) h (AllBelow-take p n xs below) (length-take-le n ys f ∙ sym (length-take-le n xs e)))
    ∙ take-append-drop n xs

pub cleared_slot-none : (p width n : ℕ) (a s : Slot) → 0 < p → IsSlot p width n a → IsSlot p width n s → at_column s.row a.pivot ≡ 0
    → s ≡ cleared_slot n a s
cleared_slot-none p width n a s h slot slot' none =
    let k : negative s.prime (at_column s.row a.pivot) ≡ 0 =
    ap (negative s.prime) none ∙ negative-zero s.prime in
    let some : 0 < s.prime = subst (λ (q : ℕ). 0 < q) (sym slot'.prime) h in
    let row = add_scaled-zero s.prime s.row a.row some (subst (λ (q : ℕ). AllBelow q s.row) (sym slot'.prime) slot'.row.below)
    (slot.row.count ∙ sym slot'.row.count) in
    let coefficients = add_front-none s.prime n s.coefficients a.coefficients some
    (subst (λ (q : ℕ). AllBelow q s.coefficients) (sym slot'.prime) slot'.below) slot'.room slot.room in
    ap₂ (λ (l m : List ℕ). record { prime = s.prime; pivot = s.pivot; added = s.added; row = l; coefficients = m }) (sym row)
    (sym coefficients)
    ∙ ap (λ (j : ℕ). plus_slot n j a s) (sym k)

-- p - k is the negative of a residue k that isn't 0
pub negative_is : (p k : ℕ) → 0 < k → k < p → p - k ≡ negative p k
negative_is p k h low = sym (mod-eq_of_lt (omega arith))
