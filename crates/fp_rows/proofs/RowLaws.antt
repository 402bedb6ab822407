-- Rows of residues of one width are a space over the residues: they add as a commutative group in which p copies of a row
-- are zero, and scaling distributes over sums of rows and of factors. Each law holds of all lists unless it says more.
use Rattle.std.proofs.Common.{◌≡◌, ℕ, zero, suc, ◌+◌, ◌-◌, ◌*◌, ◌%◌, ◌<◌, List, [], ◌∷◌, length, refl, ap, ap₂, sym, ◌∙◌, arith, add_comm}
use Rattle.std.proofs.Common.{add_assoc, add-zero, one-mul, mul_assoc, add-mul, mul-add, mod-eq_of_lt}
use Rattle.std.proofs.Math.Nat.{add-mod-mod, mod-add-mod, zero-mul, mul-zero, mul-mod_right, zero-mod, mod_self, mul-suc, mul_comm}
use Rattle.std.proofs.Math.Nat.{add-mul-mod_self_right}
use Rattle.std.proofs.lemmas.List.{length-replicate}
use Rattle.std.proofs.lemmas.Nat.{mod_below, mul-mod_second, mul-mod_first}
use Rattle.pq_base.specs.Table.{AllBelow}
use Rattle.pq_base.specs.Elementary.{zeros}
use Rattle.pq_base.proofs.ElementarySides.{zeros-below}
use Rattle.fp_rows.specs.Rows.{IsRow, add_rows, scale_row, negative_row, add_scaled}

-- lengths and bounds
pub length-add_rows : (p : ℕ) (xs ys : List ℕ) → length xs ≡ length ys → length (add_rows p xs ys) ≡ length xs
length-add_rows p [] ys h = refl
length-add_rows p (x ∷ xs) [] h = absurd (omega arith)
length-add_rows p (x ∷ xs) (y ∷ ys) h = ap (λ (n : ℕ). suc n) (length-add_rows p xs ys (omega arith))

pub length-scale_row : (p k : ℕ) (xs : List ℕ) → length (scale_row p k xs) ≡ length xs
length-scale_row p k [] = refl
length-scale_row p k (x ∷ xs) = ap (λ (n : ℕ). suc n) (length-scale_row p k xs)

pub length-negative_row : (p : ℕ) (xs : List ℕ) → length (negative_row p xs) ≡ length xs
length-negative_row p [] = refl
length-negative_row p (x ∷ xs) = ap suc (length-negative_row p xs)

pub length-add_scaled : (p k : ℕ) (xs ys : List ℕ) → length xs ≡ length ys → length (add_scaled p k xs ys) ≡ length xs
length-add_scaled p k xs ys e = length-add_rows p xs (scale_row p k ys) (e ∙ sym (length-scale_row p k ys))

pub add_rows-below : (p : ℕ) (xs ys : List ℕ) → 0 < p → AllBelow p (add_rows p xs ys)
add_rows-below p [] ys h = tt
add_rows-below p (x ∷ xs) [] h = tt
add_rows-below p (x ∷ xs) (y ∷ ys) h = (mod_below (x + y) p h, add_rows-below p xs ys h)

pub scale_row-below : (p k : ℕ) (xs : List ℕ) → 0 < p → AllBelow p (scale_row p k xs)
scale_row-below p k [] h = tt
scale_row-below p k (x ∷ xs) h = (mod_below (k * x) p h, scale_row-below p k xs h)

pub negative_row-below : (p : ℕ) (xs : List ℕ) → 0 < p → AllBelow p (negative_row p xs)
negative_row-below p [] h = tt
negative_row-below p (x ∷ xs) h = (mod_below (p - x) p h, negative_row-below p xs h)

-- sums
pub add_rows_comm : (p : ℕ) (xs ys : List ℕ) → add_rows p xs ys ≡ add_rows p ys xs
add_rows_comm p [] [] = refl
add_rows_comm p [] (y ∷ ys) = refl
add_rows_comm p (x ∷ xs) [] = refl
add_rows_comm p (x ∷ xs) (y ∷ ys) =
    ap₂ (λ (n : ℕ) (l : List ℕ). n ∷ l) (ap (λ (n : ℕ). n % p) (add_comm x y)) (add_rows_comm p xs ys)

pub add_rows_assoc : (p : ℕ) (xs ys zs : List ℕ)
    → add_rows p (add_rows p xs ys) zs ≡ add_rows p xs (add_rows p ys zs)
add_rows_assoc p [] ys zs = refl
add_rows_assoc p (x ∷ xs) [] zs = refl
add_rows_assoc p (x ∷ xs) (y ∷ ys) [] = refl
add_rows_assoc p (x ∷ xs) (y ∷ ys) (z ∷ zs) =
    ap₂ (λ (n : ℕ) (l : List ℕ). n ∷ l)
    (mod-add-mod (x + y) p z ∙ ap (λ (n : ℕ). n % p) (add_assoc x y z) ∙ sym (add-mod-mod x (y + z) p))
    (add_rows_assoc p xs ys zs)

pub add_rows-zeros : (p : ℕ) (xs : List ℕ) → AllBelow p xs → add_rows p xs (zeros (length xs)) ≡ xs
add_rows-zeros p [] h = refl
add_rows-zeros p (x ∷ xs) h =
    ap₂ (λ (n : ℕ) (l : List ℕ). n ∷ l) (ap (λ (n : ℕ). n % p) (add-zero x) ∙ mod-eq_of_lt h.0) (add_rows-zeros p xs h.1)

-- the other way to write it, for a row of a given width
pub zeros-add_rows : (p width : ℕ) (xs : List ℕ) → IsRow p width xs → add_rows p (zeros width) xs ≡ xs
zeros-add_rows p width xs row =
    ap (λ (n : ℕ). add_rows p (zeros n) xs) (sym row.count)
    ∙ add_rows_comm p (zeros (length xs)) xs
    ∙ add_rows-zeros p xs row.below

-- the sums of four rows, the two in the middle exchanged
pub add_rows_swap : (p : ℕ) (a b c d : List ℕ)
    → add_rows p (add_rows p a b) (add_rows p c d) ≡ add_rows p (add_rows p a c) (add_rows p b d)
add_rows_swap p a b c d =
    add_rows_assoc p a b (add_rows p c d)
    ∙ ap (λ (r : List ℕ). add_rows p a r)
    (sym (add_rows_assoc p b c d) ∙ ap (λ (r : List ℕ). add_rows p r d) (add_rows_comm p b c) ∙ add_rows_assoc p c b d)
    ∙ sym (add_rows_assoc p a c (add_rows p b d))

-- multiples
pub scale_row-add_rows : (p k : ℕ) (xs ys : List ℕ)
    → scale_row p k (add_rows p xs ys) ≡ add_rows p (scale_row p k xs) (scale_row p k ys)
scale_row-add_rows p k [] ys = refl
scale_row-add_rows p k (x ∷ xs) [] = refl
scale_row-add_rows p k (x ∷ xs) (y ∷ ys) =
    ap₂ (λ (n : ℕ) (l : List ℕ). n ∷ l)
    (mul-mod_second k (x + y) p
    ∙ ap (λ (n : ℕ). n % p) (mul-add k x y)
    ∙ sym (mod-add-mod (k * x) p ((k * y) % p) ∙ add-mod-mod (k * x) (k * y) p))
    (scale_row-add_rows p k xs ys)

pub scale_row-add : (p j k : ℕ) (xs : List ℕ)
    → scale_row p (j + k) xs ≡ add_rows p (scale_row p j xs) (scale_row p k xs)
scale_row-add p j k [] = refl
scale_row-add p j k (x ∷ xs) =
    ap₂ (λ (n : ℕ) (l : List ℕ). n ∷ l)
    (ap (λ (n : ℕ). n % p) (add-mul j k x) ∙ sym (mod-add-mod (j * x) p ((k * x) % p) ∙ add-mod-mod (j * x) (k * x) p))
    (scale_row-add p j k xs)

pub scale_row-scale_row : (p j k : ℕ) (xs : List ℕ) → scale_row p j (scale_row p k xs) ≡ scale_row p (j * k) xs
scale_row-scale_row p j k [] = refl
scale_row-scale_row p j k (x ∷ xs) =
    ap₂ (λ (n : ℕ) (l : List ℕ). n ∷ l)
    (mul-mod_second j (k * x) p ∙ ap (λ (n : ℕ). n % p) (sym (mul_assoc j k x)))
    (scale_row-scale_row p j k xs)

-- a factor counts modulo p alone
pub scale_row-mod : (p k : ℕ) (xs : List ℕ) → scale_row p (k % p) xs ≡ scale_row p k xs
scale_row-mod p k [] = refl
scale_row-mod p k (x ∷ xs) = ap₂ (λ (n : ℕ) (l : List ℕ). n ∷ l) (mul-mod_first k x p) (scale_row-mod p k xs)

pub scale_row-one : (p : ℕ) (xs : List ℕ) → AllBelow p xs → scale_row p 1 xs ≡ xs
scale_row-one p [] h = refl
scale_row-one p (x ∷ xs) h =
    ap₂ (λ (n : ℕ) (l : List ℕ). n ∷ l) (ap (λ (n : ℕ). n % p) (one-mul x) ∙ mod-eq_of_lt h.0) (scale_row-one p xs h.1)

pub scale_row-zero : (p : ℕ) (xs : List ℕ) → 0 < p → scale_row p 0 xs ≡ zeros (length xs)
scale_row-zero p [] h = refl
scale_row-zero p (x ∷ xs) h =
    ap₂ (λ (n : ℕ) (l : List ℕ). n ∷ l) (ap (λ (n : ℕ). n % p) (zero-mul x) ∙ mod-eq_of_lt h) (scale_row-zero p xs h)

-- p copies of a row are zero
pub scale_row-prime : (p : ℕ) (xs : List ℕ) → scale_row p p xs ≡ zeros (length xs)
scale_row-prime p [] = refl
scale_row-prime p (x ∷ xs) = ap₂ (λ (n : ℕ) (l : List ℕ). n ∷ l) (mul-mod_right p x) (scale_row-prime p xs)

pub scale_row-zeros : (p k n : ℕ) → 0 < p → scale_row p k (zeros n) ≡ zeros n
scale_row-zeros p k zero h = refl
scale_row-zeros p k (suc n) h =
    ap₂ (λ (m : ℕ) (l : List ℕ). m ∷ l) (ap (λ (m : ℕ). m % p) (mul-zero k) ∙ mod-eq_of_lt h) (scale_row-zeros p k n h)

-- rows of one width
pub IsRow-zeros : (p width : ℕ) → 0 < p → IsRow p width (zeros width)
IsRow-zeros p width h = record { count = length-replicate width 0; below = zeros-below p width h }

pub IsRow-add_rows : (p width : ℕ) (xs ys : List ℕ) → 0 < p → IsRow p width xs → IsRow p width ys → IsRow p width (add_rows p xs ys)
IsRow-add_rows p width xs ys h row row' = record {
  count = length-add_rows p xs ys (row.count ∙ sym row'.count) ∙ row.count;
  below = add_rows-below p xs ys h;
}

pub IsRow-scale_row : (p width k : ℕ) (xs : List ℕ) → 0 < p → IsRow p width xs → IsRow p width (scale_row p k xs)
IsRow-scale_row p width k xs h row = record {
  count = length-scale_row p k xs ∙ row.count;
  below = scale_row-below p k xs h;
}

pub IsRow-add_scaled : (p width k : ℕ) (xs ys : List ℕ) → 0 < p → IsRow p width xs → IsRow p width ys → IsRow p width (add_scaled p k xs ys)
IsRow-add_scaled p width k xs ys h row row' =
    IsRow-add_rows p width xs (scale_row p k ys) h row (IsRow-scale_row p width k ys h row')

-- a row minus itself: where j + k is a multiple of p, the j-fold and the k-fold cancel
pub scale_row_cancels : (p j k : ℕ) (xs : List ℕ) → 0 < p → (j + k) % p ≡ 0
    → add_rows p (scale_row p j xs) (scale_row p k xs) ≡ zeros (length xs)
scale_row_cancels p j k xs h e =
    sym (scale_row-add p j k xs)
    ∙ sym (scale_row-mod p (j + k) xs)
    ∙ ap (λ (n : ℕ). scale_row p n xs) e
    ∙ scale_row-zero p xs h

-- no copy of a row adds nothing
pub add_scaled-zero : (p : ℕ) (xs ys : List ℕ) → 0 < p → AllBelow p xs → length ys ≡ length xs → add_scaled p 0 xs ys ≡ xs
add_scaled-zero p xs ys h below e =
    ap (add_rows p xs) (scale_row-zero p ys h ∙ ap zeros e) ∙ add_rows-zeros p xs below

-- minus a row is p - 1 times it
pub scaled-negative : (p a : ℕ) → a < p → ((p - 1) * a) % p ≡ (p - a) % p
scaled-negative p zero l =
    let whole : p - 0 ≡ p = omega arith in
    ap (λ (m : ℕ). m % p) (mul-zero (p - 1)) ∙ zero-mod p ∙ sym (mod_self p) ∙ sym (ap (λ (m : ℕ). m % p) whole)
scaled-negative zero (suc b) l = absurd (omega arith)
scaled-negative (suc q) (suc b) l =
    let less : suc q - 1 ≡ q = omega arith in
    let left : q * suc b ≡ q * b + q = mul-suc q b in
    let right : b * suc q ≡ b * q + b = mul-suc b q in
    let swap : b * q ≡ q * b = mul_comm b q in
    let same : q * suc b ≡ (suc q - suc b) + b * suc q = omega arith in
    ap (λ (m : ℕ). (m * suc b) % suc q) less
    ∙ ap (λ (m : ℕ). m % suc q) same
    ∙ add-mul-mod_self_right (suc q - suc b) b (suc q)

pub scale_row-negative : (p : ℕ) (xs : List ℕ) → AllBelow p xs → scale_row p (p - 1) xs ≡ negative_row p xs
scale_row-negative p [] h = refl
scale_row-negative p (x ∷ xs) h = ap₂ (λ (n : ℕ) (l : List ℕ). n ∷ l) (scaled-negative p x h.0) (scale_row-negative p xs h.1)
