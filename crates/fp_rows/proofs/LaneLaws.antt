-- Vectors, lane by lane: a subtraction that is undone where it wraps takes remainders, a table of multiples is looked up,
-- and sums and products of residues fit a lane.
use Rattle.std.proofs.Common.{◌≡◌, ℕ, zero, suc, ◌+◌, ◌-◌, ◌*◌, ◌/◌, ◌%◌, ◌^◌, ◌<◌, ◌≤◌, ◌↔◌, Bool, true, false, not, cond, eqb, ltb}
use Rattle.std.proofs.Common.{IsTrue, ⊎_elim, List, [], ◌∷◌, map, length, get_or, replicate, refl, sym, ap, ap₂, subst, ◌∙◌, arith, w8}
use Rattle.std.proofs.Common.{mod-eq_of_lt, eqb-true, ltb-true, ltb-false, eq-eqb, mul-le-mul_right}
use Rattle.std.specs.List.{range_with_len}
use Rattle.std.proofs.Math.Nat.{add-mul-mod_self_right, add-mod_left, mod-add-div}
use Rattle.std.proofs.lemmas.Bool.{cases_lt, eqb-false}
use Rattle.std.proofs.lemmas.List.{get_or-map, length-map, ext_get_or}
use Rattle.std.proofs.lemmas.List.FromFn.{get_or-range_with_len}
use Rattle.std.proofs.lemmas.Nat.{mod_below}
use Rattle.std.proofs.lemmas.Simd.{mask_l-mod, swz_l, SwzOk, SwzOk-from_below, length-swz_l, get_or-swz_l_below, length-zip2}
use lib.Lanes.{zip2, sel_l, mask_l, top, Each1}
use Rattle.pq_base.specs.Table.{AllBelow}
use Rattle.fp_rows.specs.Rows.{add_rows, scale_row}
use Rattle.fp_rows.specs.Row.{IsZeroRow}
use Rattle.fp_rows.specs.Lanes.{lane_numbers}
use Rattle.fp_rows.proofs.BelowLaws.{get_or-below_within}
use Rattle.fp_rows.proofs.EntryLaws.{get_or-scale_row}

-- what the operators of vectors do in a lane
abbrev pub wrapped_sum : ℕ → ℕ → ℕ
wrapped_sum a b = (a + b) % 256

abbrev pub wrapped_difference : ℕ → ℕ → ℕ
wrapped_difference a b = (a + (256 - b)) % 256

abbrev pub wrapped_product : ℕ → ℕ → ℕ
wrapped_product a b = a * b % 256

abbrev pub below_mask : ℕ → ℕ → ℕ
below_mask a b = cond (ltb a b) 255 0

abbrev pub differ_mask : ℕ → ℕ → ℕ
differ_mask a b = cond (not (eqb a b)) 255 0

-- remainders
lane_remainder : (x m : ℕ) → m ≤ 128 → x < 2 * m
    → cond (top 7 (below_mask x (wrapped_difference x m))) x (wrapped_difference x m) ≡ x % m
lane_remainder x m few h = go (ltb x (wrapped_difference x m)) refl
  where
    small : x < m → wrapped_difference x m ≡ x + (256 - m)
    small l = mod-eq_of_lt (omega arith)

    large : m ≤ x → wrapped_difference x m ≡ x - m
    large l =
        let e : x + (256 - m) ≡ 256 + (x - m) = omega arith in
        ap (λ (n : ℕ). n % 256) e ∙ add-mod_left 256 (x - m) ∙ mod-eq_of_lt (omega arith)

    reduced : m ≤ x → x - m ≡ x % m
    reduced l =
        let e : x ≡ m + (x - m) = omega arith in
        sym (ap (λ (n : ℕ). n % m) e ∙ add-mod_left m (x - m) ∙ mod-eq_of_lt (omega arith))

    go : (t : Bool) → ltb x (wrapped_difference x m) ≡ t → cond (top 7 (cond t 255 0)) x (wrapped_difference x m) ≡ x % m
    go true e =
        ⊎_elim (λ l. sym (mod-eq_of_lt l))
        (λ l. absurd (omega (arith, ltb-true _ _ e, large l))) (cases_lt x m)
    go false e =
        ⊎_elim (λ l. absurd (omega (arith, ltb-false _ _ e, small l)))
        (λ l. large l ∙ reduced l) (cases_lt x m)

pub remainders-folded : (m n : ℕ) (xs : List ℕ) → length xs ≡ n → m ≤ 128 → AllBelow (2 * m) xs
    → sel_l (map (top 7) (zip2 below_mask xs (zip2 wrapped_difference xs (replicate n m)))) xs (zip2 wrapped_difference xs (replicate n m))
    ≡ map (λ x. x % m) xs
remainders-folded m zero [] long few below = refl
remainders-folded m (suc n) [] long few below = absurd (omega arith)
remainders-folded m zero (x ∷ xs) long few below = absurd (omega arith)
remainders-folded m (suc n) (x ∷ xs) long few below =
    ap₂ (λ (a : ℕ) (l : List ℕ). a ∷ l) (lane_remainder x m few below.0) (remainders-folded m n xs (omega arith) few below.1)

remainders-below : (m : ℕ) (xs : List ℕ) → 0 < m → AllBelow m (map (λ x. x % m) xs)
remainders-below m [] some = tt
remainders-below m (x ∷ xs) some = (mod_below x m some, remainders-below m xs some)

pub taken_remainders-below : (m n : ℕ) (xs ys : List ℕ) → 0 < m → m ≡ n → ys ≡ map (λ x. x % m) xs → AllBelow n ys
taken_remainders-below m n xs ys some same is =
    subst (λ (l : List ℕ). AllBelow n l) (sym is) (subst (λ (b : ℕ). AllBelow b (map (λ x. x % m) xs)) same (remainders-below m xs some))

remainder-remainder : (p q x : ℕ) → x % (q * p) % p ≡ x % p
remainder-remainder p q x =
    let r : ℕ = x % (q * p) in
    let d : ℕ = x / (q * p) in
    let e : r + (q * d) * p ≡ r + (q * p) * d = omega arith in
    sym (add-mul-mod_self_right r (q * d) p) ∙ ap (λ (n : ℕ). n % p) (e ∙ mod-add-div x (q * p))

remainders-remainders : (p q : ℕ) (xs : List ℕ) → map (λ x. x % p) (map (λ x. x % (q * p)) xs) ≡ map (λ x. x % p) xs
remainders-remainders p q [] = refl
remainders-remainders p q (x ∷ xs) =
    ap₂ (λ (a : ℕ) (l : List ℕ). a ∷ l) (remainder-remainder p q x) (remainders-remainders p q xs)

-- multiples
products_fit : (x k : ℕ) → x < 16 → k ≤ 12 → x * k < 256
products_fit x k h few =
    let bound : x * k ≤ 15 * k = mul-le-mul_right k (omega arith) in
    omega arith

remainders-products : (p k n : ℕ) (xs : List ℕ) → length xs ≡ n → k ≤ 12 → AllBelow 16 xs
    → map (λ x. x % p) (zip2 wrapped_product xs (replicate n k)) ≡ scale_row p k xs
remainders-products p k zero [] long few below = refl
remainders-products p k (suc n) [] long few below = absurd (omega arith)
remainders-products p k zero (x ∷ xs) long few below = absurd (omega arith)
remainders-products p k (suc n) (x ∷ xs) long few below =
    let turned : x * k ≡ k * x = omega arith in
    ap₂ (λ (a : ℕ) (l : List ℕ). a % p ∷ l) (mod-eq_of_lt (products_fit x k below.0 few) ∙ turned)
    (remainders-products p k n xs (omega arith) few below.1)

range_with_len-below : (p a n : ℕ) → a + n ≤ p → AllBelow p (range_with_len a n)
range_with_len-below p a zero h = tt
range_with_len-below p a (suc n) h = (omega arith, range_with_len-below p (a + 1) n (omega arith))

-- four remainders, each by half as much, are the last one
pub multiples_made : (p k : ℕ) (eight four two one : List ℕ) → k ≤ 12
    → eight ≡ map (λ x. x % (8 * p)) (zip2 wrapped_product lane_numbers (replicate 16 k))
    → four ≡ map (λ x. x % (4 * p)) eight → two ≡ map (λ x. x % (2 * p)) four → one ≡ map (λ x. x % p) two
    → one ≡ scale_row p k lane_numbers
multiples_made p k eight four two one few e8 e4 e2 e1 =
    let last = λ (l : List ℕ). map (λ x. x % p) l in
    let products : List ℕ = zip2 wrapped_product lane_numbers (replicate 16 k) in
    e1 ∙ ap last e2 ∙ remainders-remainders p 2 four ∙ ap last e4 ∙ remainders-remainders p 4 eight ∙ ap last e8
    ∙ remainders-remainders p 8 products
    ∙ remainders-products p k 16 lane_numbers refl few (range_with_len-below 16 0 16 (omega arith))

-- a table that is looked up
AllBelow-Each1 : (p : ℕ) (xs : List ℕ) → AllBelow p xs → Each1 (λ x. x < p) xs
AllBelow-Each1 p [] below = tt
AllBelow-Each1 p (x ∷ xs) below = (below.0, AllBelow-Each1 p xs below.1)

pub looked_up_fits : (xs : List ℕ) → length xs ≡ 16 → AllBelow 16 xs → SwzOk w8 16 16 0 xs
looked_up_fits xs long below = SwzOk-from_below w8 16 1 16 0 xs refl (omega arith) (AllBelow-Each1 16 xs below)

pub looked_up-map : (table xs : List ℕ) → length xs ≡ 16 → AllBelow 16 xs
    → swz_l w8 16 table 0 xs ≡ map (λ x. get_or table x 0) xs
looked_up-map table xs long below =
    ext_get_or 0 _ _ (length-swz_l w8 16 table 0 xs ∙ sym (length-map xs (λ x. get_or table x 0))) (λ i h.
    let within : i < length xs = omega (arith, length-swz_l w8 16 table 0 xs) in
    let place : 16 * ((0 + i) / 16) + get_or xs i 0 ≡ get_or xs i 0 = omega arith in
    get_or-swz_l_below w8 16 table 0 xs i within (get_or-below_within 16 xs i 0 within below)
    ∙ ap (λ (k : ℕ). get_or table k 0) place
    ∙ sym (get_or-map (λ x. get_or table x 0) xs i 0 0 within))

multiples_at : (p k y : ℕ) → 0 < p → y < 16 → get_or (scale_row p k lane_numbers) y 0 ≡ (k * y) % p
multiples_at p k y some h =
    let is : get_or lane_numbers y 0 ≡ y = omega (arith, get_or-range_with_len 0 16 y 0 h) in
    get_or-scale_row p k lane_numbers y some ∙ ap (λ (n : ℕ). (k * n) % p) is

pub multiples-looked_up : (p k : ℕ) (table ys : List ℕ) → 0 < p → table ≡ scale_row p k lane_numbers → AllBelow 16 ys
    → map (λ y. get_or table y 0) ys ≡ scale_row p k ys
multiples-looked_up p k table [] some is below = refl
multiples-looked_up p k table (y ∷ ys) some is below =
    ap₂ (λ (a : ℕ) (l : List ℕ). a ∷ l) (ap (λ (l : List ℕ). get_or l y 0) is ∙ multiples_at p k y some below.0)
    (multiples-looked_up p k table ys some is below.1)

-- sums
pub sums-below : (p : ℕ) (xs ys : List ℕ) → p ≤ 13 → AllBelow p xs → AllBelow p ys → AllBelow (2 * p) (zip2 wrapped_sum xs ys)
sums-below p [] ys few left right = tt
sums-below p (x ∷ xs) [] few left right = tt
sums-below p (x ∷ xs) (y ∷ ys) few left right =
    let same : (x + y) % 256 ≡ x + y = mod-eq_of_lt (omega arith) in
    (omega arith, sums-below p xs ys few left.1 right.1)

pub remainders-sums : (p : ℕ) (xs ys : List ℕ) → p ≤ 13 → AllBelow p xs → AllBelow p ys
    → map (λ x. x % p) (zip2 wrapped_sum xs ys) ≡ add_rows p xs ys
remainders-sums p [] ys few left right = refl
remainders-sums p (x ∷ xs) [] few left right = refl
remainders-sums p (x ∷ xs) (y ∷ ys) few left right =
    let same : (x + y) % 256 ≡ x + y = mod-eq_of_lt (omega arith) in
    ap₂ (λ (a : ℕ) (l : List ℕ). a % p ∷ l) same (remainders-sums p xs ys few left.1 right.1)

-- zeros
lane_differs : (x : ℕ) → (◌≡◌ {A = ℕ} (cond (top 7 (differ_mask x 0)) 1 0) 0) ↔ (x ≡ 0)
lane_differs x = go (eqb x 0) refl
  where
    go : (t : Bool) → eqb x 0 ≡ t → (◌≡◌ {A = ℕ} (cond (top 7 (cond (not t) 255 0)) 1 0) 0) ↔ (x ≡ 0)
    go true e = (λ _. eqb-true _ _ e, λ _. refl)
    go false e = (λ q. absurd (omega arith), λ z. absurd (eqb-false _ _ e z))

mask-IsZeroRow : (n : ℕ) (xs : List ℕ) → length xs ≡ n
    → (mask_l (map (top 7) (zip2 differ_mask xs (replicate n 0))) ≡ 0) ↔ IsZeroRow xs
mask-IsZeroRow zero [] long = (λ _. tt, λ _. refl)
mask-IsZeroRow (suc n) [] long = absurd (omega arith)
mask-IsZeroRow zero (x ∷ xs) long = absurd (omega arith)
mask-IsZeroRow (suc n) (x ∷ xs) long =
    let rest = mask-IsZeroRow n xs (omega arith) in
    (λ e. ((lane_differs x).0 (omega arith), rest.0 (omega arith)), λ h. omega (arith, (lane_differs x).1 h.0, rest.1 h.1))

pub bitmask-IsZeroRow : (xs : List ℕ) → length xs ≡ 16
    → IsTrue (eqb (mask_l (map (top 7) (zip2 differ_mask xs (replicate 16 0))) % 2 ^ 64) 0) ↔ IsZeroRow xs
bitmask-IsZeroRow xs long =
    let masks : List ℕ = zip2 differ_mask xs (replicate 16 0) in
    let few : length (map (top 7) masks) ≤ 64 = omega (arith, length-map masks (top 7), length-zip2 differ_mask xs (replicate 16 0) long) in
    let e : mask_l (map (top 7) masks) % 2 ^ 64 ≡ mask_l (map (top 7) masks) = mask_l-mod (map (top 7) masks) 64 few in
    (λ t. (mask-IsZeroRow 16 xs long).0 (sym e ∙ eqb-true _ _ t), λ z. eq-eqb _ _ (e ∙ (mask-IsZeroRow 16 xs long).1 z))
