-- In a group table the first place of 0 in a row is the inverse on both sides, and products cancel.
use Rattle.std.proofs.Common.{◌≡◌, ℕ, zero, suc, ◌+◌, ◌*◌, ◌<◌, ℤ, pos, negsuc, List, [], ◌∷◌, get_or, length, refl, ap, sym, ◌∙◌, add-one}
use Rattle.std.proofs.Common.{arith}
use Rattle.std.proofs.Math.Nat.{zero-add, suc-add, mul-zero, mul-suc}
use Rattle.pq_base.specs.Table.{Table, IsGroup, AllBelow, times, place_of_zero, inverse, element_of, value, power, commutator}

get_or-place_of_zero : (xs : List ℕ) → get_or xs (place_of_zero xs) 0 ≡ 0
get_or-place_of_zero [] = refl
get_or-place_of_zero (zero ∷ xs) = refl
get_or-place_of_zero (suc x ∷ xs) = get_or-place_of_zero xs

place_of_zero-le : (xs : List ℕ) (b : ℕ) → b < length xs → get_or xs b 0 ≡ 0 → place_of_zero xs < length xs
place_of_zero-le [] b l e = absurd (omega arith)
place_of_zero-le (zero ∷ xs) b l e = omega arith
place_of_zero-le (suc x ∷ xs) zero l e = cc
place_of_zero-le (suc x ∷ xs) (suc b) l e = let i = place_of_zero-le xs b (omega arith) e in omega arith

-- inverses
pub times-inverse : (T : Table) (a : ℕ) → times T a (inverse T a) ≡ 0
times-inverse T a = get_or-place_of_zero (get_or T.rows a [])

pub inverse-below : (T : Table) → IsGroup T → (a : ℕ) → a < T.size → inverse T a < T.size
inverse-below T g a l =
    let w = g.widths a l in
    let h = g.inverses a l in
    let b : h.0 < length (get_or T.rows a []) = omega (arith, h.1) in
    let i = place_of_zero-le (get_or T.rows a []) h.0 b h.2 in
    omega arith

pub inverse-times : (T : Table) → IsGroup T → (a : ℕ) → a < T.size → times T (inverse T a) a ≡ 0
inverse-times T g a l =
    let h = g.inverses a l in
    let c = inverse-below T g a l in
    let same : inverse T a ≡ h.0 =
    sym (g.neutral_left (inverse T a) c)
    ∙ ap (λ (x : ℕ). times T x (inverse T a)) (sym h.3)
    ∙ g.associative h.0 a (inverse T a) h.1 l c
    ∙ ap (times T h.0) (times-inverse T a)
    ∙ g.neutral_right h.0 h.1 in
    ap (λ (x : ℕ). times T x a) same ∙ h.3

-- cancelling
pub inverse-times-times : (T : Table) → IsGroup T → (a b : ℕ) → a < T.size → b < T.size → times T (inverse T a) (times T a b) ≡ b
inverse-times-times T g a b l m =
    sym (g.associative (inverse T a) a b (inverse-below T g a l) l m)
    ∙ ap (λ (x : ℕ). times T x b) (inverse-times T g a l) ∙ g.neutral_left b m

pub times-inverse-times : (T : Table) → IsGroup T → (a b : ℕ) → a < T.size → b < T.size → times T a (times T (inverse T a) b) ≡ b
times-inverse-times T g a b l m =
    sym (g.associative a (inverse T a) b l (inverse-below T g a l) m)
    ∙ ap (λ (x : ℕ). times T x b) (times-inverse T a) ∙ g.neutral_left b m

pub times-times-inverse : (T : Table) → IsGroup T → (a b : ℕ) → a < T.size → b < T.size → times T (times T a b) (inverse T b) ≡ a
times-times-inverse T g a b l m =
    g.associative a b (inverse T b) l m (inverse-below T g b m) ∙ ap (times T a) (times-inverse T b) ∙ g.neutral_right a l

pub times-cancel_left : (T : Table) → IsGroup T → (c a b : ℕ) → c < T.size → a < T.size → b < T.size → times T c a ≡ times T c b → a ≡ b
times-cancel_left T g c a b k l m e =
    sym (inverse-times-times T g c a k l) ∙ ap (times T (inverse T c)) e ∙ inverse-times-times T g c b k m

pub times-cancel_right : (T : Table) → IsGroup T → (c a b : ℕ) → c < T.size → a < T.size → b < T.size → times T a c ≡ times T b c → a ≡ b
times-cancel_right T g c a b k l m e =
    sym (times-times-inverse T g a c l k) ∙ ap (λ (x : ℕ). times T x (inverse T c)) e ∙ times-times-inverse T g b c m k

pub inverse-unique : (T : Table) → IsGroup T → (a b : ℕ) → a < T.size → b < T.size → times T a b ≡ 0 → b ≡ inverse T a
inverse-unique T g a b l m e =
    times-cancel_left T g a b (inverse T a) l m (inverse-below T g a l) (e ∙ sym (times-inverse T a))

pub inverse-zero : (T : Table) → IsGroup T → inverse T 0 ≡ 0
inverse-zero T g = sym (inverse-unique T g 0 0 g.nonempty g.nonempty (g.neutral_left 0 g.nonempty))

pub inverse-inverse : (T : Table) → IsGroup T → (a : ℕ) → a < T.size → inverse T (inverse T a) ≡ a
inverse-inverse T g a l = sym (inverse-unique T g (inverse T a) a (inverse-below T g a l) l (inverse-times T g a l))

pub inverse-of_times : (T : Table) → IsGroup T → (a b : ℕ) → a < T.size → b < T.size
    → inverse T (times T a b) ≡ times T (inverse T b) (inverse T a)
inverse-of_times T g a b l m =
    let i = inverse-below T g a l in
    let j = inverse-below T g b m in
    sym (inverse-unique T g (times T a b) (times T (inverse T b) (inverse T a)) (g.closed a b l m)
    (g.closed (inverse T b) (inverse T a) j i)
    (g.associative a b (times T (inverse T b) (inverse T a)) l m (g.closed (inverse T b) (inverse T a) j i)
    ∙ ap (times T a) (times-inverse-times T g b (inverse T a) m i) ∙ times-inverse T a))

-- what is below the size
pub get_or-below : (n : ℕ) (f : List ℕ) (i : ℕ) → 0 < n → AllBelow n f → get_or f i 0 < n
get_or-below n [] i l h = l
get_or-below n (x ∷ f) zero l h = h.0
get_or-below n (x ∷ f) (suc i) l h = get_or-below n f i l h.1

pub element-below : (T : Table) → IsGroup T → (f : List ℕ) → AllBelow T.size f → (k : ℤ) → element_of T f k < T.size
element-below T g f h (pos zero) = g.nonempty
element-below T g f h (pos (suc n)) = get_or-below T.size f n g.nonempty h
element-below T g f h (negsuc n) = inverse-below T g (get_or f n 0) (get_or-below T.size f n g.nonempty h)

pub value-below : (T : Table) → IsGroup T → (f : List ℕ) → AllBelow T.size f → (w : List ℤ) → value T f w < T.size
value-below T g f h [] = g.nonempty
value-below T g f h (k ∷ w) = g.closed (element_of T f k) (value T f w) (element-below T g f h k) (value-below T g f h w)

pub power-below : (T : Table) → IsGroup T → (a n : ℕ) → a < T.size → power T a n < T.size
power-below T g a zero l = g.nonempty
power-below T g a (suc n) l = g.closed a (power T a n) l (power-below T g a n l)

pub commutator-below : (T : Table) → IsGroup T → (a b : ℕ) → a < T.size → b < T.size → commutator T a b < T.size
commutator-below T g a b l m =
    g.closed (inverse T a) (times T (inverse T b) (times T a b)) (inverse-below T g a l)
    (g.closed (inverse T b) (times T a b) (inverse-below T g b m) (g.closed a b l m))

-- powers
pub power-add : (T : Table) → IsGroup T → (a m n : ℕ) → a < T.size → power T a (m + n) ≡ times T (power T a m) (power T a n)
power-add T g a zero n l = ap (power T a) (zero-add n) ∙ sym (g.neutral_left (power T a n) (power-below T g a n l))
power-add T g a (suc m) n l =
    ap (power T a) (suc-add m n) ∙ ap (times T a) (power-add T g a m n l)
    ∙ sym (g.associative a (power T a m) (power T a n) l (power-below T g a m l) (power-below T g a n l))

pub power-one : (T : Table) → IsGroup T → (a : ℕ) → a < T.size → power T a 1 ≡ a
power-one T g a l = g.neutral_right a l

pub power-of_zero : (T : Table) → IsGroup T → (n : ℕ) → power T 0 n ≡ 0
power-of_zero T g zero = refl
power-of_zero T g (suc n) = g.neutral_left (power T 0 n) (power-below T g 0 n g.nonempty) ∙ power-of_zero T g n

pub times-power : (T : Table) → IsGroup T → (a n : ℕ) → a < T.size → times T a (power T a n) ≡ times T (power T a n) a
times-power T g a n l =
    ap (power T a) (sym (add-one n)) ∙ power-add T g a n 1 l ∙ ap (times T (power T a n)) (power-one T g a l)

pub power-mul : (T : Table) → IsGroup T → (a m n : ℕ) → a < T.size → power T a (m * n) ≡ power T (power T a m) n
power-mul T g a m zero l = ap (power T a) (mul-zero m)
power-mul T g a m (suc n) l =
    ap (power T a) (mul-suc m n) ∙ power-add T g a (m * n) m l
    ∙ ap (λ (x : ℕ). times T x (power T a m)) (power-mul T g a m n l)
    ∙ sym (times-power T g (power T a m) n (power-below T g a m l))

-- elements that commute: powers commute too, and the power of the product is the product of the powers
pub power-commute : (T : Table) → IsGroup T → (a b n : ℕ) → a < T.size → b < T.size → times T a b ≡ times T b a
    → times T (power T a n) b ≡ times T b (power T a n)
power-commute T g a b zero l m e = g.neutral_left b m ∙ sym (g.neutral_right b m)
power-commute T g a b (suc n) l m e =
    let k = power-below T g a n l in
    g.associative a (power T a n) b l k m
    ∙ ap (times T a) (power-commute T g a b n l m e)
    ∙ sym (g.associative a b (power T a n) l m k)
    ∙ ap (λ (x : ℕ). times T x (power T a n)) e
    ∙ g.associative b a (power T a n) m l k

pub power-times : (T : Table) → IsGroup T → (a b n : ℕ) → a < T.size → b < T.size → times T a b ≡ times T b a
    → power T (times T a b) n ≡ times T (power T a n) (power T b n)
power-times T g a b zero l m e = sym (g.neutral_left 0 g.nonempty)
power-times T g a b (suc n) l m e =
    let j = power-below T g a n l in
    let k = power-below T g b n m in
    ap (times T (times T a b)) (power-times T g a b n l m e)
    ∙ g.associative a b (times T (power T a n) (power T b n)) l m (g.closed (power T a n) (power T b n) j k)
    ∙ ap (times T a) (sym (g.associative b (power T a n) (power T b n) m j k)
    ∙ ap (λ (x : ℕ). times T x (power T b n)) (sym (power-commute T g a b n l m e))
    ∙ g.associative (power T a n) b (power T b n) j m k)
    ∙ sym (g.associative a (power T a n) (times T b (power T b n)) l j (g.closed b (power T b n) m k))

pub inverse-power : (T : Table) → IsGroup T → (a n : ℕ) → a < T.size → inverse T (power T a n) ≡ power T (inverse T a) n
inverse-power T g a zero l = inverse-zero T g
inverse-power T g a (suc n) l =
    let k = power-below T g a n l in
    inverse-of_times T g a (power T a n) l k
    ∙ ap (λ (x : ℕ). times T x (inverse T a)) (inverse-power T g a n l)
    ∙ sym (times-power T g (inverse T a) n (inverse-below T g a l))
