-- Lists made place by place, and rows with a single entry: their sums, and a row as the sum of its entries.
use Rattle.std.proofs.Common.{◌≡◌, ℕ, zero, suc, ◌+◌, ◌%◌, ◌<◌, List, ◌∷◌, ◌++◌, get_or, length, replicate, refl, ap, ◌∙◌, arith}
use Rattle.std.proofs.Common.{mod-eq_of_lt}
use Rattle.std.proofs.Math.Nat.{zero-mod, add-zero}
use Rattle.std.proofs.lemmas.List.{length-replicate}
use Rattle.pq_base.specs.Table.{AllBelow}
use Rattle.pq_base.specs.Presentation.{IsNormal}
use Rattle.pc_presentation.specs.Rowed.{row_sum}
use Rattle.pc_presentation.specs.NormalTable.{list_from, single}
use Rattle.pc_presentation.proofs.rows.RowLaws.{AllBelow-zeros, zeros-normal, zeros-row_sum}

pub length-list_from : {A : Type 0} (f : ℕ → A) (i d : ℕ) → length (list_from f i d) ≡ d
length-list_from f i zero = refl
length-list_from f i (suc d) = ap suc (length-list_from f (suc i) d)

pub get_or-list_from : {A : Type 0} (f : ℕ → A) (i d j : ℕ) (a : A) → j < d → get_or (list_from f i d) j a ≡ f (i + j)
get_or-list_from f i zero j a l = absurd (omega arith)
get_or-list_from f i (suc d) zero a l = ap f (let e : i ≡ i + 0 = omega arith in e)
get_or-list_from f i (suc d) (suc j) a l =
    get_or-list_from f (suc i) d j a (omega arith) ∙ ap f (let e : suc i + j ≡ i + suc j = omega arith in e)

-- a row with one entry
pub single-zero : (q t : ℕ) → single q t 0 ≡ replicate q 0
single-zero zero t = refl
single-zero (suc q) zero = refl
single-zero (suc q) (suc t) = ap (λ (x : List ℕ). 0 ∷ x) (single-zero q t)

pub single-normal : (p q t c : ℕ) → c < p → IsNormal p q (single q t c)
single-normal p zero t c l = record { count = refl; below = tt }
single-normal p (suc q) zero c l =
    let z : length (replicate {A = ℕ} q 0) ≡ q = length-replicate {A = ℕ} q 0 in
    record { count = ap suc z; below = (l, AllBelow-zeros p q (omega arith)) }
single-normal p (suc q) (suc t) c l = let r = single-normal p q t c l in record { count = ap suc r.count; below = (omega arith, r.below) }

zeros-sum : (p q : ℕ) → 0 < p → row_sum p (replicate q 0) (replicate q 0) ≡ replicate q 0
zeros-sum p q l = zeros-row_sum p q (replicate q 0) (zeros-normal p q l)

pub single-sum : (p q t a b : ℕ) → 0 < p → row_sum p (single q t a) (single q t b) ≡ single q t ((a + b) % p)
single-sum p zero t a b l = refl
single-sum p (suc q) zero a b l = ap (λ (x : List ℕ). (a + b) % p ∷ x) (zeros-sum p q l)
single-sum p (suc q) (suc t) a b l =
    let z : (0 + 0) % p ≡ 0 = ap (λ (m : ℕ). m % p) (let e : 0 + 0 ≡ 0 = omega arith in e) ∙ zero-mod p in
    ap (λ (m : ℕ). m ∷ row_sum p (single q t a) (single q t b)) z ∙ ap (λ (x : List ℕ). 0 ∷ x) (single-sum p q t a b l)

pub single-front : (p t c : ℕ) (x : List ℕ) → c < p → AllBelow p x
    → row_sum p (single (t + suc (length x)) t c) (replicate (suc t) 0 ++ x) ≡ replicate t 0 ++ c ∷ x
single-front p zero c x l h =
    let n : 0 + suc (length x) ≡ suc (length x) = omega arith in
    let z : (c + 0) % p ≡ c = ap (λ (m : ℕ). m % p) (add-zero c) ∙ mod-eq_of_lt l in
    ap (λ (m : ℕ). row_sum p (single m 0 c) (0 ∷ x)) n
    ∙ ap (λ (m : ℕ). m ∷ row_sum p (replicate (length x) 0) x) z
    ∙ ap (λ (y : List ℕ). c ∷ y) (zeros-row_sum p (length x) x (record { count = refl; below = h }))
single-front p (suc t) c x l h =
    let n : suc t + suc (length x) ≡ suc (t + suc (length x)) = omega arith in
    let z : (0 + 0) % p ≡ 0 = ap (λ (m : ℕ). m % p) (let e : 0 + 0 ≡ 0 = omega arith in e) ∙ zero-mod p in
    ap (λ (m : ℕ). row_sum p (single m (suc t) c) (0 ∷ (replicate (suc t) 0 ++ x))) n
    ∙ ap (λ (m : ℕ). m ∷ row_sum p (single (t + suc (length x)) t c) (replicate (suc t) 0 ++ x)) z
    ∙ ap (λ (y : List ℕ). 0 ∷ y) (single-front p t c x l h)
