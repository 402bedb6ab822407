-- Numbers below p ^ n are the lists of n digits below p.
use Rattle.std.proofs.Common.{◌≡◌, ℕ, zero, suc, ◌+◌, ◌*◌, ◌/◌, ◌%◌, ◌^◌, ◌<◌, List, [], ◌∷◌, replicate, refl, ap, sym, ◌∙◌, subst, arith}
use Rattle.std.proofs.lemmas.Nat.{mod-mul-add, div-mul-add}
use Rattle.std.proofs.Math.Nat.{pow-zero, pow-suc, div-lt_iff_lt-mul, mod-add-div', zero-mod, zero-div}
use Rattle.pq_base.specs.Presentation.{IsNormal}
use Rattle.pc_presentation.specs.NormalTable.{number_of, digits}

pub digits-normal : (p n m : ℕ) → 0 < p → IsNormal p n (digits p n m)
digits-normal p zero m l = record { count = refl; below = tt }
digits-normal p (suc n) m l =
    let r = digits-normal p n (m / p) l in
    let e : m % p < p = omega arith in
    record { count = ap suc r.count; below = (e, r.below) }

pub digits-number_of : (p n : ℕ) (e : List ℕ) → IsNormal p n e → digits p n (number_of p e) ≡ e
digits-number_of p zero [] h = refl
digits-number_of p zero (x ∷ e) h = let c = h.count in absurd (omega arith)
digits-number_of p (suc n) [] h = let c = h.count in absurd (omega arith)
digits-number_of p (suc n) (x ∷ e) h =
    let c = h.count in
    let rest : IsNormal p n e = record { count = omega arith; below = h.below.1 } in
    ap (λ (m : ℕ). m ∷ digits p n ((number_of p e * p + x) / p)) (mod-mul-add (number_of p e) p x h.below.0)
    ∙ ap (λ (m : ℕ). x ∷ digits p n m) (div-mul-add (number_of p e) p x h.below.0)
    ∙ ap (λ (u : List ℕ). x ∷ u) (digits-number_of p n e rest)

pub number_of-below : (p n : ℕ) (e : List ℕ) → IsNormal p n e → number_of p e < p ^ n
number_of-below p zero [] h = let e = pow-zero p in omega arith
number_of-below p zero (x ∷ e) h = let c = h.count in absurd (omega arith)
number_of-below p (suc n) [] h = let c = h.count in absurd (omega arith)
number_of-below p (suc n) (x ∷ e) h =
    let c = h.count in
    let l = h.below.0 in
    let positive : 0 < p = omega arith in
    let rest : IsNormal p n e = record { count = omega arith; below = h.below.1 } in
    let quotient : (number_of p e * p + x) / p < p ^ n =
    subst (λ (m : ℕ). m < p ^ n) (sym (div-mul-add (number_of p e) p x l)) (number_of-below p n e rest) in
    subst (λ (m : ℕ). number_of p e * p + x < m) (sym (pow-suc p n)) ((div-lt_iff_lt-mul positive).0 quotient)

pub number_of-digits : (p n m : ℕ) → 0 < p → m < p ^ n → number_of p (digits p n m) ≡ m
number_of-digits p zero m l h = let e = pow-zero p in omega arith
number_of-digits p (suc n) m l h =
    let h' : m < p ^ n * p = subst (λ (x : ℕ). m < x) (pow-suc p n) h in
    let quotient : m / p < p ^ n = (div-lt_iff_lt-mul l).1 h' in
    ap (λ (x : ℕ). x * p + m % p) (number_of-digits p n (m / p) l quotient)
    ∙ (let e : m / p * p + m % p ≡ m % p + m / p * p = omega arith in e)
    ∙ mod-add-div' m p

pub number_of-zeros : (p n : ℕ) → number_of p (replicate n 0) ≡ 0
number_of-zeros p zero = refl
number_of-zeros p (suc n) = ap (λ (x : ℕ). x * p + 0) (number_of-zeros p n) ∙ (let e : 0 * p + 0 ≡ 0 = omega arith in e)

pub digits-zero : (p n : ℕ) → digits p n 0 ≡ replicate n 0
digits-zero p zero = refl
digits-zero p (suc n) =
    ap (λ (x : ℕ). x ∷ digits p n (0 / p)) (zero-mod p)
    ∙ ap (λ (x : ℕ). 0 ∷ digits p n x) (zero-div p) ∙ ap (λ (u : List ℕ). 0 ∷ u) (digits-zero p n)

pub power-positive : (p n : ℕ) → 0 < p → 0 < p ^ n
power-positive p n l =
    let z : IsNormal p n (digits p n 0) = digits-normal p n 0 l in
    let b = number_of-below p n (digits p n 0) z in
    omega arith
