-- A power of a power is one power, a conjugate of a conjugate one conjugate, and the inverse of a conjugate the conjugate
-- of the inverse.
use Rattle.std.proofs.Common.{◌≡◌, ◌≤◌, ◌<◌, ℕ, zero, suc, ◌+◌, ◌*◌, Bool, true, false, ℤ, pos, neg_ℤ, List, [], ◌∷◌, length, refl, ap, sym}
use Rattle.std.proofs.Common.{◌∙◌, arith}
use Rattle.std.proofs.lemmas.List.{append-nil}
use mathlib.Core.Bool.{not, beq}
use Rattle.std.proofs.Math.Nat.{zero-mul, mul_assoc, mul_comm, le-mul_of_pos_right}
use Rattle.pq_base.specs.SignedWord.{copies, pow, conj}
use Rattle.pq_base.proofs.words.WordLaws.{inv-inv, inv-copies, inv-conj, copies-one, copies-nil, copies-mul, pow-neg}
use Rattle.free_words.proofs.Lengths.{length-conj}
use Rattle.lpres_reader.specs.Recipes.{signed, power_of}
use Rattle.lpres_reader.proofs.recipes.RecipeLaws.{length-power_of}

-- the letters of a factor
pub length-factor : (b : Bool) (u v : List ℤ) (t : ℕ) → length (conj (power_of b u t) v) ≡ length u * t + 2 * length v
length-factor b u v t =
    let n : length (power_of b u t) ≡ length u * t = length-power_of b u t ∙ mul_comm t (length u) in
    length-conj (power_of b u t) v ∙ ap (λ (m : ℕ). m + 2 * length v) n

pub factor-word : (u : List ℤ) → conj (power_of false u 1) [] ≡ u
factor-word u = append-nil (power_of false u 1) ∙ copies-one u

pub signed-signed : (b c : Bool) (u : List ℤ) → signed b (signed c u) ≡ signed (not (beq c b)) u
signed-signed true true u = inv-inv u
signed-signed true false u = refl
signed-signed false true u = refl
signed-signed false false u = refl

signed-copies : (b : Bool) (u : List ℤ) (n : ℕ) → signed b (copies u n) ≡ copies (signed b u) n
signed-copies true u n = inv-copies u n
signed-copies false u n = refl

-- the power of a power
pub power_of-power_of : (b c : Bool) (u : List ℤ) (t s : ℕ) → power_of b (power_of c u t) s ≡ power_of (not (beq c b)) u (t * s)
power_of-power_of b c u t s =
    ap (λ (x : List ℤ). copies x s) (signed-copies b (signed c u) t ∙ ap (λ (x : List ℤ). copies x t) (signed-signed b c u))
    ∙ sym (copies-mul (signed (not (beq c b)) u) t s)

signed-power_of : (b c : Bool) (u : List ℤ) (t : ℕ) → signed b (power_of c u t) ≡ power_of (not (beq c b)) u t
signed-power_of b c u t = signed-copies b (signed c u) t ∙ ap (λ (x : List ℤ). copies x t) (signed-signed b c u)

signed-conj : (b : Bool) (u v : List ℤ) → signed b (conj u v) ≡ conj (signed b u) v
signed-conj true u v = inv-conj u v
signed-conj false u v = refl

-- the inverse of a factor
pub factor-signed : (b c : Bool) (u v : List ℤ) (t : ℕ) → conj (power_of (not (beq c b)) u t) v ≡ power_of b (conj (power_of c u t) v) 1
factor-signed b c u v t =
    sym (copies-one (signed b (conj (power_of c u t) v))
    ∙ signed-conj b (power_of c u t) v ∙ ap (λ (x : List ℤ). conj x v) (signed-power_of b c u t))

-- so many copies of a factor that is no conjugate
pub factor-repeated : (b c : Bool) (u v : List ℤ) (t s : ℕ) → length v ≡ 0
    → conj (power_of (not (beq c b)) u (t * s)) v ≡ power_of b (conj (power_of c u t) v) s
factor-repeated b c u [] t s e =
    append-nil (power_of (not (beq c b)) u (t * s))
    ∙ sym (ap (λ (x : List ℤ). power_of b x s) (append-nil (power_of c u t)) ∙ power_of-power_of b c u t s)
factor-repeated b c u (k ∷ v) t s e = absurd (omega arith)

pub power_of-empty : (b : Bool) (u : List ℤ) (s : ℕ) → length u ≡ 0 → u ≡ power_of b u s
power_of-empty true [] s e = sym (copies-nil s)
power_of-empty false [] s e = sym (copies-nil s)
power_of-empty b (k ∷ u) s e = absurd (omega arith)

-- the copies of copies are not too many where there is a letter
pub repeated-few : (m t s : ℕ) → 0 < m * t → m * t * s ≤ 65536 → t * s ≤ 65536
repeated-few zero t s some small = absurd (omega (arith, zero-mul t))
repeated-few (suc m) t s some small =
    let e : suc m * t * s ≡ t * s * suc m = mul_assoc (suc m) t s ∙ mul_comm (suc m) (t * s) in
    let le : t * s ≤ t * s * suc m = le-mul_of_pos_right (t * s) (omega arith) in
    omega arith

-- a power by a written exponent
pub pow-negative : (u : List ℤ) (n : ℕ) → pow u (neg_ℤ (pos n)) ≡ power_of true u n
pow-negative u n = pow-neg u (pos n) ∙ inv-copies u n
