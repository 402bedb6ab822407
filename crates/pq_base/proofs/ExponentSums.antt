-- In an elementary presentation joined words have equal exponent sums modulo the prime, so normal words that are joined
-- are equal. The prime is written suc q: an inverse letter counts as q.
use Rattle.std.proofs.Common.{◌≡◌, ℕ, zero, suc, ◌+◌, ◌*◌, ◌%◌, ◌<◌, Bool, true, false, eqb, ℤ, pos, negsuc, neg_ℤ, List, [], ◌∷◌, ◌++◌}
use Rattle.std.proofs.Common.{get_or, length, refl, ap, ap₂, sym, ◌∙◌, arith, add-zero, mul-one, ne_eqb, eq-eqb, mul-add, mod-eq_of_lt}
use Rattle.std.proofs.Common.{mul-zero, suc-mul}
use Rattle.std.proofs.Math.Nat.{add-mul-mod_self_left}
use Rattle.std.proofs.lemmas.List.{ext_get_or, get_or_past}
use Rattle.pq_base.specs.SignedWord.{inv, copies, comm}
use Rattle.pq_base.specs.Presentation.{IsNormal, IsRelatorOf, letter, word_from, normal_word, power_word, commutator_word}
use Rattle.pq_base.specs.Presentation.IsRelatorOf.{power_relator, commutator_relator}
use Rattle.pq_base.specs.Joined.{IsTrivial, Joined}
use Rattle.pq_base.specs.Joined.IsTrivial.{pair, relator}
use Rattle.pq_base.specs.Elementary.{elementary}
use Rattle.pq_base.proofs.words.JoinedLaws.{joined-induction}
use Rattle.pq_base.proofs.tables.TableLaws.{get_or-below}
use Rattle.pq_base.proofs.ElementarySides.{power_word-elementary, commutator_word-elementary}

abbrev pub counted : Bool → ℕ → ℕ
counted true x = x
counted false x = 0

-- the exponent sum of the generator at place k
abbrev pub letter_sum : ℕ → ℕ → ℤ → ℕ
letter_sum q k (pos zero) = 0
letter_sum q k (pos (suc i)) = counted (eqb i k) 1
letter_sum q k (negsuc i) = counted (eqb i k) q

abbrev pub exponent_sum : ℕ → ℕ → List ℤ → ℕ
exponent_sum q k [] = 0
exponent_sum q k (l ∷ w) = letter_sum q k l + exponent_sum q k w

-- how many letters are the generator at place k or its inverse
abbrev pub letter_count : ℕ → ℤ → ℕ
letter_count k (pos zero) = 0
letter_count k (pos (suc i)) = counted (eqb i k) 1
letter_count k (negsuc i) = counted (eqb i k) 1

abbrev pub count_letters : ℕ → List ℤ → ℕ
count_letters k [] = 0
count_letters k (l ∷ w) = letter_count k l + count_letters k w

pub exponent_sum-append : (q k : ℕ) (u v : List ℤ) → exponent_sum q k (u ++ v) ≡ exponent_sum q k u + exponent_sum q k v
exponent_sum-append q k [] v = omega arith
exponent_sum-append q k (l ∷ u) v = omega (arith, exponent_sum-append q k u v)

pub exponent_sum-copies : (q k : ℕ) (u : List ℤ) (m : ℕ) → exponent_sum q k (copies u m) ≡ m * exponent_sum q k u
exponent_sum-copies q k u zero = omega arith
exponent_sum-copies q k u (suc m) =
    omega (arith, exponent_sum-append q k u (copies u m), exponent_sum-copies q k u m, suc-mul m (exponent_sum q k u))

counted_sum : (q : ℕ) (b : Bool) → counted b q + counted b 1 ≡ suc q * counted b 1
counted_sum q true = omega arith
counted_sum q false = omega arith

letter_sum-neg : (q k : ℕ) (l : ℤ) → letter_sum q k (neg_ℤ l) + letter_sum q k l ≡ suc q * letter_count k l
letter_sum-neg q k (pos zero) = omega arith
letter_sum-neg q k (pos (suc i)) = counted_sum q (eqb i k)
letter_sum-neg q k (negsuc i) = omega (arith, counted_sum q (eqb i k))

-- a word and its inverse have sums that add up to a multiple
exponent_sum-inv : (q k : ℕ) (u : List ℤ) → exponent_sum q k (inv u) + exponent_sum q k u ≡ suc q * count_letters k u
exponent_sum-inv q k [] = omega arith
exponent_sum-inv q k (l ∷ u) =
    omega (
      arith,
      exponent_sum-append q k (inv u) (neg_ℤ l ∷ []),
      exponent_sum-inv q k u,
      letter_sum-neg q k l,
      mul-add (suc q) (letter_count k l) (count_letters k u),
    )

pub exponent_sum-comm : (q k : ℕ) (u v : List ℤ)
    → exponent_sum q k (comm u v) ≡ suc q * (count_letters k u + count_letters k v)
exponent_sum-comm q k u v =
    omega (
      arith,
      exponent_sum-append q k (inv u) (inv v ++ (u ++ v)),
      exponent_sum-append q k (inv v) (u ++ v),
      exponent_sum-append q k u v,
      exponent_sum-inv q k u,
      exponent_sum-inv q k v,
      mul-add (suc q) (count_letters k u) (count_letters k v),
    )

-- trivial words have a multiple of the prime as sum
relator_sum : (q n k : ℕ) (r : List ℤ) → IsRelatorOf (elementary (suc q) n) r → (m : ℕ) × (exponent_sum q k r ≡ suc q * m)
relator_sum q n k r (power_relator i h) =
    let none : exponent_sum q k (inv (power_word (elementary (suc q) n) i)) ≡ 0 =
    ap (λ (w : List ℤ). exponent_sum q k (inv w)) (power_word-elementary (suc q) n i) in (
      exponent_sum q k (letter i),
      exponent_sum-append q k (copies (letter i) (suc q)) (inv (power_word (elementary (suc q) n) i))
          ∙ ap₂ (λ (x y : ℕ). x + y) (exponent_sum-copies q k (letter i) (suc q)) none
          ∙ add-zero (suc q * exponent_sum q k (letter i)),
    )
relator_sum q n k r (commutator_relator j i h e) =
    let none : exponent_sum q k (inv (commutator_word (elementary (suc q) n) j i)) ≡ 0 =
    ap (λ (w : List ℤ). exponent_sum q k (inv w)) (commutator_word-elementary (suc q) n j i) in (
      count_letters k (letter j) + count_letters k (letter i),
      exponent_sum-append q k (comm (letter j) (letter i)) (inv (commutator_word (elementary (suc q) n) j i))
          ∙ ap₂ (λ (x y : ℕ). x + y) (exponent_sum-comm q k (letter j) (letter i)) none
          ∙ add-zero (suc q * (count_letters k (letter j) + count_letters k (letter i))),
    )

trivial_sum : (q n k : ℕ) (x : List ℤ) → IsTrivial (elementary (suc q) n) x → (m : ℕ) × (exponent_sum q k x ≡ suc q * m)
trivial_sum q n k x (pair l) = (letter_count k l, omega (arith, letter_sum-neg q k l))
trivial_sum q n k x (relator r h) = relator_sum q n k r h

put_in : (q n k : ℕ) (a x b : List ℤ) → IsTrivial (elementary (suc q) n) x
    → exponent_sum q k (a ++ b) % suc q ≡ exponent_sum q k (a ++ (x ++ b)) % suc q
put_in q n k a x b t =
    let m = trivial_sum q n k x t in
    let parts : exponent_sum q k (a ++ (x ++ b)) ≡ exponent_sum q k (a ++ b) + suc q * m.0 =
    omega (arith, exponent_sum-append q k a (x ++ b), exponent_sum-append q k x b, exponent_sum-append q k a b, m.1) in
    sym (ap (λ (s : ℕ). s % suc q) parts ∙ add-mul-mod_self_left (exponent_sum q k (a ++ b)) (suc q) m.0)

pub joined_sum : (q n k : ℕ) (u v : List ℤ) → Joined (elementary (suc q) n) u v
    → exponent_sum q k u % suc q ≡ exponent_sum q k v % suc q
joined_sum q n k u v c =
    joined-induction (λ (x y : List ℤ). exponent_sum q k x % suc q ≡ exponent_sum q k y % suc q)
    (record { reflexive = λ x. refl; symmetric = λ x y e. sym e; transitive = λ x y z e f. e ∙ f })
    (put_in q n k) c

-- the sums of a word of exponents are the exponents
sum_counted : (q k j x : ℕ) (b : Bool) → eqb j k ≡ b → exponent_sum q k (copies (letter j) x) ≡ counted b x
sum_counted q k j x true e =
    let one : exponent_sum q k (letter j) ≡ 1 = ap (λ (b : Bool). counted b 1 + 0) e in
    exponent_sum-copies q k (letter j) x ∙ ap (λ (s : ℕ). x * s) one ∙ mul-one x
sum_counted q k j x false e =
    let none : exponent_sum q k (letter j) ≡ 0 = ap (λ (b : Bool). counted b 1 + 0) e in
    exponent_sum-copies q k (letter j) x ∙ ap (λ (s : ℕ). x * s) none ∙ mul-zero x

sum_other : (q k j x : ℕ) → (j ≡ k → ⊥) → exponent_sum q k (copies (letter j) x) ≡ 0
sum_other q k j x h = sum_counted q k j x false (ne_eqb j k h)

sum_before : (q k j : ℕ) (e : List ℕ) → k < j → exponent_sum q k (word_from j e) ≡ 0
sum_before q k j [] h = refl
sum_before q k j (x ∷ e) h =
    omega (
      arith,
      exponent_sum-append q k (copies (letter j) x) (word_from (suc j) e),
      sum_other q k j x (λ same. omega arith),
      sum_before q k (suc j) e (omega arith),
    )

pub exponent_sum-word_from : (q k j i : ℕ) (e : List ℕ) → j + i ≡ k → exponent_sum q k (word_from j e) ≡ get_or e i 0
exponent_sum-word_from q k j i [] place = sym (get_or_past [] i 0 (omega arith))
exponent_sum-word_from q k j zero (x ∷ e) place =
    omega (
      arith,
      exponent_sum-append q k (copies (letter j) x) (word_from (suc j) e),
      sum_counted q k j x true (eq-eqb j k (omega arith)),
      sum_before q k (suc j) e (omega arith),
    )
exponent_sum-word_from q k j (suc i) (x ∷ e) place =
    omega (
      arith,
      exponent_sum-append q k (copies (letter j) x) (word_from (suc j) e),
      sum_other q k j x (λ same. omega arith),
      exponent_sum-word_from q k (suc j) i e (omega arith),
    )

-- normal words that are joined are equal
pub elementary-unique : (q n : ℕ) (e f : List ℕ) → IsNormal (suc q) n e → IsNormal (suc q) n f
    → Joined (elementary (suc q) n) (normal_word e) (normal_word f) → e ≡ f
elementary-unique q n e f normal normal' joined =
    let long : length e ≡ n = normal.count in
    let long' : length f ≡ n = normal'.count in
    ext_get_or 0 e f (omega arith) (λ i h.
    sym (mod-eq_of_lt (get_or-below (suc q) e i (omega arith) normal.below))
    ∙ ap (λ (s : ℕ). s % suc q) (sym (exponent_sum-word_from q i 0 i e (omega arith)))
    ∙ joined_sum q n i (normal_word e) (normal_word f) joined
    ∙ ap (λ (s : ℕ). s % suc q) (exponent_sum-word_from q i 0 i f (omega arith))
    ∙ mod-eq_of_lt (get_or-below (suc q) f i (omega arith) normal'.below))
