-- The presentation of the elementary abelian group is consistent and of class 1: letters commute up to joined and their
-- powers are trivial, so each word is joined to a normal word, whose exponents are the word's sums modulo the prime.
-- The prime is written suc q.
use Rattle.std.proofs.Common.{◌≡◌, ℕ, zero, suc, ◌+◌, ◌%◌, ◌<◌, ◌≤◌, ℤ, pos, negsuc, List, [], ◌∷◌, ◌++◌, length, refl, ap, sym, ◌∙◌, subst}
use Rattle.std.proofs.Common.{arith, inl, inr, mod-eq_of_lt}
use Rattle.std.proofs.lemmas.List.{length-replicate, get_or-replicate, ext_get_or}
use Rattle.std.proofs.Math.Nat.{mul-add-mod_self_left}
use Rattle.std.proofs.lemmas.Bool.{cases_lt}
use Rattle.pq_base.specs.SignedWord.{copies, comm, HasLetters}
use Rattle.pq_base.specs.Table.{AllBelow}
use Rattle.pq_base.specs.Presentation.{letter, word_from}
use Rattle.pq_base.specs.Joined.{Joined, IsConsistent}
use Rattle.pq_base.specs.Series.{NextWord, InSeries, HasClass}
use Rattle.pq_base.specs.Series.NextWord.{no_word, then_commutator, then_power}
use Rattle.pq_base.specs.Elementary.{zeros, elementary, ElementaryIsConsistentOfClassOne}
use Rattle.pq_base.proofs.words.WordLaws.{word_from-zeros}
use Rattle.pq_base.proofs.words.JoinedLaws.{joined-refl, joined-from_equal, joined-sym, joined-trans, joined-append_left}
use Rattle.pq_base.proofs.words.JoinedLaws.{joined-append_right, joined-solve_right, commute-from_comm, commutator-joined, power-joined}
use Rattle.pq_base.proofs.tables.TableLaws.{get_or-below}
use Rattle.pq_base.proofs.ElementarySides.{power_word-elementary, commutator_word-elementary, zeros-below, elementary-presentation}
use Rattle.pq_base.proofs.ExponentSums.{count_letters, exponent_sum, exponent_sum-append, exponent_sum-copies, exponent_sum-comm}
use Rattle.pq_base.proofs.ExponentSums.{exponent_sum-word_from, joined_sum, elementary-unique}

-- powers of letters are trivial, and letters commute
pub letter_power : (p n i : ℕ) → i < n → Joined (elementary p n) (copies (letter i) p) []
letter_power p n i h = subst (λ (w : List ℤ). Joined (elementary p n) (copies (letter i) p) w) (power_word-elementary p n i)
    (power-joined (elementary p n) i h)

swap : (p n j i : ℕ) → j < n → i < j → Joined (elementary p n) (letter j ++ letter i) (letter i ++ letter j)
swap p n j i h e = commute-from_comm (letter j) (letter i)
    (subst (λ (w : List ℤ). Joined (elementary p n) (comm (letter j) (letter i)) w) (commutator_word-elementary p n j i)
    (commutator-joined (elementary p n) j i h e))

-- a letter passes copies of an earlier one
pass : (p n j i x : ℕ) (w : List ℤ) → j < n → i < j
    → Joined (elementary p n) (letter j ++ (copies (letter i) x ++ w)) (copies (letter i) x ++ (letter j ++ w))
pass p n j i zero w h e = joined-refl (elementary p n) (letter j ++ w)
pass p n j i (suc x) w h e =
    joined-trans (joined-append_right (copies (letter i) x ++ w) (swap p n j i h e))
    (joined-append_left (letter i) (pass p n j i x w h e))

-- exponents of the generators from place j on whose word a word is joined to
pub record Settles (p n j m : ℕ) (w : List ℤ) : Type 0 where
  pub exponents : List ℕ
  pub count : length exponents ≡ m
  pub below : AllBelow p exponents
  pub joined : Joined (elementary p n) w (word_from j exponents)

-- a letter before a word of exponents
before_own : (q n j x m : ℕ) (e : List ℕ) → j < n → x < suc q → suc (length e) ≡ m → AllBelow (suc q) e
    → Settles (suc q) n j m (letter j ++ (copies (letter j) x ++ word_from (suc j) e))
before_own q n j x m e h below count all = elim (cases_lt (suc x) (suc q)) [
  | inl less ↦ record {
    exponents = suc x ∷ e;
    count = count;
    below = (less, all);
    joined = joined-refl (elementary (suc q) n) (letter j ++ (copies (letter j) x ++ word_from (suc j) e));
  }
  | inr full ↦
      let is : q ≡ x = omega arith in
      record {
        exponents = 0 ∷ e;
        count = count;
        below = (omega arith, all);
        joined =
            subst (λ (y : ℕ). Joined (elementary (suc q) n) (letter j ++ (copies (letter j) y ++ word_from (suc j) e))
            (word_from (suc j) e)) is
            (joined-append_right (word_from (suc j) e) (letter_power (suc q) n j h));
      }
]

letter_before : (q n j i m : ℕ) (e : List ℕ) → j ≤ i → i < n → i < j + m → length e ≡ m → AllBelow (suc q) e
    → Settles (suc q) n j m (letter i ++ word_from j e)
letter_before q n j i m [] h below within count all = absurd (omega arith)
letter_before q n j i m (x ∷ e) h below within count all = elim (cases_lt j i) [
  | inl later ↦
      let rest : Settles (suc q) n (suc j) (length e) (letter i ++ word_from (suc j) e) =
      letter_before q n (suc j) i (length e) e (omega arith) below (omega arith) refl all.1 in
      let long : length rest.exponents ≡ length e = rest.count in
      record {
        exponents = x ∷ rest.exponents;
        count = omega arith;
        below = (all.0, rest.below);
        joined = joined-trans (pass (suc q) n i j x (word_from (suc j) e) below later)
            (joined-append_left (copies (letter j) x) rest.joined);
      }
  | inr own ↦
      let is : j ≡ i = omega arith in
      subst (λ (k : ℕ). Settles (suc q) n j m (letter k ++ (copies (letter j) x ++ word_from (suc j) e))) is
      (before_own q n j x m e (omega arith) all.0 (omega arith) all.1)
]

-- a word that is joined to one that settles
settles_from : (p n m : ℕ) (v w : List ℤ) → Joined (elementary p n) v w → Settles p n 0 m w → Settles p n 0 m v
settles_from p n m v w c s = record { exponents = s.exponents; count = s.count; below = s.below; joined = joined-trans c s.joined }

one_letter : (q n i : ℕ) (w : List ℤ) → i < n → Settles (suc q) n 0 n w → Settles (suc q) n 0 n (letter i ++ w)
one_letter q n i w h s =
    settles_from (suc q) n n (letter i ++ w) (letter i ++ word_from 0 s.exponents) (joined-append_left (letter i) s.joined)
    (letter_before q n 0 i n s.exponents (omega arith) h (omega arith) s.count s.below)

many_letters : (q n i x : ℕ) (w : List ℤ) → i < n → Settles (suc q) n 0 n w → Settles (suc q) n 0 n (copies (letter i) x ++ w)
many_letters q n i zero w h s = s
many_letters q n i (suc x) w h s = one_letter q n i (copies (letter i) x ++ w) h (many_letters q n i x w h s)

-- each word over the generators is joined to a normal word; an inverse is one copy less than the prime
settled : (q n : ℕ) (w : List ℤ) → HasLetters n w → Settles (suc q) n 0 n w
settled q n [] h = record {
  exponents = zeros n;
  count = length-replicate n 0;
  below = zeros-below (suc q) n (omega arith);
  joined = joined-from_equal (elementary (suc q) n) (sym (word_from-zeros 0 n));
}
settled q n (pos zero ∷ w) h = absurd h.0
settled q n (pos (suc i) ∷ w) h = one_letter q n i w h.0 (settled q n w h.1)
settled q n (negsuc i ∷ w) h =
    settles_from (suc q) n n (negsuc i ∷ w) (copies (letter i) q ++ w)
    (joined-append_right w (joined-sym (joined-solve_right (letter i) (copies (letter i) q) (letter_power (suc q) n i h.0))))
    (many_letters q n i q w h.0 (settled q n w h.1))

-- a word whose sums are multiples of the prime is trivial
pub trivial-from_sums : (q n : ℕ) (w : List ℤ) → HasLetters n w
    → ((k : ℕ) → k < n → exponent_sum q k w % suc q ≡ 0) → Joined (elementary (suc q) n) w []
trivial-from_sums q n w h sums =
    let s = settled q n w h in
    let long : length s.exponents ≡ n = s.count in
    let none : s.exponents ≡ zeros n = ext_get_or 0 s.exponents (zeros n) (s.count ∙ sym (length-replicate n 0)) (λ k below.
    sym (mod-eq_of_lt (get_or-below (suc q) s.exponents k (omega arith) s.below))
    ∙ ap (λ (x : ℕ). x % suc q) (sym (exponent_sum-word_from q k 0 k s.exponents (omega arith)))
    ∙ sym (joined_sum q n k w (word_from 0 s.exponents) s.joined)
    ∙ sums k (omega arith)
    ∙ sym (get_or-replicate n k 0 0 (omega arith))) in
    joined-trans s.joined (joined-from_equal (elementary (suc q) n) (ap (word_from 0) none ∙ word_from-zeros 0 n))

product_sums : (q n k : ℕ) (w : List ℤ) → NextWord (elementary (suc q) n) (InSeries (elementary (suc q) n) 0) w
    → exponent_sum q k w % suc q ≡ 0
product_sums q n k w no_word = mod-eq_of_lt (omega arith)
product_sums q n k w (then_commutator u v x h l next) =
    ap (λ (s : ℕ). s % suc q)
    (exponent_sum-append q k (comm u v) x ∙ ap (λ (s : ℕ). s + exponent_sum q k x) (exponent_sum-comm q k u v))
    ∙ mul-add-mod_self_left (suc q) (count_letters k u + count_letters k v) (exponent_sum q k x)
    ∙ product_sums q n k x next
product_sums q n k w (then_power u x h next) =
    ap (λ (s : ℕ). s % suc q)
    (exponent_sum-append q k (copies u (suc q)) x ∙ ap (λ (s : ℕ). s + exponent_sum q k x) (exponent_sum-copies q k u (suc q)))
    ∙ mul-add-mod_self_left (suc q) (exponent_sum q k u) (exponent_sum q k x)
    ∙ product_sums q n k x next

elementary-consistent : (q n : ℕ) → IsConsistent (elementary (suc q) n)
elementary-consistent q n = record {
  unique = elementary-unique q n;
  reached = λ w h.
      let s = settled q n w h in
      (s.exponents, record { normal = record { count = s.count; below = s.below }; joined = s.joined });
}

elementary-class : (q n : ℕ) → HasClass (elementary (suc q) n) 1
elementary-class q n w h = trivial-from_sums q n w h.letters
    (λ k below. joined_sum q n k w h.product h.joined ∙ product_sums q n k h.product h.next)

pub elementary_laws : ElementaryIsConsistentOfClassOne
elementary_laws zero n h = absurd (omega arith)
elementary_laws (suc q) n h = record {
  presentation = elementary-presentation (suc q) n h;
  consistent = elementary-consistent q n;
  class = elementary-class q n;
}
