-- The group of order two as a presentation: a word is joined to the normal word of its value in the table of two
-- elements. So it is consistent, has class 1 and not class 0, and its answer is the largest quotient of class 1 of the
-- free group of rank 1.
use Rattle.std.proofs.Common.{◌≡◌, ◌<◌, ℕ, zero, suc, ℤ, pos, negsuc, List, [], ◌∷◌, refl, sym, ap, ◌∙◌, subst, lit<, arith}
use Rattle.pq_base.specs.SignedWord.{comm, copies, IsLetter, HasLetters}
use Rattle.pq_base.specs.LPresentation.IsRelator.{fixed_relator}
use Rattle.pq_base.specs.Table.{InLevel, AllBelow, times, element_of, value}
use Rattle.pq_base.specs.Table.NextElement.{no_element, times_commutator, times_power}
use Rattle.pq_base.specs.Presentation.{IsNormal, normal_word}
use Rattle.pq_base.specs.Presentation.IsRelatorOf.{power_relator}
use Rattle.pq_base.specs.Joined.{IsTrivial, Move, Joined, Reaches, IsConsistent}
use Rattle.pq_base.specs.Joined.Chain.{done, step}
use Rattle.pq_base.specs.Series.{NextWord, InSeries, HasClass}
use Rattle.pq_base.specs.Series.NextWord.{no_word, then_commutator, then_power}
use Rattle.pq_base.specs.Largest.{Kills, IsGenerated}
use Rattle.pq_base.proofs.words.ChainLaws.{chain-trivial}
use Rattle.pq_base.proofs.words.JoinedLaws.{joined-trans, joined-append_left, relator-joined, pair-joined}
use Rattle.pq_base.proofs.tables.TableLaws.{value-below}
use Rattle.pq_base.proofs.tables.TableGroup.{value-append, value-comm, value-copies, value-joined}
use Rattle.pq_base.proofs.vectors.Tests.{unequal}
use Rattle.pq_base.proofs.vectors.Tables.{two_elements, two_elements_are_group, two_elements_have_class_one, one_not_in_level_one}
use Rattle.pq_base.proofs.vectors.Presentations.{order_two, relator_of_order_two}
use Rattle.pq_base.proofs.vectors.JoinedWords.{inverse_joined_in_order_two}
use Rattle.pq_base.proofs.vectors.LargestQuotients.{killed_generator}
use Rattle.pq_base.proofs.vectors.Answers.{answer_of_order_two}

-- the value of a word where a1 is 1
abbrev pub parity : List ℤ → ℕ
parity w = value two_elements (1 ∷ []) w

one-below : AllBelow 2 (1 ∷ [])
one-below = (lit< tt, tt)

-- joined words have equal values
pub parity-joined : {u v : List ℤ} → Joined order_two u v → parity u ≡ parity v
parity-joined c =
    value-joined two_elements two_elements_are_group (1 ∷ []) one-below order_two (λ r h. ap parity (relator_of_order_two r h)) c

-- a value is 0 or 1
pub parity-below : (w : List ℤ) → parity w < 2
parity-below w = value-below two_elements two_elements_are_group (1 ∷ []) one-below w

-- two normal words that are not joined
pub letter_is_not_joined_to_empty : Joined order_two (pos 1 ∷ []) [] → ⊥
letter_is_not_joined_to_empty c = unequal 1 0 refl (parity-joined c)

-- a1 does not reach the exponent 0
pub letter_reaches_not_zero : Reaches order_two (pos 1 ∷ []) (0 ∷ []) → ⊥
letter_reaches_not_zero r = letter_is_not_joined_to_empty r.joined

-- a1 alone is no trivial word
pub letter_is_not_trivial : IsTrivial order_two (pos 1 ∷ []) → ⊥
letter_is_not_trivial t = letter_is_not_joined_to_empty (chain-trivial (pos 1 ∷ []) t)

-- so no move leads from it to the empty word
pub no_move_to_empty : Move (IsTrivial order_two) (pos 1 ∷ []) [] → ⊥
no_move_to_empty m = letter_is_not_joined_to_empty (step m done)

normal-parity : (e : List ℕ) → IsNormal 2 1 e → e ≡ parity (normal_word e) ∷ []
normal-parity [] h = absurd (unequal 0 1 refl h.count)
normal-parity (zero ∷ []) h = refl
normal-parity (suc zero ∷ []) h = refl
normal-parity (suc (suc a) ∷ []) h = absurd (omega (arith, h.below.0))
normal-parity (a ∷ b ∷ e) h = absurd (omega (arith, h.count))

-- a letter before a normal word
letter-parity : (k : ℤ) → IsLetter 1 k → (x : ℕ) → x < 2
    → Joined order_two (k ∷ normal_word (x ∷ [])) (normal_word (times two_elements (element_of two_elements (1 ∷ []) k) x ∷ []))
letter-parity (pos zero) l x h = absurd l
letter-parity (pos (suc zero)) l zero h = done
letter-parity (pos (suc zero)) l (suc zero) h = relator-joined order_two (power_relator 0 (lit< tt))
letter-parity (pos (suc (suc k))) l x h = absurd (omega (arith, l))
letter-parity (negsuc zero) l zero h = inverse_joined_in_order_two
letter-parity (negsuc zero) l (suc zero) h = pair-joined order_two (negsuc 0)
letter-parity (negsuc (suc k)) l x h = absurd (omega (arith, l))
letter-parity k l (suc (suc x)) h = absurd (omega (arith, h))

-- a word is joined to the normal word of its value
pub joined-parity : (w : List ℤ) → HasLetters 1 w → Joined order_two w (normal_word (parity w ∷ []))
joined-parity [] h = done
joined-parity (k ∷ w) h =
    joined-trans (joined-append_left (k ∷ []) (joined-parity w h.1)) (letter-parity k h.0 (parity w) (parity-below w))

-- two normal words are two elements
pub order_two_is_consistent : IsConsistent order_two
order_two_is_consistent = record {
  unique = λ e f he hf c. normal-parity e he ∙ ap (λ (x : ℕ). x ∷ []) (parity-joined c) ∙ sym (normal-parity f hf);
  reached = λ w h. (
    parity w ∷ [],
    record {
      normal = record { count = refl; below = (parity-below w, tt) };
      joined = joined-parity w h;
    },
  );
}

-- a product of commutators and squares has its value in level 1 of the table
parity-next : {w : List ℤ} → NextWord order_two (HasLetters 1) w → InLevel two_elements 2 1 (parity w)
parity-next no_word = no_element
parity-next (then_commutator u v w hu hv hw) =
    let e = value-append two_elements two_elements_are_group (1 ∷ []) one-below (comm u v) w
    ∙ ap (λ (x : ℕ). times two_elements x (parity w)) (value-comm two_elements two_elements_are_group (1 ∷ []) one-below u v) in
    subst (λ (x : ℕ). InLevel two_elements 2 1 x) (sym e)
    (times_commutator (parity u) (parity v) (parity w) (parity-below u) (parity-below v) (parity-next hw))
parity-next (then_power u w hu hw) =
    let e = value-append two_elements two_elements_are_group (1 ∷ []) one-below (copies u 2) w
    ∙ ap (λ (x : ℕ). times two_elements x (parity w)) (value-copies two_elements two_elements_are_group (1 ∷ []) one-below u 2) in
    subst (λ (x : ℕ). InLevel two_elements 2 1 x) (sym e)
    (times_power (parity u) (parity w) (parity-below u) (parity-next hw))

-- so a1 is no product of commutators and squares
pub letter_is_no_product : NextWord order_two (HasLetters 1) (pos 1 ∷ []) → ⊥
letter_is_no_product n = one_not_in_level_one (parity-next n)

-- such products are trivial
pub order_two_has_class_one : HasClass order_two 1
order_two_has_class_one w h =
    let even : parity w ≡ 0 = parity-joined h.joined ∙ two_elements_have_class_one (parity h.product) (parity-next h.next) in
    subst (λ (x : ℕ). Joined order_two w (normal_word (x ∷ []))) even (joined-parity w h.letters)

-- a1 is not trivial
pub order_two_has_not_class_zero : HasClass order_two 0 → ⊥
order_two_has_not_class_zero h = letter_is_not_joined_to_empty (h (pos 1 ∷ []) (lit< tt, tt))

-- level 1 has the square of a1, and not a1
pub square_in_series : InSeries order_two 1 (pos 1 ∷ pos 1 ∷ [])
square_in_series = record {
  letters = (lit< tt, (lit< tt, tt));
  product = pos 1 ∷ pos 1 ∷ [];
  next = then_power (pos 1 ∷ []) [] (lit< tt, tt) no_word;
  joined = done;
}

-- a1 is not in level 1
pub letter_not_in_series : InSeries order_two 1 (pos 1 ∷ []) → ⊥
letter_not_in_series h = letter_is_not_joined_to_empty (order_two_has_class_one (pos 1 ∷ []) h)

-- a letter that is no generator is in no level
pub unknown_letter_not_in_series : InSeries order_two 1 (pos 2 ∷ negsuc 1 ∷ []) → ⊥
unknown_letter_not_in_series h = omega (arith, h.letters.0)

-- the relator x does not die in the answer of order two
pub order_two_kills_not : Kills killed_generator answer_of_order_two → ⊥
order_two_kills_not k = letter_is_not_joined_to_empty (k (pos 1 ∷ []) (fixed_relator 0 (lit< tt)))

-- with the trivial image for x nothing generates a1
pub trivial_image_does_not_generate : IsGenerated (record answer_of_order_two { images = (0 ∷ []) ∷ [] }) → ⊥
trivial_image_does_not_generate g = letter_is_not_joined_to_empty (g 0 (lit< tt))
