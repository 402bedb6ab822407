-- Two presentations with rows over one base, and a map of rows from the tails of the one to those of the other that is given by the
-- row of each tail. Where it carries the row of each relation to a row whose word is joined to that of the relation's row in the
-- other, it carries rows whose words are trivial to such rows.
use Rattle.std.proofs.Common.{◌≡◌, ℕ, ◌+◌, ◌-◌, ◌<◌, ℤ, List, [], length, inl, inr, sym, subst, arith}
use Rattle.std.proofs.lemmas.Bool.{cases_lt}
use Rattle.pq_base.specs.SignedWord.{copies, comm}
use Rattle.pq_base.specs.Presentation.{IsRelatorOf, IsNormal, letter, word_from, power_word, commutator_word}
use Rattle.pq_base.specs.Presentation.IsRelatorOf.{power_relator, commutator_relator}
use Rattle.pq_base.specs.Joined.{Joined}
use Rattle.pq_base.proofs.words.WordGroup.{joined-weaken}
use Rattle.pq_base.proofs.words.JoinedLaws.{joined-from_equal, joined-sym, joined-trans, joined-append_left, joined-quotient, power-joined}
use Rattle.pq_base.proofs.words.JoinedLaws.{commutator-joined}
use Rattle.fp_echelon.specs.Span.{AreRows}
use Rattle.pc_presentation.specs.Rowed.{RowedPresentation, IsRowed, power_row, commutator_row, flat}
use Rattle.pc_presentation.proofs.rows.FlatWords.{power_word-flat, commutator_word-flat, power-with_row, commutator-with_row}
use Rattle.pc_presentation.proofs.rows.FlatWords.{power_word-tail, commutator_word-tail}
use Rattle.cover_quotient.specs.Carried.{carried, carried_presentation}
use Rattle.cover_quotient.proofs.carried_rows.CarriedPresentations.{carried-rowed, power_row-carried, commutator_row-carried}
use Rattle.cover_quotient.proofs.carried_rows.CarriedWords.{words-mapped}

-- the same tails, and other rows
module _ (Z : RowedPresentation) (is : IsRowed Z) (powers : List (List ℕ)) (commutators : List (List (List ℕ)))
    (other : IsRowed (record { base = Z.base; width = Z.width; power_rows = powers; commutator_rows = commutators })) where
  abbrev Q : RowedPresentation
  Q = record { base = Z.base; width = Z.width; power_rows = powers; commutator_rows = commutators }

  abbrev n : ℕ
  n = Z.base.rank

  module _ (same_powers : (i : ℕ) → i < Z.base.rank → Joined (flat Q) (word_from n (power_row Z i)) (word_from n (power_row Q i)))
      (same_commutators : (j i : ℕ) → j < Z.base.rank → i < j
      → Joined (flat Q) (word_from n (commutator_row Z j i)) (word_from n (commutator_row Q j i))) where
    power-holds : (i : ℕ) → i < n + Z.width → Joined (flat Q) (copies (letter i) Z.base.prime) (power_word (flat Z) i)
    power-holds i l = elim (cases_lt i Z.base.rank) [
      | inl h ↦
          joined-trans (power-with_row Q other i h)
          (joined-trans (joined-append_left (power_word Z.base i) (joined-sym (same_powers i h)))
          (joined-from_equal (flat Q) (sym (power_word-flat Z is i h))))
      | inr h ↦
          let t : ℕ = i - Z.base.rank in
          let place : n + t ≡ i = omega arith in
          subst (λ (k : ℕ). Joined (flat Q) (copies (letter k) Z.base.prime) (power_word (flat Z) k)) place
          (joined-trans (power-joined (flat Q) (n + t) (omega arith))
          (joined-trans (joined-from_equal (flat Q) (power_word-tail Q other t (omega arith)))
          (joined-from_equal (flat Q) (sym (power_word-tail Z is t (omega arith))))))
    ]

    commutator-holds : (j i : ℕ) → j < n + Z.width → i < j → Joined (flat Q) (comm (letter j) (letter i)) (commutator_word (flat Z) j i)
    commutator-holds j i l m = elim (cases_lt j Z.base.rank) [
      | inl h ↦
          joined-trans (commutator-with_row Q other j i h m)
          (joined-trans (joined-append_left (commutator_word Z.base j i) (joined-sym (same_commutators j i h m)))
          (joined-from_equal (flat Q) (sym (commutator_word-flat Z is j i h m))))
      | inr h ↦
          let t : ℕ = j - Z.base.rank in
          let place : n + t ≡ j = omega arith in
          subst (λ (k : ℕ). Joined (flat Q) (comm (letter k) (letter i)) (commutator_word (flat Z) k i)) place
          (joined-trans (commutator-joined (flat Q) (n + t) i (omega arith) (omega arith))
          (joined-trans (joined-from_equal (flat Q) (commutator_word-tail Q other t i (omega arith) (omega arith)))
          (joined-from_equal (flat Q) (sym (commutator_word-tail Z is t i (omega arith) (omega arith))))))
    ]

    relator-holds : (r : List ℤ) → IsRelatorOf (flat Z) r → Joined (flat Q) r []
    relator-holds _ (power_relator i l) = joined-quotient (power-holds i l)
    relator-holds _ (commutator_relator j i l m) = joined-quotient (commutator-holds j i l m)

    joined-other_rows : {u v : List ℤ} → Joined (flat Z) u v → Joined (flat Q) u v
    joined-other_rows c = joined-weaken (flat Z) (flat Q) relator-holds c

-- other tails
module _ (Z : RowedPresentation) (is : IsRowed Z) (positive : 0 < Z.base.prime) (width : ℕ) (rows : List (List ℕ))
    (are : AreRows Z.base.prime width rows) (count : length rows ≡ Z.width) (powers : List (List ℕ)) (commutators : List (List (List ℕ)))
    (other : IsRowed (record { base = Z.base; width = width; power_rows = powers; commutator_rows = commutators })) where
  abbrev R : RowedPresentation
  R = record { base = Z.base; width = width; power_rows = powers; commutator_rows = commutators }

  abbrev C : RowedPresentation
  C = carried_presentation width rows Z

  abbrev word : List ℕ → List ℤ
  word x = word_from Z.base.rank x

  module _ (same_powers : (i : ℕ) → i < Z.base.rank
      → Joined (flat R) (word (carried Z.base.prime width rows (power_row Z i))) (word (power_row R i)))
      (same_commutators : (j i : ℕ) → j < Z.base.rank → i < j
      → Joined (flat R) (word (carried Z.base.prime width rows (commutator_row Z j i))) (word (commutator_row R j i))) where
    other_rows : {u v : List ℤ} → Joined (flat C) u v → Joined (flat R) u v
    other_rows c =
        joined-other_rows C (carried-rowed Z is positive width rows are) powers commutators other
        (λ i l.
        subst (λ (x : List ℕ). Joined (flat R) (word x) (word (power_row R i))) (sym (power_row-carried Z is positive width rows are i l))
        (same_powers i l))
        (λ j i l m.
        subst (λ (x : List ℕ). Joined (flat R) (word x) (word (commutator_row R j i)))
        (sym (commutator_row-carried Z is positive width rows are j i l m)) (same_commutators j i l m))
        c

    pub trivial_row-carried : (x : List ℕ) → IsNormal Z.base.prime Z.width x → Joined (flat Z) (word_from Z.base.rank x) []
        → Joined (flat R) (word_from Z.base.rank (carried Z.base.prime width rows x)) []
    trivial_row-carried x h c =
        let words = words-mapped Z is positive width rows are count in
        other_rows (joined-trans (joined-sym (words.row_words x h)) (words.joined (word x) [] c))
