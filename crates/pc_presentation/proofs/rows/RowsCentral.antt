-- In the flat reading of a presentation with rows the word of a row commutes with every word over the generators and the
-- tails, multiples of rows are powers of their words, and the inverse is the word of the negative row.
use Rattle.std.proofs.Common.{◌≡◌, ℕ, zero, suc, ◌+◌, ◌-◌, ◌%◌, ◌<◌, ℤ, List, [], ◌∷◌, ◌++◌, length, refl, ap, sym, ◌∙◌, subst, arith, inl}
use Rattle.std.proofs.Common.{inr}
use Rattle.std.proofs.lemmas.List.{append-nil}
use Rattle.std.proofs.lemmas.Bool.{cases_lt}
use Rattle.fp_rows.specs.Rows.{add_rows, scale_row, negative_row}
use Rattle.fp_rows.proofs.RowLaws.{length-scale_row, scale_row-below, scale_row-add, scale_row-one, scale_row-zero, scale_row-prime}
use Rattle.pq_base.specs.SignedWord.{inv, copies, HasLetters}
use Rattle.pq_base.specs.Presentation.{IsNormal, letter, word_from}
use Rattle.pq_base.specs.Joined.{Joined}
use Rattle.pq_base.specs.Canonical.{unit}
use Rattle.pq_base.proofs.words.WordLaws.{word_from-zeros}
use Rattle.pq_base.proofs.UnitLaws.{length-unit, word_from-unit}
use Rattle.pq_base.proofs.words.JoinedLaws.{joined-from_equal, joined-sym, joined-trans, joined-append_left, joined-solve_right}
use Rattle.pq_base.proofs.words.CentralWords.{IsCentral, central_from_letters}
use Rattle.pc_presentation.specs.Rowed.{RowedPresentation, IsRowed, row_sum, flat}
use Rattle.pc_presentation.proofs.rows.RowLaws.{row_sum-comm, negative_row-normal, row_sum-negative_row}
use Rattle.pc_presentation.proofs.rows.TailLaws.{row-commutes, row_words-add}
use Rattle.pc_presentation.specs.RowedLaws.{RowsAreCentral}

-- for rows of one width both sums are the same
pub row_sum-add_rows : (p : ℕ) (x y : List ℕ) → length x ≡ length y → row_sum p x y ≡ add_rows p x y
row_sum-add_rows p [] [] e = refl
row_sum-add_rows p [] (b ∷ y) e = absurd (omega arith)
row_sum-add_rows p (a ∷ x) [] e = absurd (omega arith)
row_sum-add_rows p (a ∷ x) (b ∷ y) e = ap (λ (z : List ℕ). (a + b) % p ∷ z) (row_sum-add_rows p x y (omega arith))

pub scale_row-normal : (p q k : ℕ) (x : List ℕ) → 0 < p → IsNormal p q x → IsNormal p q (scale_row p k x)
scale_row-normal p q k x l h = record { count = length-scale_row p k x ∙ h.count; below = scale_row-below p k x l }

-- one multiple more
pub row_sum-scale_row : (p q k : ℕ) (x : List ℕ) → IsNormal p q x → row_sum p x (scale_row p k x) ≡ scale_row p (suc k) x
row_sum-scale_row p q k x h =
    let more : 1 + k ≡ suc k = omega arith in
    row_sum-add_rows p x (scale_row p k x) (sym (length-scale_row p k x))
    ∙ ap (λ (y : List ℕ). add_rows p y (scale_row p k x)) (sym (scale_row-one p x h.below))
    ∙ sym (scale_row-add p 1 k x)
    ∙ ap (λ (m : ℕ). scale_row p m x) more

module _ (Z : RowedPresentation) (is : IsRowed Z) where
  -- with a generator the word of a row commutes since tails are central; with a tail, since that is the word of a row
  commutes_with_letter : (x : List ℕ) → length x ≡ Z.width → (k : ℕ) → k < Z.base.rank + Z.width
      → Joined (flat Z) (word_from Z.base.rank x ++ letter k) (letter k ++ word_from Z.base.rank x)
  commutes_with_letter x c k l = elim (cases_lt k Z.base.rank) [
    | inl h ↦ row-commutes Z is x (k ∷ []) c (h, tt)
    | inr h ↦
        let t : ℕ = k - Z.base.rank in
        let place : Z.base.rank + t ≡ k = omega arith in
        let word : word_from Z.base.rank (unit Z.width t) ≡ letter k =
        word_from-unit Z.base.rank Z.width t (omega arith) ∙ ap letter place in
        let long : length (unit Z.width t) ≡ Z.width = length-unit Z.width t in
        subst (λ (w : List ℤ). Joined (flat Z) (word_from Z.base.rank x ++ w) (w ++ word_from Z.base.rank x)) word
        (joined-trans (row_words-add Z is x (unit Z.width t) c long)
        (joined-trans (joined-from_equal (flat Z) (ap (word_from Z.base.rank) (row_sum-comm Z.base.prime x (unit Z.width t))))
        (joined-sym (row_words-add Z is (unit Z.width t) x long c))))
  ]

  pub row_word-central : (x : List ℕ) → length x ≡ Z.width → IsCentral (flat Z) (word_from Z.base.rank x)
  row_word-central x c = central_from_letters (flat Z) (word_from Z.base.rank x) (commutes_with_letter x c)

  pub row_word-commutes : (x : List ℕ) (w : List ℤ) → length x ≡ Z.width → HasLetters (Z.base.rank + Z.width) w
      → Joined (flat Z) (word_from Z.base.rank x ++ w) (w ++ word_from Z.base.rank x)
  row_word-commutes x w c h = (row_word-central x c).commutes w h

  module _ (positive : 0 < Z.base.prime) where
    pub row_word-multiple : (x : List ℕ) (k : ℕ) → IsNormal Z.base.prime Z.width x
        → Joined (flat Z) (copies (word_from Z.base.rank x) k) (word_from Z.base.rank (scale_row Z.base.prime k x))
    row_word-multiple x zero h =
        joined-from_equal (flat Z)
        (sym (ap (word_from Z.base.rank) (scale_row-zero Z.base.prime x positive) ∙ word_from-zeros Z.base.rank (length x)))
    row_word-multiple x (suc k) h =
        joined-trans (joined-append_left (word_from Z.base.rank x) (row_word-multiple x k h))
        (joined-trans
        (row_words-add Z is x (scale_row Z.base.prime k x) h.count (length-scale_row Z.base.prime k x ∙ h.count))
        (joined-from_equal (flat Z) (ap (word_from Z.base.rank) (row_sum-scale_row Z.base.prime Z.width k x h))))

    pub row_word-power : (x : List ℕ) → IsNormal Z.base.prime Z.width x → Joined (flat Z) (copies (word_from Z.base.rank x) Z.base.prime) []
    row_word-power x h =
        joined-trans (row_word-multiple x Z.base.prime h)
        (joined-from_equal (flat Z) (ap (word_from Z.base.rank) (scale_row-prime Z.base.prime x) ∙ word_from-zeros Z.base.rank (length x)))

    pub row_word-inverse : (x : List ℕ) → IsNormal Z.base.prime Z.width x
        → Joined (flat Z) (inv (word_from Z.base.rank x)) (word_from Z.base.rank (negative_row Z.base.prime x))
    row_word-inverse x h =
        let y : List ℕ = negative_row Z.base.prime x in
        let n : IsNormal Z.base.prime Z.width (negative_row Z.base.prime x) = negative_row-normal Z.base.prime Z.width x positive h in
        let nothing : Joined (flat Z) (word_from Z.base.rank x ++ word_from Z.base.rank (negative_row Z.base.prime x)) [] =
        joined-trans (row_words-add Z is x y h.count n.count)
        (joined-from_equal (flat Z)
        (ap (word_from Z.base.rank) (row_sum-negative_row Z.base.prime Z.width x h) ∙ word_from-zeros Z.base.rank Z.width)) in
        joined-sym
        (joined-trans (joined-solve_right (word_from Z.base.rank x) (word_from Z.base.rank (negative_row Z.base.prime x)) nothing)
        (joined-from_equal (flat Z) (append-nil (inv (word_from Z.base.rank x)))))

pub rows_are_central : RowsAreCentral
rows_are_central Z is =
    let big = is.base.prime in
    let positive : 0 < Z.base.prime = omega arith in
    record {
      central = λ x w h l. row_word-commutes Z is x w h.count l;
      sums = λ x y h i. row_words-add Z is x y h.count i.count;
      multiples = λ x k h. row_word-multiple Z is positive x k h;
      powers = λ x h. row_word-power Z is positive x h;
      inverses = λ x h. row_word-inverse Z is positive x h;
    }
