-- In the flat reading the words of rows multiply as the rows add up. So a combination of rows whose words are joined to the
-- empty word is such a row.
use Rattle.std.proofs.Common.{◌≡◌, ℕ, zero, suc, ◌+◌, ◌<◌, ℤ, List, [], ◌∷◌, ◌++◌, length, get_or, ap, sym, ◌∙◌, subst, arith}
use Rattle.std.specs.List.{All}
use Rattle.std.proofs.lemmas.List.Elements.{All-head, All-tail}
use Rattle.pq_base.specs.SignedWord.{copies, sub}
use Rattle.pq_base.specs.Presentation.{letter, word_from}
use Rattle.pq_base.specs.Joined.{Joined}
use Rattle.pq_base.proofs.words.WordLaws.{copies-nil, word_from-zeros, sub-append, sub-copies, sub-letter}
use Rattle.pq_base.proofs.words.JoinedLaws.{joined-from_equal, joined-sym, joined-trans, joined-append, joined-append_left, joined-copies}
use Rattle.fp_rows.specs.Rows.{IsRow, add_rows, scale_row}
use Rattle.fp_rows.proofs.RowLaws.{IsRow-scale_row, scale_row-add, scale_row-one, scale_row-zero}
use Rattle.fp_echelon.specs.Span.{combine, AreRows, InSpan}
use Rattle.fp_echelon.proofs.SpanLaws.{IsRow-combine}
use Rattle.pc_presentation.specs.Rowed.{RowedPresentation, IsRowed, flat}
use Rattle.pc_presentation.proofs.rows.RowLaws.{row_sum-comm}
use Rattle.pc_presentation.proofs.rows.TailLaws.{row_words-add}
use Rattle.pc_presentation.proofs.rows.RowsCentral.{row_sum-add_rows}

module _ (Y : RowedPresentation) (rowed : IsRowed Y) (positive : 0 < Y.base.prime) where
  pub row_words-sum : (x y : List ℕ) → IsRow Y.base.prime Y.width x → IsRow Y.base.prime Y.width y
      → Joined (flat Y) (word_from Y.base.rank x ++ word_from Y.base.rank y) (word_from Y.base.rank (add_rows Y.base.prime x y))
  row_words-sum x y row row' =
      joined-trans (row_words-add Y rowed x y row.count row'.count)
      (joined-from_equal (flat Y) (ap (word_from Y.base.rank) (row_sum-add_rows Y.base.prime x y (row.count ∙ sym row'.count))))

  pub row_words-commute : (x y : List ℕ) → IsRow Y.base.prime Y.width x → IsRow Y.base.prime Y.width y
      → Joined (flat Y) (word_from Y.base.rank x ++ word_from Y.base.rank y) (word_from Y.base.rank y ++ word_from Y.base.rank x)
  row_words-commute x y row row' =
      joined-trans (row_words-add Y rowed x y row.count row'.count)
      (joined-trans (joined-from_equal (flat Y) (ap (word_from Y.base.rank) (row_sum-comm Y.base.prime x y)))
      (joined-sym (row_words-add Y rowed y x row'.count row.count)))

  one_more : (k : ℕ) (x : List ℕ) → IsRow Y.base.prime Y.width x
      → add_rows Y.base.prime x (scale_row Y.base.prime k x) ≡ scale_row Y.base.prime (suc k) x
  one_more k x row =
      let next : 1 + k ≡ suc k = omega arith in
      ap (λ (l : List ℕ). add_rows Y.base.prime l (scale_row Y.base.prime k x)) (sym (scale_row-one Y.base.prime x row.below))
      ∙ sym (scale_row-add Y.base.prime 1 k x)
      ∙ ap (λ (n : ℕ). scale_row Y.base.prime n x) next

  pub row_words-multiple : (k : ℕ) (x : List ℕ) → IsRow Y.base.prime Y.width x
      → Joined (flat Y) (copies (word_from Y.base.rank x) k) (word_from Y.base.rank (scale_row Y.base.prime k x))
  row_words-multiple zero x row =
      joined-from_equal (flat Y)
      (sym (ap (word_from Y.base.rank) (scale_row-zero Y.base.prime x positive) ∙ word_from-zeros Y.base.rank (length x)))
  row_words-multiple (suc k) x row =
      let rest : Joined (flat Y) (word_from Y.base.rank x ++ copies (word_from Y.base.rank x) k)
      (word_from Y.base.rank x ++ word_from Y.base.rank (scale_row Y.base.prime k x)) =
      joined-append_left (word_from Y.base.rank x) (row_words-multiple k x row) in
      joined-trans rest
      (joined-trans (row_words-sum x (scale_row Y.base.prime k x) row (IsRow-scale_row Y.base.prime Y.width k x positive row))
      (joined-from_equal (flat Y) (ap (word_from Y.base.rank) (one_more k x row))))

  -- a word of exponents with its letters replaced by the words of rows
  pub row_words-combine : (images : List (List ℤ)) (k : ℕ) (x : List ℕ) (rows : List (List ℕ)) → length x ≡ length rows
      → AreRows Y.base.prime Y.width rows
      → ((i : ℕ) → i < length rows → get_or images (k + i) [] ≡ word_from Y.base.rank (get_or rows i []))
      → Joined (flat Y) (sub (word_from k x) images) (word_from Y.base.rank (combine Y.base.prime Y.width x rows))
  row_words-combine images k [] rows e are image = joined-from_equal (flat Y) (sym (word_from-zeros Y.base.rank Y.width))
  row_words-combine images k (a ∷ x) [] e are image = absurd (omega arith)
  row_words-combine images k (a ∷ x) (r ∷ rows) e are image =
      let p : ℕ = Y.base.prime in
      let here : k + 0 ≡ k = omega arith in
      let first : sub (letter k) images ≡ word_from Y.base.rank r =
      sub-letter k images ∙ ap (λ (i : ℕ). get_or images i []) (sym here) ∙ image 0 (omega arith) in
      let split : sub (copies (letter k) a ++ word_from (suc k) x) images
      ≡ copies (word_from Y.base.rank r) a ++ sub (word_from (suc k) x) images =
      sub-append (copies (letter k) a) (word_from (suc k) x) images
      ∙ ap (λ (w : List ℤ). w ++ sub (word_from (suc k) x) images)
      (sub-copies (letter k) a images ∙ ap (λ (w : List ℤ). copies w a) first) in
      let later : (i : ℕ) → i < length rows → get_or images (suc k + i) [] ≡ word_from Y.base.rank (get_or rows i []) =
      λ i l. (let next : suc k + i ≡ k + suc i = omega arith in ap (λ (j : ℕ). get_or images j []) next) ∙ image (suc i) (omega arith) in
      joined-trans (joined-from_equal (flat Y) split)
      (joined-trans (joined-append (row_words-multiple a r are.0) (row_words-combine images (suc k) x rows (omega arith) are.1 later))
      (row_words-sum (scale_row p a r) (combine p Y.width x rows) (IsRow-scale_row p Y.width a r positive are.0)
      (IsRow-combine p Y.width x rows positive are.1)))

  -- combinations of trivial rows
  combination-trivial : (cs : List ℕ) (rows : List (List ℕ)) → AreRows Y.base.prime Y.width rows
      → All (λ (r : List ℕ). Joined (flat Y) (word_from Y.base.rank r) []) rows
      → Joined (flat Y) (word_from Y.base.rank (combine Y.base.prime Y.width cs rows)) []
  combination-trivial [] rows are all = joined-from_equal (flat Y) (word_from-zeros Y.base.rank Y.width)
  combination-trivial (c ∷ cs) [] are all = joined-from_equal (flat Y) (word_from-zeros Y.base.rank Y.width)
  combination-trivial (c ∷ cs) (r ∷ rows) are all =
      let p : ℕ = Y.base.prime in
      let trivial : Joined (flat Y) (word_from Y.base.rank r) [] =
      All-head (λ (x : List ℕ). Joined (flat Y) (word_from Y.base.rank x) []) r rows all in
      let multiple : Joined (flat Y) (word_from Y.base.rank (scale_row Y.base.prime c r)) [] =
      joined-trans (joined-sym (row_words-multiple c r are.0))
      (joined-trans (joined-copies c trivial) (joined-from_equal (flat Y) (copies-nil c))) in
      let rest : Joined (flat Y) (word_from Y.base.rank (combine Y.base.prime Y.width cs rows)) [] =
      combination-trivial cs rows are.1 (All-tail (λ (x : List ℕ). Joined (flat Y) (word_from Y.base.rank x) []) r rows all) in
      joined-trans
      (joined-sym (row_words-sum (scale_row p c r) (combine p Y.width cs rows) (IsRow-scale_row p Y.width c r positive are.0)
      (IsRow-combine p Y.width cs rows positive are.1)))
      (joined-append multiple rest)

  pub span-trivial : (rows : List (List ℕ)) → AreRows Y.base.prime Y.width rows
      → All (λ (r : List ℕ). Joined (flat Y) (word_from Y.base.rank r) []) rows
      → (x : List ℕ) → InSpan Y.base.prime Y.width rows x → Joined (flat Y) (word_from Y.base.rank x) []
  span-trivial rows are all x h =
      subst (λ (l : List ℕ). Joined (flat Y) (word_from Y.base.rank l) []) h.sum (combination-trivial h.coefficients rows are all)
