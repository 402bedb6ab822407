-- Over an answer that is ready at a class, in a consistent flat reading: the row of each relation and image whose entry word
-- has its value in that level of the table of normal words is in the span of the rows of the qualifying relations.
use Rattle.std.proofs.Common.{◌≡◌, ℕ, ◌+◌, ◌<◌, ◌≤◌, ℤ, List, ◌++◌, ap, sym, ◌∙◌, subst, arith}
use Rattle.pq_base.specs.Elementary.{zeros}
use Rattle.pq_base.specs.Table.{InLevel, value}
use Rattle.pq_base.specs.Presentation.{Presentation, IsPresentation, IsNormal, normal_word, word_from}
use Rattle.pq_base.specs.Joined.{Joined, IsConsistent}
use Rattle.pq_base.specs.Series.{InSeries}
use Rattle.pq_base.specs.Answer.{Definition as Source}
use Rattle.pq_base.specs.Largest.{HasValue}
use Rattle.pq_base.proofs.words.LetterLaws.{HasLetters-normal_word, HasLetters-word_from}
use Rattle.pq_base.proofs.words.JoinedLaws.{joined-from_equal, joined-sym, joined-trans}
use Rattle.pq_base.proofs.tables.TableGroup.{value-sub, value-joined}
use Rattle.pq_base.proofs.CarryLaws.{level-reached_by_value}
use Rattle.pq_base.proofs.SeriesLaws.{series-letters}
use Rattle.fp_echelon.specs.Span.{InSpan}
use Rattle.fp_echelon.proofs.SpanLaws.{IsRow-InSpan}
use Rattle.pc_presentation.specs.Rowed.{RowedPresentation, IsRowed, flat}
use Rattle.pc_presentation.specs.Collection.{State, IsState, letters, signed_word, configuration_of}
use Rattle.pc_presentation.specs.NormalTable.{NormalWordsAreATable, normal_table, generator_numbers}
use Rattle.pc_presentation.proofs.rows.FlatLaws.{flat-presentation}
use Rattle.pc_presentation.proofs.collecting.PlainRule.{spelled-zeros}
use Rattle.pc_presentation.proofs.rows.RowLaws.{zeros-normal}
use Rattle.pc_presentation.proofs.consistent.ConsistentPushes.{states-unique}
use Rattle.pc_presentation.proofs.normal_tables.NormalTableLaws.{normal_words_are_a_table}
use Rattle.p_cover.specs.RowedAnswer.{RowedAnswer, IsRowedAnswer, rowed, rowed_images, row_at, tails_word}
use Rattle.pq_base.specs.EntryWords.{IsSourceOf, entry_word}
use Rattle.p_cover.proofs.EntryWords.{entry_words_hold}
use Rattle.cover_quotient.specs.Levels.{IsReady, qualifying_rows, IsSpanned}
use Rattle.cover_quotient.specs.KeptTailLaws.{flat_table, image_elements}
use Rattle.cover_quotient.proofs.carried_rows.CarriedRows.{normal_from_row}
use Rattle.cover_quotient.proofs.qualifying.QualifyingRows.{qualifying-are_rows}
use Rattle.cover_quotient.proofs.qualifying.LastLevels.{last_level_is_spanned}

-- in a consistent flat reading rows whose words are joined are equal
row_words-unique : (Y : RowedPresentation) → IsRowed Y → 0 < Y.base.prime → IsConsistent (flat Y) → (x y : List ℕ)
    → IsNormal Y.base.prime Y.width x → IsNormal Y.base.prime Y.width y
    → Joined (flat Y) (word_from Y.base.rank x) (word_from Y.base.rank y) → x ≡ y
row_words-unique Y rowed positive consistent x y h i c =
    let state : (z : List ℕ) → IsNormal Y.base.prime Y.width z → IsState Y Y.base.rank (record { exponents = zeros Y.base.rank; row = z }) =
    λ z j. record { exponents = zeros-normal Y.base.prime Y.base.rank positive; row = j } in
    let no_letters : (z : List ℕ)
    → signed_word Y.base.rank (configuration_of (record { exponents = zeros Y.base.rank; row = z })) ≡ word_from Y.base.rank z =
    λ z. ap (λ (w : List ℕ). letters w ++ word_from Y.base.rank z) (spelled-zeros 0 Y.base.rank) in
    let joined : Joined (flat Y) (signed_word Y.base.rank (configuration_of (record { exponents = zeros Y.base.rank; row = x })))
    (signed_word Y.base.rank (configuration_of (record { exponents = zeros Y.base.rank; row = y }))) =
    joined-trans (joined-from_equal (flat Y) (no_letters x)) (joined-trans c (joined-from_equal (flat Y) (sym (no_letters y)))) in
    ap (λ (t : State). t.row)
    (states-unique Y rowed positive consistent (record { exponents = zeros Y.base.rank; row = x })
    (record { exponents = zeros Y.base.rank; row = y })
    (state x h) (state y i) joined)

-- each element of the table is the value of a word
generated : (P : Presentation) → NormalWordsAreATable P → (x : ℕ) → x < (normal_table P).size
    → HasValue (normal_table P) (generator_numbers P) P.rank x
generated P t x l =
    let e = t.elements x l in
    let c = e.1.count in
    record { word = normal_word e.0; letters = HasLetters-normal_word P.rank e.0 (omega arith); is = t.normal_words e.0 e.1 ∙ e.2 }

module _ (Y : RowedAnswer) (is : IsRowedAnswer Y) (big : 1 < Y.answer.presentation.prime) (consistent : IsConsistent (flat (rowed Y))) where
  abbrev F : Presentation
  F = flat (rowed Y)

  flat-is : IsPresentation (flat (rowed Y))
  flat-is = flat-presentation (rowed Y) is.presentation (omega arith)

  pub flat_words_are_a_table : NormalWordsAreATable (flat (rowed Y))
  flat_words_are_a_table = normal_words_are_a_table F flat-is big consistent

  -- the value of an entry word at the images is that of the word of the row
  entry-value : (d : Source) → IsSourceOf Y.answer d
      → value (flat_table Y) (image_elements Y) (entry_word Y.answer d)
      ≡ value (flat_table Y) (generator_numbers (flat (rowed Y))) (tails_word Y (row_at Y d))
  entry-value d s =
      let t = flat_words_are_a_table in
      sym (value-sub (flat_table Y) t.group (generator_numbers F) t.generators (entry_word Y.answer d) (rowed_images Y))
      ∙ value-joined (flat_table Y) t.group (generator_numbers F) t.generators F t.relators (entry_words_hold Y is d s)

  pub row-in_span : (k : ℕ) → 1 ≤ k → IsReady Y.answer k → (d : Source) → IsSourceOf Y.answer d
      → IsNormal Y.answer.presentation.prime Y.width (row_at Y d)
      → InLevel (flat_table Y) Y.answer.presentation.prime k (value (flat_table Y) (image_elements Y) (entry_word Y.answer d))
      → InSpan Y.answer.presentation.prime Y.width (qualifying_rows Y k) (row_at Y d)
  row-in_span k some ready d s normal level =
      let t = flat_words_are_a_table in
      let p : ℕ = Y.answer.presentation.prime in
      let r = level-reached_by_value F (flat_table Y) t.group (generator_numbers F) t.generators t.relators (generated F t) k
      (value (flat_table Y) (image_elements Y) (entry_word Y.answer d)) level in
      let word : List ℤ = r.0 in
      let series : InSeries F k r.0 = r.1 in
      let spanned : IsSpanned Y (qualifying_rows Y k) r.0 = last_level_is_spanned Y k is big some ready r.0 series in
      let long = normal.count in
      let reached : Joined F r.0 (tails_word Y (row_at Y d)) =
      (t.joined r.0 (tails_word Y (row_at Y d)) (series-letters F k r.0 series)
      (HasLetters-word_from (Y.answer.presentation.rank + Y.width) Y.answer.presentation.rank (row_at Y d) (omega arith))).1
      (r.2 ∙ entry-value d s) in
      let row = IsRow-InSpan p Y.width (qualifying_rows Y k) spanned.row (omega arith) (qualifying-are_rows Y is k) spanned.span in
      let same : spanned.row ≡ row_at Y d =
      row_words-unique (rowed Y) is.presentation (omega arith) consistent spanned.row (row_at Y d)
      (normal_from_row p Y.width spanned.row row) normal
      (joined-trans (joined-sym spanned.joined) reached) in
      subst (λ (x : List ℕ). InSpan Y.answer.presentation.prime Y.width (qualifying_rows Y k) x) same spanned.span
