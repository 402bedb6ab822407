-- Where both ways of an overlap reach the same exponents, the difference of their rows is a trivial word: the ends of the two
-- ways are joined, equal exponents cancel, and what is added to the one row to make the other is trivial. Over a consistent
-- base they do.
use Rattle.std.proofs.Common.{◌≡◌, ◌↔◌, ℕ, ◌<◌, Bool, IsTrue, List, [], ◌++◌, sym, ◌∙◌, subst}
use Rattle.pq_base.specs.Presentation.{IsNormal, word_from}
use Rattle.pq_base.specs.Joined.{Joined, IsConsistent}
use Rattle.pq_base.proofs.words.JoinedLaws.{joined-trans, joined-cancel_left, joined-cancel_right}
use Rattle.fp_rows.specs.Rows.{IsRow}
use Rattle.fp_rows.specs.Differences.{difference}
use Rattle.fp_rows.proofs.DifferenceLaws.{IsRow-difference, difference-add_rows}
use Rattle.pc_presentation.specs.Rowed.{RowedPresentation, IsRowed, row_sum, flat}
use Rattle.pc_presentation.specs.Collection.{State, IsState, spelled, letters}
use Rattle.pc_presentation.specs.Overlaps.{Overlap, IsOverlap, left_way, right_way}
use Rattle.pc_presentation.specs.Arithmetic.{IsMeaning, word_of}
use Rattle.pc_presentation.specs.OverlapRows.{left_end, right_end, ExponentsAgree, overlap_row}
use Rattle.pc_presentation.proofs.consistent.Consistency.{left_way-below, right_way-below}
use Rattle.pc_presentation.proofs.rows.TailLaws.{row_words-add}
use Rattle.pc_presentation.proofs.consistent.ConsistentOverlaps.{left_way-row, right_way-row, end-state, ways-joined, ways-over_base}
use Rattle.pc_presentation.proofs.rows.RowsCentral.{row_sum-add_rows}

-- equal exponents of two states that are known
pub same_exponents : (b : Bool) (l m r s : State) → l ≡ m → r ≡ s → (IsTrue b ↔ (l.exponents ≡ r.exponents))
    → (IsTrue b ↔ (m.exponents ≡ s.exponents))
same_exponents b l m r s e f h =
    subst (λ (t : State). IsTrue b ↔ (t.exponents ≡ s.exponents)) e (subst (λ (t : State). IsTrue b ↔ (l.exponents ≡ t.exponents)) f h)

module _ (Y : RowedPresentation) (rowed : IsRowed Y) (big : 1 < Y.base.prime) where
  -- the word of the difference of two rows whose words are joined
  pub difference-trivial : (x y : List ℕ) → IsNormal Y.base.prime Y.width x → IsNormal Y.base.prime Y.width y
      → Joined (flat Y) (word_from Y.base.rank x) (word_from Y.base.rank y)
      → Joined (flat Y) (word_from Y.base.rank (difference Y.base.prime x y)) []
  difference-trivial x y n m same =
      let row : IsRow Y.base.prime Y.width x = record { count = n.count; below = n.below } in
      let row' : IsRow Y.base.prime Y.width y = record { count = m.count; below = m.below } in
      let d : List ℕ = difference Y.base.prime x y in
      let drow : IsRow Y.base.prime Y.width (difference Y.base.prime x y) = IsRow-difference Y.base.prime Y.width big x y row row' in
      let whole : row_sum Y.base.prime (difference Y.base.prime x y) y ≡ x =
      row_sum-add_rows Y.base.prime (difference Y.base.prime x y) y (drow.count ∙ sym m.count)
      ∙ difference-add_rows Y.base.prime Y.width big x y row row' in
      let added : Joined (flat Y) (word_from Y.base.rank d ++ word_from Y.base.rank y) (word_from Y.base.rank x) =
      subst (λ (z : List ℕ). Joined (flat Y) (word_from Y.base.rank (difference Y.base.prime x y) ++ word_from Y.base.rank y)
      (word_from Y.base.rank z)) whole
      (row_words-add Y rowed (difference Y.base.prime x y) y drow.count m.count) in
      joined-cancel_right (word_from Y.base.rank y) (word_from Y.base.rank d) [] (joined-trans added same)

  module _ (push : State → ℕ → State) (meaning : IsMeaning Y push) (o : Overlap) (h : IsOverlap Y.base.rank o) where
    pub left_end-state : IsState Y Y.base.rank (left_end Y push o)
    left_end-state = end-state Y rowed big push meaning (left_way Y o) (left_way-below Y rowed big o h) (left_way-row Y rowed big o)

    pub right_end-state : IsState Y Y.base.rank (right_end Y push o)
    right_end-state = end-state Y rowed big push meaning (right_way Y o) (right_way-below Y rowed big o h) (right_way-row Y rowed big o h)

    pub overlap_row-row : IsRow Y.base.prime Y.width (overlap_row Y push o)
    overlap_row-row =
        let l = left_end-state in
        let r = right_end-state in
        IsRow-difference Y.base.prime Y.width big (left_end Y push o).row (right_end Y push o).row
        (record { count = l.row.count; below = l.row.below }) (record { count = r.row.count; below = r.row.below })

    pub ends-agree : IsConsistent Y.base → ExponentsAgree Y push o
    ends-agree consistent = (ways-over_base Y rowed big push meaning consistent o h).exponents

    -- the words of the rows of both ends
    rows-joined : ExponentsAgree Y push o
        → Joined (flat Y) (word_from Y.base.rank (left_end Y push o).row) (word_from Y.base.rank (right_end Y push o).row)
    rows-joined same =
        joined-cancel_left (letters (spelled 0 (right_end Y push o).exponents)) (word_from Y.base.rank (left_end Y push o).row)
        (word_from Y.base.rank (right_end Y push o).row)
        (subst (λ (e : List ℕ). Joined (flat Y) (letters (spelled 0 e) ++ word_from Y.base.rank (left_end Y push o).row)
        (word_of Y (right_end Y push o))) same
        (ways-joined Y rowed big push meaning o h))

    pub overlap_row-trivial : ExponentsAgree Y push o → Joined (flat Y) (word_from Y.base.rank (overlap_row Y push o)) []
    overlap_row-trivial same =
        let l = left_end-state in
        let r = right_end-state in
        difference-trivial (left_end Y push o).row (right_end Y push o).row l.row r.row (rows-joined same)

    pub overlap_row-trivial_over : IsConsistent Y.base → Joined (flat Y) (word_from Y.base.rank (overlap_row Y push o)) []
    overlap_row-trivial_over consistent = overlap_row-trivial (ends-agree consistent)
