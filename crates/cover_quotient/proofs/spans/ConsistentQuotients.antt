-- Over a consistent base both ways of each overlap lead to the same exponents, so modulo a span that holds the overlap rows
-- they lead to the same state: the flat reading is consistent.
use Rattle.std.proofs.Common.{◌≡◌, ℕ, ◌<◌, List, [], ◌∷◌, length, ap, sym, ◌∙◌, subst, arith}
use Rattle.pq_base.specs.Elementary.{zeros}
use Rattle.pq_base.specs.Table.{AllBelow}
use Rattle.pq_base.specs.Presentation.{IsNormal}
use Rattle.pq_base.specs.Joined.{IsConsistent}
use Rattle.fp_rows.specs.Rows.{IsRow}
use Rattle.fp_echelon.specs.Span.{AreRows}
use Rattle.fp_echelon.specs.Reduced.{BasisRow, rows_of, IsReduced}
use Rattle.fp_rows.proofs.DifferenceLaws.{IsRow-difference, equal_from_difference}
use Rattle.pc_presentation.specs.Rowed.{RowedPresentation, IsRowed, flat}
use Rattle.pc_presentation.specs.Collection.{Configuration, State, IsState, identity, add_row, push_word, push_configuration}
use Rattle.pc_presentation.specs.Overlaps.{Overlap, IsOverlap, left_way, right_way, PushChain, Agrees}
use Rattle.pc_presentation.specs.Overlaps.Overlap.{triple, left, right, own}
use Rattle.pc_presentation.specs.Overlaps.PushChain.{no_push, then_push}
use Rattle.pc_presentation.specs.OverlapRows.{left_end, right_end, overlap_row}
use Rattle.pc_presentation.specs.Arithmetic.{IsMeaning}
use Rattle.pq_base.proofs.PrimeLaws.{offered-two}
use Rattle.pc_presentation.proofs.rows.RowLaws.{zeros-normal, identity-state}
use Rattle.pc_presentation.proofs.rows.RowMaps.{mapped}
use Rattle.pc_presentation.proofs.consistent.Consistency.{left_way-below, right_way-below, agreeing_overlaps_consistent}
use Rattle.pc_presentation.proofs.consistent.ConsistentOverlaps.{ways-over_base}
use Rattle.pc_presentation.proofs.consistent.OverlapRows.{left_end-state, right_end-state, overlap_row-row}
use Rattle.cover_quotient.specs.Carried.{carried, carried_presentation}
use Rattle.cover_quotient.specs.Kept.{kept_columns, kept_rows}
use Rattle.cover_quotient.specs.OverlapRows.{SpanOverlaps}
use Rattle.cover_quotient.specs.SpanLaws.{QuotientsByOverlapRowsAreConsistent}
use Rattle.cover_quotient.proofs.carried_rows.CarriedRows.{row_from_normal, carried-row, carried-difference}
use Rattle.cover_quotient.proofs.carried_rows.CarriedPresentations.{carried-rowed, chain-carried, identity-carried, add_row-carried}
use Rattle.cover_quotient.proofs.carried_rows.CarriedPresentations.{left_way-carried, right_way-carried}
use Rattle.cover_quotient.proofs.kept_tails.KeptRows.{kept_rows-are_rows, carried-zero}

module _ (Z : RowedPresentation) (rowed : IsRowed Z) (big : 1 < Z.base.prime) (push : State → ℕ → State) (meaning : IsMeaning Z push) where
  -- a collector's pushes one after the other
  pub collector_chain : (w : List ℕ) (s : State) → IsState Z Z.base.rank s → AllBelow Z.base.rank w → PushChain Z s w (push_word push s w)
  collector_chain [] s h b = no_push
  collector_chain (i ∷ w) s h b = let m = meaning.pushed s i h b.0 in then_push m (collector_chain w (push s i) m.state b.1)

  -- along a map of rows that takes the overlap's difference to zero the overlap agrees
  module _ (width : ℕ) (rows : List (List ℕ)) (are : AreRows Z.base.prime width rows) where
    abbrev Q : RowedPresentation
    Q = carried_presentation width rows Z

    abbrev carry : List ℕ → List ℕ
    carry x = carried Z.base.prime width rows x

    carried_chain : (w : List ℕ) → AllBelow Z.base.rank w
        → PushChain Q (identity Q Z.base.rank) w (mapped carry (push_word push (identity Z Z.base.rank) w))
    carried_chain w b =
        subst (λ (s : State). PushChain Q s w (mapped carry (push_word push (identity Z Z.base.rank) w)))
        (identity-carried Z rowed (omega arith) width rows are)
        (chain-carried Z rowed (omega arith) width rows are
        (collector_chain w (identity Z Z.base.rank) (identity-state Z Z.base.rank (omega arith)) b))

    same_rows : (o : Overlap) → IsOverlap Z.base.rank o → carry (overlap_row Z push o) ≡ zeros width
        → carry (left_end Z push o).row ≡ carry (right_end Z push o).row
    same_rows o h none =
        let x : List ℕ = (left_end Z push o).row in
        let y : List ℕ = (right_end Z push o).row in
        let xs = left_end-state Z rowed big push meaning o h in
        let ys = right_end-state Z rowed big push meaning o h in
        equal_from_difference Z.base.prime width big (carry x) (carry y)
        (carried-row Z.base.prime width (omega arith) rows x are) (carried-row Z.base.prime width (omega arith) rows y are)
        (sym (carried-difference Z.base.prime width (omega arith) rows x y (xs.row.count ∙ sym ys.row.count)) ∙ none)

    same_ends : IsConsistent Z.base → (o : Overlap) → IsOverlap Z.base.rank o → carry (overlap_row Z push o) ≡ zeros width
        → mapped carry (left_end Z push o) ≡ mapped carry (right_end Z push o)
    same_ends consistent o h none =
        let same = ways-over_base Z rowed big push meaning consistent o h in
        ap (λ (e : List ℕ). record { exponents = e; row = carried Z.base.prime width rows (left_end Z push o).row }) same.exponents
        ∙ ap (λ (x : List ℕ). record { exponents = (right_end Z push o).exponents; row = x }) (same_rows o h none)

    -- the end of a way of Q
    carried_end : (c d : Configuration) → d ≡ record { word = c.word; row = carry c.row }
        → add_row Z.base.prime d.row (mapped carry (push_word push (identity Z Z.base.rank) c.word))
        ≡ mapped carry (push_configuration Z push (identity Z Z.base.rank) c)
    carried_end c d e =
        let s : State = push_word push (identity Z Z.base.rank) c.word in
        ap (λ (b : Configuration).
        add_row Z.base.prime b.row (mapped (carried Z.base.prime width rows) (push_word push (identity Z Z.base.rank) c.word))) e
        ∙ sym (add_row-carried Z rowed (omega arith) width rows are c.row s)

    pub overlap_agrees : IsConsistent Z.base → (o : Overlap) → IsOverlap Z.base.rank o
        → carried Z.base.prime width rows (overlap_row Z push o) ≡ zeros width → Agrees (carried_presentation width rows Z) o
    overlap_agrees consistent o h none =
        let l = left_way-carried Z rowed (omega arith) width rows are o in
        let r = right_way-carried Z rowed (omega arith) width rows are o h in
        record {
          left_end = mapped carry (push_word push (identity Z Z.base.rank) (left_way Z o).word);
          right_end = mapped carry (push_word push (identity Z Z.base.rank) (right_way Z o).word);
          left_chain =
              subst (λ (w : List ℕ). PushChain Q (identity Q Z.base.rank) w
              (mapped carry (push_word push (identity Z Z.base.rank) (left_way Z o).word)))
              (sym (ap (λ (c : Configuration). c.word) l)) (carried_chain (left_way Z o).word (left_way-below Z rowed big o h));
          right_chain =
              subst (λ (w : List ℕ). PushChain Q (identity Q Z.base.rank) w
              (mapped carry (push_word push (identity Z Z.base.rank) (right_way Z o).word)))
              (sym (ap (λ (c : Configuration). c.word) r)) (carried_chain (right_way Z o).word (right_way-below Z rowed big o h));
          same =
              carried_end (left_way Z o) (left_way Q o) l
              ∙ same_ends consistent o h none
              ∙ sym (carried_end (right_way Z o) (right_way Q o) r);
        }

  pub quotient-consistent : (bs : List BasisRow) → IsConsistent Z.base → IsReduced Z.base.prime Z.width bs
      → SpanOverlaps Z push (rows_of bs)
      → IsConsistent (flat (carried_presentation (length (kept_columns Z.width bs)) (kept_rows Z.base.prime Z.width bs) Z))
  quotient-consistent bs consistent reduced spans =
      let width : ℕ = length (kept_columns Z.width bs) in
      let rows : List (List ℕ) = kept_rows Z.base.prime Z.width bs in
      let are = kept_rows-are_rows Z.base.prime Z.width big bs reduced in
      agreeing_overlaps_consistent (carried_presentation width rows Z) (carried-rowed Z rowed (omega arith) width rows are) big
      (λ o h.
      overlap_agrees width rows are consistent o h
      ((carried-zero Z.base.prime Z.width big bs reduced (overlap_row Z push o) (overlap_row-row Z rowed big push meaning o h)).1
      (spans o h)))

pub quotients_by_overlap_rows_are_consistent : QuotientsByOverlapRowsAreConsistent
quotients_by_overlap_rows_are_consistent Z push bs rowed offered meaning consistent reduced spans =
    quotient-consistent Z rowed (offered-two Z.base.prime offered) push meaning bs consistent reduced spans
