-- Over a consistent base the rows whose words are joined to the empty word are exactly the span of the rows of all overlaps.
use Rattle.std.proofs.Common.{◌↔◌, ℕ, zero, suc, ◌<◌, List, [], ◌∷◌, length, get_or, ap, subst, arith}
use Rattle.std.specs.List.{All, Contains}
use Rattle.std.proofs.lemmas.List.Elements.{All-head, All-tail, All-weaker}
use Rattle.pq_base.specs.Presentation.{IsNormal, word_from}
use Rattle.pq_base.specs.Joined.{Joined, IsConsistent}
use Rattle.fp_rows.specs.Rows.{IsRow}
use Rattle.fp_echelon.specs.Span.{AreRows, InSpan, EachInSpan}
use Rattle.fp_echelon.specs.Laws.{HasInverses}
use Rattle.fp_echelon.proofs.SpanLaws.{EachInSpan-own}
use Rattle.fp_echelon.proofs.OfferedInverses.{HasInverses-offered}
use Rattle.pc_presentation.specs.Rowed.{RowedPresentation, IsRowed, flat}
use Rattle.pc_presentation.specs.Collection.{State}
use Rattle.pc_presentation.specs.Overlaps.{Overlap, IsOverlap}
use Rattle.pc_presentation.specs.OverlapRows.{overlap_row}
use Rattle.pc_presentation.specs.Arithmetic.{IsMeaning}
use Rattle.pq_base.proofs.PrimeLaws.{offered-two}
use Rattle.pc_presentation.proofs.consistent.OverlapRows.{overlap_row-row, overlap_row-trivial_over}
use Rattle.cover_quotient.specs.OverlapRows.{SpanOverlaps, IsOverlapRow, AreOverlapRows}
use Rattle.cover_quotient.specs.SpanLaws.{TrivialRowsAreTheSpan}
use Rattle.cover_quotient.proofs.carried_rows.RowWords.{span-trivial}
use Rattle.cover_quotient.proofs.spans.TrivialRows.{trivial_in_span}

-- rows on a list
pub AreRows-from_all : (p width : ℕ) (rows : List (List ℕ)) → All (λ (r : List ℕ). IsRow p width r) rows → AreRows p width rows
AreRows-from_all p width [] all = tt
AreRows-from_all p width (r ∷ rows) all = (
  All-head (λ (x : List ℕ). IsRow p width x) r rows all,
  AreRows-from_all p width rows (All-tail (λ (x : List ℕ). IsRow p width x) r rows all),
)

in_span_at : (p width : ℕ) (rows xs : List (List ℕ)) (k : ℕ) (d : List ℕ) → EachInSpan p width rows xs → k < length xs
    → InSpan p width rows (get_or xs k d)
in_span_at p width rows [] k d each l = absurd (omega arith)
in_span_at p width rows (x ∷ xs) zero d each l = each.0
in_span_at p width rows (x ∷ xs) (suc k) d each l = in_span_at p width rows xs k d each.1 (omega arith)

pub InSpan-contained : (p width : ℕ) (rows : List (List ℕ)) (x : List ℕ) → 1 < p → AreRows p width rows → Contains rows x
    → InSpan p width rows x
InSpan-contained p width rows x some are h =
    subst (λ (r : List ℕ). InSpan p width rows r) h.2 (in_span_at p width rows rows h.0 x (EachInSpan-own p width rows some are) h.1)

module _ (Z : RowedPresentation) (rowed : IsRowed Z) (big : 1 < Z.base.prime) (push : State → ℕ → State) (meaning : IsMeaning Z push)
    (rows : List (List ℕ)) (overlaps : AreOverlapRows Z push rows) where
  pub overlap_rows-are_rows : AreRows Z.base.prime Z.width rows
  overlap_rows-are_rows =
      AreRows-from_all Z.base.prime Z.width rows
      (All-weaker (IsOverlapRow Z push) (λ (r : List ℕ). IsRow Z.base.prime Z.width r)
      (λ x h. subst (λ (r : List ℕ). IsRow Z.base.prime Z.width r) h.same (overlap_row-row Z rowed big push meaning h.overlap h.is_overlap))
      rows overlaps.only)

  pub overlap_rows-span : SpanOverlaps Z push rows
  overlap_rows-span o h = InSpan-contained Z.base.prime Z.width rows (overlap_row Z push o) big overlap_rows-are_rows (overlaps.every o h)

  pub overlap_rows-trivial : IsConsistent Z.base → All (λ (r : List ℕ). Joined (flat Z) (word_from Z.base.rank r) []) rows
  overlap_rows-trivial consistent =
      All-weaker (IsOverlapRow Z push) (λ (r : List ℕ). Joined (flat Z) (word_from Z.base.rank r) [])
      (λ x h. subst (λ (r : List ℕ). Joined (flat Z) (word_from Z.base.rank r) []) h.same
      (overlap_row-trivial_over Z rowed big push meaning h.overlap h.is_overlap consistent))
      rows overlaps.only

  pub trivial_exactly_in_span : HasInverses Z.base.prime → IsConsistent Z.base → (x : List ℕ) → IsNormal Z.base.prime Z.width x
      → Joined (flat Z) (word_from Z.base.rank x) [] ↔ InSpan Z.base.prime Z.width rows x
  trivial_exactly_in_span inverses consistent x h = (
    λ c. trivial_in_span Z rowed big inverses push meaning consistent rows overlap_rows-are_rows overlap_rows-span x h c,
    λ s. span-trivial Z rowed (omega arith) rows overlap_rows-are_rows (overlap_rows-trivial consistent) x s,
  )

pub trivial_rows_are_the_span : TrivialRowsAreTheSpan
trivial_rows_are_the_span Z push rows rowed offered meaning consistent overlaps x h =
    trivial_exactly_in_span Z rowed (offered-two Z.base.prime offered) push meaning rows overlaps
    (HasInverses-offered Z.base.prime offered) consistent x h
