-- Over a consistent base a row whose word is joined to the empty word is in each span that holds the overlap rows, since it
-- is carried to zero along the kept rows. Combinations of such rows are such rows. So such rows are the span of the overlap
-- rows.
use Rattle.std.proofs.Common.{◌≡◌, ℕ, ◌<◌, List, [], ◌++◌, length, ap, sym, ◌∙◌, arith}
use Rattle.pq_base.specs.Elementary.{zeros}
use Rattle.pq_base.specs.Presentation.{IsNormal, word_from}
use Rattle.pq_base.specs.Joined.{Joined, IsConsistent}
use Rattle.pq_base.proofs.words.WordLaws.{word_from-zeros}
use Rattle.pq_base.proofs.words.JoinedLaws.{joined-from_equal, joined-sym, joined-trans}
use Rattle.fp_echelon.specs.Span.{AreRows, InSpan}
use Rattle.fp_echelon.specs.Reduced.{BasisRow, rows_of, IsReduced}
use Rattle.fp_echelon.specs.Laws.{HasInverses}
use Rattle.fp_echelon.proofs.EveryBasis.{reduced_basis_of}
use Rattle.fp_echelon.proofs.OfferedInverses.{HasInverses-offered}
use Rattle.pc_presentation.specs.Rowed.{RowedPresentation, IsRowed, flat}
use Rattle.pc_presentation.specs.Collection.{State, IsState, identity, letters, signed_word, configuration_of}
use Rattle.pc_presentation.specs.OverlapRows.{overlap_row}
use Rattle.pc_presentation.specs.Arithmetic.{IsMeaning}
use Rattle.pq_base.proofs.PrimeLaws.{offered-positive, offered-two}
use Rattle.pc_presentation.proofs.collecting.PlainRule.{spelled-zeros}
use Rattle.pc_presentation.proofs.rows.RowLaws.{zeros-normal, identity-state}
use Rattle.pc_presentation.proofs.consistent.ConsistentPushes.{states-unique}
use Rattle.cover_quotient.specs.Carried.{carried, carried_presentation}
use Rattle.cover_quotient.specs.Kept.{kept_columns, kept_rows}
use Rattle.cover_quotient.specs.OverlapRows.{SpanOverlaps}
use Rattle.cover_quotient.specs.SpanLaws.{TrivialRowsAreInTheSpan, CombinationsOfTrivialRowsAreTrivial}
use Rattle.cover_quotient.proofs.carried_rows.CarriedRows.{row_from_normal}
use Rattle.cover_quotient.proofs.carried_rows.CarriedPresentations.{carried-rowed, carry-normal}
use Rattle.cover_quotient.proofs.carried_rows.CarriedWords.{words-mapped}
use Rattle.cover_quotient.proofs.kept_tails.KeptRows.{length-kept_rows, kept_rows-are_rows, carried-zero}
use Rattle.cover_quotient.proofs.carried_rows.RowWords.{span-trivial}
use Rattle.cover_quotient.proofs.spans.ConsistentQuotients.{quotient-consistent}

-- in a consistent flat reading a row whose word is joined to the empty word is zero
pub trivial_row-zero : (Y : RowedPresentation) → IsRowed Y → 0 < Y.base.prime → IsConsistent (flat Y) → (x : List ℕ)
    → IsNormal Y.base.prime Y.width x → Joined (flat Y) (word_from Y.base.rank x) [] → x ≡ zeros Y.width
trivial_row-zero Y rowed positive consistent x h c =
    let n : ℕ = Y.base.rank in
    let s : State = record { exponents = zeros n; row = x } in
    let state : IsState Y Y.base.rank (record { exponents = zeros Y.base.rank; row = x }) =
    record { exponents = zeros-normal Y.base.prime Y.base.rank positive; row = h } in
    let no_letters : (y : List ℕ)
    → signed_word Y.base.rank (configuration_of (record { exponents = zeros Y.base.rank; row = y })) ≡ word_from Y.base.rank y =
    λ y. ap (λ (w : List ℕ). letters w ++ word_from Y.base.rank y) (spelled-zeros 0 Y.base.rank) in
    let joined : Joined (flat Y) (signed_word Y.base.rank (configuration_of (record { exponents = zeros Y.base.rank; row = x })))
    (signed_word Y.base.rank (configuration_of (identity Y Y.base.rank))) =
    joined-trans (joined-from_equal (flat Y) (no_letters x))
    (joined-trans c (joined-from_equal (flat Y) (sym (no_letters (zeros Y.width) ∙ word_from-zeros Y.base.rank Y.width)))) in
    ap (λ (t : State). t.row) (states-unique Y rowed positive consistent s (identity Y n) state (identity-state Y n positive) joined)

module _ (Z : RowedPresentation) (rowed : IsRowed Z) (big : 1 < Z.base.prime) (inverses : HasInverses Z.base.prime)
    (push : State → ℕ → State) (meaning : IsMeaning Z push) (consistent : IsConsistent Z.base) where
  -- modulo a reduced basis
  in_reduced_span : (bs : List BasisRow) → IsReduced Z.base.prime Z.width bs → SpanOverlaps Z push (rows_of bs)
      → (x : List ℕ) → IsNormal Z.base.prime Z.width x → Joined (flat Z) (word_from Z.base.rank x) []
      → InSpan Z.base.prime Z.width (rows_of bs) x
  in_reduced_span bs reduced spans x h c =
      let p : ℕ = Z.base.prime in
      let width : ℕ = length (kept_columns Z.width bs) in
      let rows : List (List ℕ) = kept_rows Z.base.prime Z.width bs in
      let are = kept_rows-are_rows p Z.width big bs reduced in
      let Q : RowedPresentation = carried_presentation (length (kept_columns Z.width bs)) (kept_rows Z.base.prime Z.width bs) Z in
      let words = words-mapped Z rowed (omega arith) width rows are (length-kept_rows p Z.width bs) in
      let trivial : Joined (flat Q) (word_from Z.base.rank (carried p width rows x)) [] =
      joined-trans (joined-sym (words.row_words x h)) (words.joined (word_from Z.base.rank x) [] c) in
      (carried-zero p Z.width big bs reduced x (row_from_normal p Z.width x h)).0
      (trivial_row-zero Q (carried-rowed Z rowed (omega arith) width rows are) (omega arith)
      (quotient-consistent Z rowed big push meaning bs consistent reduced spans) (carried p width rows x)
      (carry-normal Z rowed (omega arith) width rows are x) trivial)

  pub trivial_in_span : (rows : List (List ℕ)) → AreRows Z.base.prime Z.width rows → SpanOverlaps Z push rows
      → (x : List ℕ) → IsNormal Z.base.prime Z.width x → Joined (flat Z) (word_from Z.base.rank x) [] → InSpan Z.base.prime Z.width rows x
  trivial_in_span rows are spans x h c =
      let basis = reduced_basis_of Z.base.prime Z.width big inverses rows are in
      (basis.spans x).1
      (in_reduced_span basis.basis basis.reduced (λ o i. (basis.spans (overlap_row Z push o)).0 (spans o i)) x h c)

pub trivial_rows_are_in_the_span : TrivialRowsAreInTheSpan
trivial_rows_are_in_the_span Z push rows rowed offered meaning consistent are spans x h c =
    trivial_in_span Z rowed (offered-two Z.base.prime offered) (HasInverses-offered Z.base.prime offered) push meaning consistent rows are
    spans x h c

pub combinations_of_trivial_rows_are_trivial : CombinationsOfTrivialRowsAreTrivial
combinations_of_trivial_rows_are_trivial Z rows rowed offered are all x h =
    span-trivial Z rowed (offered-positive Z.base.prime offered) rows are all x h
