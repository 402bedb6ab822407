-- Words that are joined to words of rows, and words that are joined to words of combinations of given rows, are central sets
-- of words in the flat reading.
use Rattle.std.proofs.Common.{ℕ, ◌+◌, ◌-◌, ◌<◌, ℤ, List, [], ◌++◌, sym, subst, arith}
use Rattle.pq_base.specs.SignedWord.{inv}
use Rattle.pq_base.specs.Presentation.{letter}
use Rattle.pq_base.specs.Elementary.{zeros}
use Rattle.pq_base.specs.Canonical.{unit}
use Rattle.pq_base.proofs.words.WordLaws.{word_from-zeros}
use Rattle.pq_base.proofs.UnitLaws.{length-unit, word_from-unit}
use Rattle.pq_base.proofs.words.JoinedLaws.{joined-from_equal, joined-sym, joined-trans, joined-append, joined-inv}
use Rattle.pq_base.proofs.words.CentralWords.{IsCentral, central-joined}
use Rattle.fp_rows.specs.Rows.{IsRow, add_rows, negative_row}
use Rattle.fp_echelon.specs.Span.{AreRows, InSpan}
use Rattle.fp_echelon.proofs.SpanLaws.{IsRow-InSpan, InSpan-zeros, InSpan-add_rows, InSpan-scale_row}
use Rattle.pc_presentation.specs.Rowed.{RowedPresentation, IsRowed, flat}
use Rattle.p_cover.specs.RowedAnswer.{RowedAnswer, IsRowedAnswer, rowed}
use Rattle.pc_presentation.specs.RowedLaws.{IsUpToRow}
use Rattle.pc_presentation.proofs.rows.RowsCentral.{row_word-central, row_word-inverse}
use Rattle.pc_presentation.proofs.rows.Lifting.{up_to_row-joined, up_to_row-refl, up_to_row-trans, up_to_row-append, up_to_row-inv}
use Rattle.cover_quotient.specs.Levels.{IsSpanned}
use Rattle.cover_quotient.proofs.carried_rows.CarriedRows.{normal_from_row}
use Rattle.cover_quotient.proofs.carried_rows.RowWords.{row_words-sum}
use Rattle.pq_base.proofs.groups.CentralCommutators.{IsCentralSet}
use Rattle.fp_rows.proofs.RowLaws.{scale_row-negative}

module _ (Z : RowedPresentation) (is : IsRowed Z) (big : 1 < Z.base.prime) where
  -- words of rows
  pub up_to_row-set : IsCentralSet (flat Z) (λ (w : List ℤ). IsUpToRow Z w [])
  up_to_row-set = record {
    kept = λ e h. up_to_row-trans Z is big (up_to_row-joined Z (omega arith) (joined-sym e)) h;
    one = up_to_row-refl Z is big [];
    times = λ x y h i. up_to_row-append Z is big {u = x} {v = []} {a = y} {b = []} tt h i;
    inverse = λ x h. up_to_row-inv Z is big {u = x} {v = []} tt h;
    central = λ x h. central-joined (flat Z) (joined-sym h.joined) (row_word-central Z is h.row h.normal.count);
  }

  -- a tail is central
  pub tail-central : (t : ℕ) → t < Z.width → IsCentral (flat Z) (letter (Z.base.rank + t))
  tail-central t l =
      subst (λ (w : List ℤ). IsCentral (flat Z) w) (word_from-unit Z.base.rank Z.width t l)
      (row_word-central Z is (unit Z.width t) (length-unit Z.width t))

-- words of combinations of rows
module _ (Y : RowedAnswer) (is : IsRowedAnswer Y) (big : 1 < Y.answer.presentation.prime) (rows : List (List ℕ))
    (are : AreRows Y.answer.presentation.prime Y.width rows) where
  abbrev p : ℕ
  p = Y.answer.presentation.prime

  abbrev n : ℕ
  n = Y.answer.presentation.rank

  is_row : (x : List ℕ) → InSpan Y.answer.presentation.prime Y.width rows x → IsRow Y.answer.presentation.prime Y.width x
  is_row x h = IsRow-InSpan Y.answer.presentation.prime Y.width rows x (omega arith) are h

  spanned-one : IsSpanned Y rows []
  spanned-one = record {
    row = zeros Y.width;
    span = InSpan-zeros Y.answer.presentation.prime Y.width rows (omega arith) are;
    joined = joined-from_equal (flat (rowed Y)) (sym (word_from-zeros Y.answer.presentation.rank Y.width));
  }

  spanned-times : (x y : List ℤ) → IsSpanned Y rows x → IsSpanned Y rows y → IsSpanned Y rows (x ++ y)
  spanned-times x y h i = record {
    row = add_rows Y.answer.presentation.prime h.row i.row;
    span = InSpan-add_rows Y.answer.presentation.prime Y.width rows h.row i.row (omega arith) h.span i.span;
    joined =
        joined-trans (joined-append h.joined i.joined)
        (row_words-sum (rowed Y) is.presentation (omega arith) h.row i.row (is_row h.row h.span) (is_row i.row i.span));
  }

  spanned-inverse : (x : List ℤ) → IsSpanned Y rows x → IsSpanned Y rows (inv x)
  spanned-inverse x h = record {
    row = negative_row Y.answer.presentation.prime h.row;
    span = subst (InSpan Y.answer.presentation.prime Y.width rows)
        (scale_row-negative Y.answer.presentation.prime h.row (is_row h.row h.span).below)
        (InSpan-scale_row Y.answer.presentation.prime Y.width (Y.answer.presentation.prime - 1) rows h.row (omega arith) h.span);
    joined =
        joined-trans (joined-inv h.joined)
        (row_word-inverse (rowed Y) is.presentation (omega arith) h.row
        (normal_from_row Y.answer.presentation.prime Y.width h.row (is_row h.row h.span)));
  }

  pub spanned-set : IsCentralSet (flat (rowed Y)) (IsSpanned Y rows)
  spanned-set = record {
    kept = λ e h. record { row = h.row; span = h.span; joined = joined-trans (joined-sym e) h.joined };
    one = spanned-one;
    times = spanned-times;
    inverse = spanned-inverse;
    central = λ x h.
        central-joined (flat (rowed Y)) (joined-sym h.joined)
        (row_word-central (rowed Y) is.presentation h.row (is_row h.row h.span).count);
  }
