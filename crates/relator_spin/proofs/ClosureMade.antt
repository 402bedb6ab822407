-- What is made of a basis, rows and matrices in the end is the closure.
use Rattle.std.proofs.Common.{◌≡◌, ℕ, suc, ◌+◌, ◌<◌, List, [], ◌++◌, length, get_or, drop, ap, ap₂, sym, ◌∙◌, subst, arith, length-append}
use Rattle.std.proofs.lemmas.List.{drop_at, drop_all, length-map}
use Rattle.pq_base.specs.LPresentation.{AreEndoNumbers}
use Rattle.fp_rows.specs.Row.{PrimeRow}
use Rattle.fp_echelon.specs.Span.{AreRows, InSpan, EachInSpan}
use Rattle.fp_echelon.specs.Reduced.{pivots_of}
use Rattle.fp_echelon.specs.Basis.{Echelon, IsBasis}
use Rattle.fp_echelon.specs.Matrix.{PrimeMatrix, times_matrix, entries_of}
use Rattle.fp_echelon.proofs.InsertionLaws.{length-pivots_of}
use Rattle.relator_spin.specs.declared.spun.Spun.{Spun}
use Rattle.relator_spin.specs.Closure.{matrix_at, row_along, spun_rows, AreNames, IsClosed, HasMorePivots}
use Rattle.relator_spin.specs.Spinning.{Spinning, IsReady, IsNamed, HasGrown, ImagesInSpan}
use Rattle.relator_spin.proofs.SpanParts.{EachInSpan-at, EachInSpan-by_place, EachInSpan-append}
use Rattle.relator_spin.proofs.ClosureLaws.{InSpan-row_along, EachInSpan-spun_rows, IsClosed-more}
use Rattle.relator_spin.proofs.GrownWork.{HasGrown-trans, AreRows-grown, two-grown}
use Rattle.relator_spin.proofs.WorkLoops.{kept_in_span}

-- the start: no names yet
pub IsNamed-start : (rows : List PrimeRow) (ms : List PrimeMatrix) (w : Spinning) → w.older ≡ length w.basis.added → w.spun ≡ []
    → IsNamed rows ms w
IsNamed-start rows ms w e none = record {
  new_rows =
      drop_all w.older w.basis.added (omega arith) ∙ sym (ap (λ (l : List Spun). spun_rows w.basis.prime w.basis.width rows ms l) none);
  names = subst (λ (l : List Spun). AreNames (length rows) (length ms) l) (sym none) tt;
}

pub record IsMade (B : Echelon) (given : List PrimeRow) (ms : List PrimeMatrix) (new : Echelon) (spun : List Spun) : Type 0 where
  pub added : new.added ≡ B.added ++ spun_rows B.prime B.width given ms spun
  pub names : AreNames (length given) (length ms) spun
  pub pivots : HasMorePivots B.rows new.rows (length spun)
  pub rows : EachInSpan B.prime B.width new.added (entries_of given)
  pub closed : IsClosed B.prime B.width ms new.added
  pub images : (i : ℕ) → i < length given → (s : List ℕ) → AreEndoNumbers (length ms) s
      → InSpan B.prime B.width new.added (row_along B.prime B.width ms s (get_or (entries_of given) i []))
  pub least : (others : List (List ℕ)) → AreRows B.prime B.width others
      → EachInSpan B.prime B.width others B.added → EachInSpan B.prime B.width others (entries_of given)
      → IsClosed B.prime B.width ms others → EachInSpan B.prime B.width others new.added

-- it doesn't matter how much room the basis has
pub IsMade-roomy : (B : Echelon) (k : ℕ) (given : List PrimeRow) (ms : List PrimeMatrix) (new : Echelon) (spun : List Spun)
    → IsMade (record B { spare = k }) given ms new spun → IsMade B given ms new spun
IsMade-roomy B k given ms new spun made = record {
  added = made.added;
  names = made.names;
  pivots = made.pivots;
  rows = made.rows;
  closed = made.closed;
  images = made.images;
  least = made.least;
}

-- from the start over the given rows to the end
module _ (rows : List PrimeRow) (ms : List PrimeMatrix) (start taken end : Spinning)
    (first : IsBasis start.basis) (older : start.older ≡ length start.basis.added) (none : start.spun ≡ [])
    (second : IsReady taken) (grown : HasGrown start taken)
    (given : EachInSpan start.basis.prime start.basis.width taken.basis.added (entries_of rows))
    (named : IsNamed rows ms taken → IsNamed rows ms end) (named-first : IsNamed rows ms start → IsNamed rows ms taken)
    (third : IsReady end) (grown-more : HasGrown taken end)
    (images : (i : ℕ) → i < length end.spun → ImagesInSpan ms end i)
    (closed : IsClosed start.basis.prime start.basis.width ms start.basis.added) where
  abbrev pub p : ℕ
  p = start.basis.prime

  abbrev pub width : ℕ
  width = start.basis.width

  abbrev pub whole : HasGrown start end
  whole = HasGrown-trans start taken end grown grown-more

  names : IsNamed rows ms end
  names = named (named-first (IsNamed-start rows ms start older none))

  more_is : whole.more ≡ spun_rows p width rows ms end.spun
  more_is =
      sym (drop_at start.basis.added whole.more start.older (sym older))
      ∙ ap₂ (λ (k : ℕ) (l : List (List ℕ)). drop k l) (sym whole.older) (sym whole.added)
      ∙ names.new_rows
      ∙ ap₂ (λ (q v : ℕ). spun_rows q v rows ms end.spun) whole.prime whole.width

  rows_in_span : EachInSpan p width end.basis.added (entries_of rows)
  rows_in_span =
      EachInSpan-by_place p width end.basis.added (entries_of rows)
      (λ i h. kept_in_span start taken end (get_or (entries_of rows) i []) grown third grown-more
      (EachInSpan-at p width taken.basis.added (entries_of rows) i [] h given))

  -- an image of a new row in the end, at the prime, the width and the place of the start
  image_at_start : (e j : ℕ)
      → InSpan end.basis.prime end.basis.width end.basis.added
      (times_matrix end.basis.prime end.basis.width (matrix_at ms (suc e)) (get_or end.basis.added (end.older + j) []))
      → InSpan p width (start.basis.added ++ whole.more)
      (times_matrix p width (matrix_at ms (suc e)) (get_or (start.basis.added ++ whole.more) (length start.basis.added + j) []))
  image_at_start e j s =
      let m : List (List ℕ) = matrix_at ms (suc e) in
      subst (λ (l : List (List ℕ)). InSpan p width l (times_matrix p width m (get_or l (length start.basis.added + j) []))) whole.added
      (subst (λ (k : ℕ). InSpan p width end.basis.added (times_matrix p width m (get_or end.basis.added (k + j) []))) (whole.older ∙ older)
      (subst (λ (v : ℕ). InSpan p v end.basis.added (times_matrix p v m (get_or end.basis.added (end.older + j) []))) whole.width
      (subst (λ (q : ℕ). InSpan q end.basis.width end.basis.added
      (times_matrix q end.basis.width m (get_or end.basis.added (end.older + j) []))) whole.prime s)))

  is_closed : IsClosed p width ms end.basis.added
  is_closed =
      let two = two-grown start end third.basis whole in
      let count = third.count in
      let long : length end.basis.added ≡ length start.basis.added + length whole.more =
      ap (λ (l : List (List ℕ)). length l) whole.added ∙ length-append start.basis.added whole.more in
      let same = whole.older in
      subst (λ (l : List (List ℕ)). IsClosed p width ms l) (sym whole.added)
      (IsClosed-more p width (omega arith) ms start.basis.added whole.more (AreRows-grown start end third.basis whole) closed
      (λ j e h l. image_at_start e j (images j (omega arith) e l)))

  more_pivots : HasMorePivots start.basis.rows end.basis.rows (length end.spun)
  more_pivots =
      let before = first.count in
      let after = third.basis.count in
      let count = third.count in
      let same = whole.older in
      let left = length-pivots_of end.basis.rows in
      let right = length-pivots_of start.basis.rows in
      let long : length (pivots_of end.basis.rows) ≡ length (pivots_of start.basis.rows) + length whole.pivots =
      ap (λ (l : List ℕ). length l) whole.after ∙ length-append (pivots_of start.basis.rows) whole.pivots in
      record { pivots = whole.pivots; after = whole.after; count = omega arith }

  added_is : end.basis.added ≡ start.basis.added ++ spun_rows p width rows ms end.spun
  added_is = whole.added ∙ ap (λ (l : List (List ℕ)). start.basis.added ++ l) more_is

  pub is_made : IsMade start.basis rows ms end.basis end.spun
  is_made = record {
    added = added_is;
    names = names.names;
    pivots = more_pivots;
    rows = rows_in_span;
    closed = is_closed;
    images = λ i h s numbers.
        InSpan-row_along p width ms end.basis.added is_closed s (get_or (entries_of rows) i []) numbers
        (EachInSpan-at p width end.basis.added (entries_of rows) i []
        (omega (arith, length-map rows (λ (r : PrimeRow). r.entries))) rows_in_span);
    least = λ others are old given-rows closed-others.
        subst (λ (l : List (List ℕ)). EachInSpan p width others l) (sym added_is)
        (EachInSpan-append p width others start.basis.added (spun_rows p width rows ms end.spun) old
        (EachInSpan-spun_rows p width ms others closed-others rows end.spun given-rows names.names));
  }

  pub prime_made : end.basis.prime ≡ p
  prime_made = whole.prime

  pub width_made : end.basis.width ≡ width
  width_made = whole.width
