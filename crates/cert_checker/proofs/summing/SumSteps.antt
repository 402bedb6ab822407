-- The steps by which a line is judged: rows are added one after the other, then the coefficients of the kept tails at their columns, and
-- then the tail is taken away.
use Rattle.std.proofs.Common.{◌≡◌, ◌↔◌, ◌<◌, ◌≤◌, ◌+◌, ◌-◌, ℕ, zero, suc, Bool, IsTrue, List, [], ◌∷◌, get_or, take, length, map, refl, ap}
use Rattle.std.proofs.Common.{ap₂, sym, ◌∙◌, subst, arith}
use Rattle.std.specs.List.{All}
use Rattle.std.proofs.lemmas.List.{get_or-map, length-map, length-replicate}
use Rattle.pq_base.specs.Canonical.{numbers_from}
use Rattle.pq_base.specs.Elementary.{zeros}
use Rattle.fp_rows.specs.Row.{PrimeRow, IsZeroRow}
use Rattle.fp_rows.specs.Rows.{IsRow, add_rows, add_scaled}
use Rattle.fp_rows.specs.Differences.{difference}
use Rattle.fp_rows.proofs.RowLaws.{add_rows-zeros, IsRow-zeros, IsRow-add_rows, IsRow-add_scaled}
use Rattle.fp_echelon.specs.Span.{combine, AreRows}
use Rattle.fp_echelon.proofs.SpanLaws.{IsRow-combine, combine-zeros}
use Rattle.pc_presentation.specs.Pcp.{unit_row}
use Rattle.p_cover.specs.Covers.{CoverOf}
use Rattle.cover_quotient.proofs.carried_rows.UnitRows.{IsRow-unit_row}
use Rattle.derivation_log.specs.Certificates.{TailLine}
use Rattle.derivation_log.specs.CertificateRuns.{coefficient_in, row_of_pairs}
use Rattle.derivation_log.specs.CertificateParts.{IsSumOfRows}
use Rattle.derivation_log.proofs.PairRows.{length-row_of_pairs}
use Rattle.cert_checker.specs.StepRows.{IsRowOver, IsRowFor, IsAlike, entries_of}
use Rattle.cert_checker.specs.SumLines.{ArePairs, IsLineOver, raised}
use Rattle.cert_checker.proofs.summing.PairSums.{pairs-wider, pairs-row, pair-at, row_of_pairs-more, combine-raised, add_rows-raised}
use Rattle.cert_checker.proofs.summing.PairSums.{difference-unit, zero-difference}

zero-coefficients : (a n : ℕ) → map (coefficient_in []) (numbers_from a n) ≡ zeros n
zero-coefficients a zero = refl
zero-coefficients a (suc n) = ap (λ (xs : List ℕ). 0 ∷ xs) (zero-coefficients (suc a) n)

pub no_pairs : (n : ℕ) → row_of_pairs n [] ≡ zeros n
no_pairs n = zero-coefficients 1 n

module _ (p width : ℕ) where
  pub rows-are : (rows : List PrimeRow) → All (IsRowOver p width) rows → AreRows p width (entries_of rows)
  rows-are [] all = tt
  rows-are (r ∷ rows) all = ((all zero r (omega arith)).row, rows-are rows (λ k d l. all (suc k) d (omega arith)))

-- the rows of the pairs so far have been added to zeros
pub record IsSumSoFar (start sum : PrimeRow) (rows : List PrimeRow) (pairs : List (ℕ × ℕ)) (i : ℕ) : Type 0 where
  pub alike : IsAlike start sum
  pub is : sum.entries ≡ combine start.prime (length start.entries) (row_of_pairs (length rows) (take i pairs)) (entries_of rows)

module _ (start : PrimeRow) (rows : List PrimeRow) (all : All (IsAlike start) rows) (pairs : List (ℕ × ℕ)) where
  pub sum-none : IsAlike start start → start.entries ≡ zeros (length start.entries) → IsSumSoFar start start rows pairs zero
  sum-none is none =
      let some = is.some in
      record {
        alike = is;
        is = none
            ∙ sym (ap (λ (cs : List ℕ). combine start.prime (length start.entries) cs (entries_of rows)) (no_pairs (length rows))
            ∙ combine-zeros start.prime (length start.entries) (length rows) (entries_of rows) (omega arith)
            (rows-are start.prime (length start.entries) rows all));
      }

  module _ (are : ArePairs start.prime 1 (length rows) pairs) (i : ℕ) (d : ℕ × ℕ) (l : i < length pairs) where
    abbrev pair : ℕ × ℕ
    pair = get_or pairs i d

    pub sum-from_one : 1 ≤ pair.0
    sum-from_one = (pair-at start.prime 1 (length rows) pairs i d are l).from

    pub sum-inside : pair.0 - 1 < length rows
    sum-inside =
        let is = pair-at start.prime 1 (length rows) pairs i d are l in
        let first = is.from in let last = is.up_to in omega arith

    module _ (sum : PrimeRow) (so_far : IsSumSoFar start sum rows pairs i) (r : PrimeRow) (is : r ≡ get_or rows (pair.0 - 1) r) where
      row-is : IsAlike start r
      row-is = subst (IsAlike start) (sym is) (all (pair.0 - 1) r sum-inside)

      pub sum-prime : r.prime ≡ sum.prime
      sum-prime = row-is.prime ∙ sym so_far.alike.prime

      pub sum-width : length r.entries ≡ length sum.entries
      sum-width = row-is.row.count ∙ sym so_far.alike.row.count

      pub sum-factor : pair.1 < sum.prime
      sum-factor = subst (λ (p : ℕ). pair.1 < p) (sym so_far.alike.prime) (pair-at start.prime 1 (length rows) pairs i d are l).residue

      pub sum-more : (next : PrimeRow) → next ≡ record sum { entries = add_scaled sum.prime pair.1 sum.entries r.entries }
          → IsSumSoFar start next rows pairs (i + 1)
      sum-more next added =
          let some = so_far.alike.some in
          let p : ℕ = start.prime in
          let width : ℕ = length start.entries in
          let n : ℕ = length rows in
          let before : List ℕ = row_of_pairs n (take i pairs) in
          let long = length-row_of_pairs n (take i pairs) in
          let long_rows = length-map rows (λ (q : PrimeRow). q.entries) in
          let inside = sum-inside in
          let on : suc i ≡ i + 1 = omega arith in
          let entries : next.entries ≡ add_scaled p pair.1 sum.entries r.entries =
          ap (λ (q : PrimeRow). q.entries) added
          ∙ ap (λ (q : ℕ). add_scaled q pair.1 sum.entries r.entries) so_far.alike.prime in
          record {
            alike = record {
              prime = ap (λ (q : PrimeRow). q.prime) added ∙ so_far.alike.prime;
              some = some;
              row = subst (IsRow p width) (sym entries)
                  (IsRow-add_scaled p width pair.1 sum.entries r.entries (omega arith) so_far.alike.row row-is.row);
            };
            is = entries
                ∙ ap₂ (λ (xs ys : List ℕ). add_scaled p pair.1 xs ys) so_far.is
                (ap (λ (q : PrimeRow). q.entries) is
                ∙ sym (get_or-map (λ (q : PrimeRow). q.entries) rows (pair.0 - 1) r [] inside))
                ∙ sym (combine-raised p width pair.1 before (entries_of rows) (pair.0 - 1) [] (omega (arith, inside, long))
                (omega (arith, inside, long_rows)))
                ∙ ap (λ (cs : List ℕ). combine p width cs (entries_of rows))
                (sym (row_of_pairs-more p 1 n n pairs i d are l (omega arith) (omega arith)))
                ∙ ap (λ (k : ℕ). combine p width (row_of_pairs n (take k pairs)) (entries_of rows)) on;
          }

-- the coefficients of the pairs so far have been added at their columns
pub record IsRaisedSoFar (start row : PrimeRow) (pairs : List (ℕ × ℕ)) (i : ℕ) : Type 0 where
  pub alike : IsAlike start row
  pub is : row.entries ≡ add_rows start.prime start.entries (row_of_pairs (length start.entries) (take i pairs))

module _ (start : PrimeRow) (pairs : List (ℕ × ℕ)) where
  pub raised-none : IsAlike start start → IsRaisedSoFar start start pairs zero
  raised-none is = record {
    alike = is;
    is =
        sym (ap (add_rows start.prime start.entries) (no_pairs (length start.entries)) ∙ add_rows-zeros start.prime start.entries
        is.row.below);
  }

  module _ (are : ArePairs start.prime 1 (length start.entries) pairs) (i : ℕ) (d : ℕ × ℕ) (l : i < length pairs) (row : PrimeRow)
      (so_far : IsRaisedSoFar start row pairs i) where
    abbrev raising : ℕ × ℕ
    raising = get_or pairs i d

    pub raised-factor : raising.1 < row.prime
    raised-factor =
        subst (λ (p : ℕ). raising.1 < p) (sym so_far.alike.prime) (pair-at start.prime 1 (length start.entries) pairs i d are l).residue

    pub raised-first : 1 ≤ raising.0
    raised-first = (pair-at start.prime 1 (length start.entries) pairs i d are l).from

    pub raised-last : raising.0 ≤ length row.entries
    raised-last =
        subst (λ (n : ℕ). raising.0 ≤ n) (sym so_far.alike.row.count) (pair-at start.prime 1 (length start.entries) pairs i d are l).up_to

    pub raised-alike : IsAlike row row
    raised-alike = record {
      prime = refl;
      some = subst (λ (p : ℕ). 1 < p) (sym so_far.alike.prime) so_far.alike.some;
      row = subst (λ (p : ℕ). IsRow p (length row.entries) row.entries) (sym so_far.alike.prime)
          (subst (λ (w : ℕ). IsRow start.prime w row.entries) (sym so_far.alike.row.count) so_far.alike.row);
    }

    pub raised-more : (next : PrimeRow) → IsAlike row next
        → next ≡ record row { entries = raised row.prime row.entries raising.0 raising.1 }
        → IsRaisedSoFar start next pairs (i + 1)
    raised-more next alike added =
        let p : ℕ = start.prime in
        let width : ℕ = length start.entries in
        let before : List ℕ = row_of_pairs width (take i pairs) in
        let long = length-row_of_pairs width (take i pairs) in
        let first = raised-first in
        let is_at = pair-at start.prime 1 (length start.entries) pairs i d are l in
        let last = is_at.up_to in
        let on : suc i ≡ i + 1 = omega arith in
        record {
          alike = record {
            prime = alike.prime ∙ so_far.alike.prime;
            some = so_far.alike.some;
            row = subst (λ (q : ℕ). IsRow q width next.entries) so_far.alike.prime
                (subst (λ (w : ℕ). IsRow row.prime w next.entries) so_far.alike.row.count alike.row);
          };
          is = ap (λ (q : PrimeRow). q.entries) added
              ∙ ap (λ (q : ℕ). raised q row.entries raising.0 raising.1) so_far.alike.prime
              ∙ ap (λ (xs : List ℕ). raised p xs raising.0 raising.1) so_far.is
              ∙ add_rows-raised p raising.1 start.entries before (raising.0 - 1) (omega arith) (sym long)
              ∙ ap (add_rows p start.entries) (sym (row_of_pairs-more p 1 width width pairs i d are l (omega arith) (omega arith)))
              ∙ ap (λ (k : ℕ). add_rows p start.entries (row_of_pairs width (take k pairs))) on;
        }

-- zeros of the prime and the width of a row
pub zeros-alike : (p width : ℕ) (r zero_row : PrimeRow) → IsRowOver p width r → zero_row ≡ record r { entries = zeros (length r.entries) }
    → zero_row ≡ record { prime = p; entries = zeros width }
zeros-alike p width r zero_row is cleared =
    cleared ∙ ap₂ (λ (q n : ℕ). let zeros_of : PrimeRow = record { prime = q; entries = zeros n } in zeros_of) is.prime is.row.count

pub zeros-own : (p width : ℕ) (r : PrimeRow) → 1 < p → r ≡ record { prime = p; entries = zeros width } → IsAlike r r
zeros-own p width r some is =
    subst (λ (q : PrimeRow). IsAlike q q) (sym is) (record {
      prime = refl;
      some = some;
      row = subst (λ (n : ℕ). IsRow p n (zeros width)) (sym (length-replicate width 0)) (IsRow-zeros p width (omega arith));
    })

-- what is left in the end is zero exactly where the line is a sum of the rows
module _ (C : CoverOf) (rows : List PrimeRow) (all : All (IsRowFor C) rows) (l : TailLine)
    (line : IsLineOver C.answer.presentation.prime (length rows) l) (within : l.tail ≤ length C.sources)
    (some : 1 < C.answer.presentation.prime) where
  abbrev p : ℕ
  p = C.answer.presentation.prime

  abbrev width : ℕ
  width = length C.sources

  abbrev sum : List ℕ
  sum = combine p width (row_of_pairs (length rows) l.sums) (entries_of rows)

  abbrev kept : List ℕ
  kept = row_of_pairs width l.kept

  sum-row : IsRow p width sum
  sum-row = IsRow-combine p width (row_of_pairs (length rows) l.sums) (entries_of rows) (omega arith) (rows-are p width rows all)

  kept-row : IsRow p width kept
  kept-row = pairs-row p (l.tail - 1) width l.kept (omega arith) line.kept

  module _ (cleared summed raised_at left : PrimeRow) (zeros_are : cleared ≡ record { prime = p; entries = zeros width })
      (sum_is : summed ≡ record cleared {
        entries = combine cleared.prime (length cleared.entries) (row_of_pairs (length rows) l.sums) (entries_of rows);
      })
      (raised_is : raised_at ≡ record summed {
        entries = add_rows summed.prime summed.entries (row_of_pairs (length summed.entries) l.kept);
      })
      (left_is : left ≡ record raised_at { entries = raised raised_at.prime raised_at.entries l.tail (raised_at.prime - 1) }) where
    summed-is : summed ≡ record { prime = p; entries = sum }
    summed-is =
        sum_is
        ∙ ap (λ (r : PrimeRow). let next : PrimeRow = record {
          prime = r.prime;
          entries = combine r.prime (length r.entries) (row_of_pairs (length rows) l.sums) (entries_of rows);
        } in next) zeros_are
        ∙ ap (λ (n : ℕ). let next : PrimeRow = record {
          prime = p;
          entries = combine p n (row_of_pairs (length rows) l.sums) (entries_of rows);
        } in next) (length-replicate width 0)

    raised-is : raised_at ≡ record { prime = p; entries = add_rows p sum kept }
    raised-is =
        raised_is
        ∙ ap (λ (r : PrimeRow). let next : PrimeRow = record {
          prime = r.prime;
          entries = add_rows r.prime r.entries (row_of_pairs (length r.entries) l.kept);
        } in next) summed-is
        ∙ ap (λ (n : ℕ). let next : PrimeRow = record { prime = p; entries = add_rows p sum (row_of_pairs n l.kept) } in next) sum-row.count

    left-entries : left.entries ≡ difference p (add_rows p sum kept) (unit_row width l.tail)
    left-entries =
        let first = line.first in
        ap (λ (r : PrimeRow). r.entries) left_is
        ∙ ap (λ (r : PrimeRow). raised r.prime r.entries l.tail (r.prime - 1)) raised-is
        ∙ difference-unit p width l.tail (add_rows p sum kept) (omega arith)
        (IsRow-add_rows p width sum kept (omega arith) sum-row kept-row)
        (omega arith) within

    pub line-decided : (b : Bool) → (IsTrue b ↔ IsZeroRow left.entries) → (IsTrue b ↔ IsSumOfRows C (entries_of rows) l)
    line-decided b h =
        let count : length (entries_of rows) ≡ length rows = length-map rows (λ (r : PrimeRow). r.entries) in
        let decided = zero-difference p width sum kept (unit_row width l.tail) some sum-row kept-row
        (IsRow-unit_row p width l.tail some) in (
          (λ t. record {
            in_range = within;
            sum = ap (λ (n : ℕ). combine p width (row_of_pairs n l.sums) (entries_of rows)) count
                ∙ decided.0 (subst IsZeroRow left-entries (h.0 t));
          }),
          (λ is. h.1 (subst IsZeroRow (sym left-entries)
              (decided.1 (sym (ap (λ (n : ℕ). combine p width (row_of_pairs n l.sums) (entries_of rows)) count) ∙ is.sum)))),
        )

-- the kept tails of a line are columns of a row that is like zeros over the tails
pub pairs-of : (C : CoverOf) (rows : List PrimeRow) (l : TailLine) → IsLineOver C.answer.presentation.prime (length rows) l
    → l.tail ≤ length C.sources → (cleared summed : PrimeRow)
    → cleared ≡ record { prime = C.answer.presentation.prime; entries = zeros (length C.sources) } → IsAlike cleared summed
    → (kept : List (ℕ × ℕ)) → kept ≡ l.kept → ArePairs summed.prime 1 (length summed.entries) kept
pairs-of C rows l line within cleared summed zeros_are alike kept same =
    let first = line.first in
    let prime : summed.prime ≡ C.answer.presentation.prime = alike.prime ∙ ap (λ (r : PrimeRow). r.prime) zeros_are in
    let wide : length summed.entries ≡ length C.sources =
    alike.row.count ∙ ap (λ (r : PrimeRow). length r.entries) zeros_are ∙ length-replicate (length C.sources) 0 in
    subst (λ (q : ℕ). ArePairs q 1 (length summed.entries) kept) (sym prime)
    (subst (λ (n : ℕ). ArePairs C.answer.presentation.prime 1 n kept) (sym wide)
    (subst (ArePairs C.answer.presentation.prime 1 (length C.sources)) (sym same)
    (pairs-wider C.answer.presentation.prime 1 (l.tail - 1) (length C.sources) l.kept (omega arith) line.kept)))
