-- The lines of a step as a reduced basis: the row of a line is its tail minus the tails that the line says it equals, so it is 1 at its
-- tail, and 0 behind it and at the tails of the other lines.
use Rattle.std.proofs.Common.{◌≡◌, ◌≢◌, ◌+◌, ◌-◌, ◌*◌, ◌%◌, ◌<◌, ◌≤◌, ℕ, suc, Bool, true, false, eqb, ◌||◌, List, [], ◌∷◌, map, refl, ap}
use Rattle.std.proofs.Common.{sym, ◌∙◌, subst, arith, eq-eqb, mod-eq_of_lt, mul-zero, inl, inr}
use Rattle.std.proofs.lemmas.Bool.{cases_lt}
use Rattle.std.proofs.lemmas.List.{get_or_past}
use Rattle.std.specs.List.{All}
use Rattle.std.proofs.lemmas.List.Elements.{All-head, All-tail}
use Rattle.pq_base.proofs.NumberLists.{get_or-map_numbers}
use Rattle.fp_rows.specs.Row.{at_column}
use Rattle.fp_rows.specs.Rows.{IsRow}
use Rattle.fp_rows.specs.Differences.{difference}
use Rattle.fp_rows.proofs.EntryLaws.{at_column-below}
use Rattle.fp_rows.proofs.DifferenceLaws.{IsRow-difference}
use Rattle.fp_echelon.specs.Reduced.{BasisRow, pivots_of, ZeroAt, ZeroAtPivots, IsPivotRow, IsReduced}
use Rattle.fp_echelon.proofs.ReductionLaws.{at_column-add_scaled}
use Rattle.pc_presentation.specs.Pcp.{unit_row}
use Rattle.cover_quotient.proofs.carried_rows.UnitRows.{IsRow-unit_row, at_column-unit_row, at_column-unit_row_other}
use Rattle.derivation_log.specs.Certificates.{TailLine}
use Rattle.derivation_log.specs.CertificateForms.{has_line, are_tail_lines}
use Rattle.derivation_log.specs.CertificateRuns.{coefficient_in, row_of_pairs}
use Rattle.derivation_log.proofs.PairRows.{AllBelow-from_entries, length-row_of_pairs}
use Rattle.valid_certificates.proofs.LineForms.{IsLineAmong, first_line}

abbrev pub line_row : ℕ → ℕ → TailLine → BasisRow
line_row p width l = record {
  pivot = l.tail;
  row = difference p (unit_row width l.tail) (row_of_pairs width l.kept);
  coefficients = [];
}

abbrev pub line_rows : ℕ → ℕ → List TailLine → List BasisRow
line_rows p width ls = map (line_row p width) ls

-- their pivots are the tails
pub pivots_of_lines : (p width : ℕ) (ls : List TailLine) → pivots_of (line_rows p width ls) ≡ map (λ (l : TailLine). l.tail) ls
pivots_of_lines p width [] = refl
pivots_of_lines p width (l ∷ ls) = ap (λ (ts : List ℕ). l.tail ∷ ts) (pivots_of_lines p width ls)

or-right : (a b : Bool) → b ≡ true → a || b ≡ true
or-right true b e = refl
or-right false b e = e

pub row_of_pairs-is : (p width : ℕ) (pairs : List (ℕ × ℕ)) → ((t : ℕ) → coefficient_in pairs t < p)
    → IsRow p width (row_of_pairs width pairs)
row_of_pairs-is p width pairs below =
    let long = length-row_of_pairs width pairs in
    record {
      count = long;
      below = AllBelow-from_entries p (row_of_pairs width pairs) (λ i l.
          subst (λ (x : ℕ). x < p) (sym (get_or-map_numbers (coefficient_in pairs) 1 width i 0 (omega (arith, long, l)))) (below (1 + i)));
    }

pub column-of_pairs : (width : ℕ) (pairs : List (ℕ × ℕ)) (c : ℕ) → 1 ≤ c → coefficient_in pairs c ≡ 0
    → at_column (row_of_pairs width pairs) c ≡ 0
column-of_pairs width pairs c first none =
    let place : 1 + (c - 1) ≡ c = omega arith in
    let long = length-row_of_pairs width pairs in
    elim (cases_lt (c - 1) width) [
      | inl within ↦ get_or-map_numbers (coefficient_in pairs) 1 width (c - 1) 0 within ∙ ap (coefficient_in pairs) place ∙ none
      | inr past ↦ get_or_past (row_of_pairs width pairs) (c - 1) 0 (omega (arith, long, past))
    ]

module _ (p width : ℕ) (big : 1 < p) (lines : List TailLine) where
  -- one line
  module _ (l : TailLine) (is : IsLineAmong p lines l) where
    abbrev row : List ℕ
    row = difference p (unit_row width l.tail) (row_of_pairs width l.kept)

    pub kept-is : IsRow p width (row_of_pairs width l.kept)
    kept-is = row_of_pairs-is p width l.kept is.below

    pub row-is : IsRow p width row
    row-is = IsRow-difference p width big (unit_row width l.tail) (row_of_pairs width l.kept) (IsRow-unit_row p width l.tail big) kept-is

    -- at a column that the line doesn't name it is the tail
    row-column : (c : ℕ) → 1 ≤ c → coefficient_in l.kept c ≡ 0 → at_column row c ≡ at_column (unit_row width l.tail) c
    row-column c first none =
        let unit = IsRow-unit_row p width l.tail big in
        let long = length-row_of_pairs width l.kept in
        let u : ℕ = at_column (unit_row width l.tail) c in
        let same : u + 0 ≡ u = omega arith in
        at_column-add_scaled p (p - 1) (unit_row width l.tail) (row_of_pairs width l.kept) c (omega arith) (unit.count ∙ sym long)
        ∙ ap (λ (n : ℕ). (u + (p - 1) * n) % p) (column-of_pairs width l.kept c first none)
        ∙ ap (λ (n : ℕ). (u + n) % p) (mul-zero (p - 1))
        ∙ ap (λ (n : ℕ). n % p) same
        ∙ mod-eq_of_lt (at_column-below p (unit_row width l.tail) c (omega arith) unit.below)

    row-one : l.tail ≤ width → at_column row l.tail ≡ 1
    row-one within =
        row-column l.tail is.first (is.before l.tail (omega arith)) ∙ at_column-unit_row width l.tail is.first within

    row-zero : (c : ℕ) → 1 ≤ c → l.tail ≢ c → coefficient_in l.kept c ≡ 0 → at_column row c ≡ 0
    row-zero c first ne none = row-column c first none ∙ at_column-unit_row_other width l.tail c first ne

    row-after : (c : ℕ) → l.tail < c → at_column row c ≡ 0
    row-after c after =
        row-zero c (omega arith) (λ same. let e : l.tail ≡ c = same in absurd (omega arith)) (is.before c (omega arith))

    one-nonzero : (n : ℕ) → n ≡ 1 → n ≢ 0
    one-nonzero n e none = let a : n ≡ 1 = e in let b : n ≡ 0 = none in absurd (omega arith)

    pivot_row-is : l.tail ≤ width → IsPivotRow p width (line_row p width l)
    pivot_row-is within =
        let fits = row-is in
        let first = is.first in
        let wide = fits.count in
        record {
          fits = row-is;
          last = record {
            column = record { first = first; last = omega (arith, wide, within) };
            nonzero = one-nonzero (at_column row l.tail) (row-one within);
            zero_after = row-after;
          };
          one = row-one within;
        }

  module _ (n : ℕ) where
    -- at a tail that has a line, lines of later tails are 0
    others-zero : (t least : ℕ) (ls : List TailLine) → 1 ≤ t → t < least → has_line lines t ≡ true
        → are_tail_lines p n lines least ls ≡ true → ZeroAt t (line_rows p width ls)
    others-zero t least [] first before listed form = tt
    others-zero t least (l ∷ ls) first before listed form =
        let one = first_line p n (omega arith) lines least l ls (omega arith) form in
        let from = one.from in (
          row-zero l one.line t first (λ same. let e : l.tail ≡ t = same in absurd (omega arith)) (one.line.unlisted t listed),
          others-zero t (suc l.tail) ls first (omega arith) listed one.others,
        )

    -- and a row that is 0 behind a column is 0 at later tails
    own-zero : (x : List ℕ) (t least : ℕ) (ls : List TailLine) → t < least → ((c : ℕ) → t < c → at_column x c ≡ 0)
        → are_tail_lines p n lines least ls ≡ true → ZeroAtPivots x (line_rows p width ls)
    own-zero x t least [] before after form = tt
    own-zero x t least (l ∷ ls) before after form =
        let one = first_line p n (omega arith) lines least l ls (omega arith) form in
        let from = one.from in
        (after l.tail (omega arith), own-zero x t (suc l.tail) ls (omega arith) after one.others)

    lines-reduced : (least : ℕ) (ls : List TailLine) → 1 ≤ least → ((t : ℕ) → has_line ls t ≡ true → has_line lines t ≡ true)
        → All (λ (l : TailLine). l.tail ≤ width) ls → are_tail_lines p n lines least ls ≡ true → IsReduced p width (line_rows p width ls)
    lines-reduced least [] first among within form = tt
    lines-reduced least (l ∷ ls) first among within form =
        let one = first_line p n (omega arith) lines least l ls first form in
        let from = one.from in
        let start = one.line.first in
        let listed : has_line lines l.tail ≡ true =
        among l.tail (ap (λ (b : Bool). b || has_line ls l.tail) (eq-eqb l.tail l.tail refl)) in (
          pivot_row-is l one.line (All-head (λ (k : TailLine). k.tail ≤ width) l ls within),
          record {
            others = others-zero l.tail (suc l.tail) ls start (omega arith) listed one.others;
            own = own-zero (row l one.line) l.tail (suc l.tail) ls (omega arith) (row-after l one.line) one.others;
          },
          lines-reduced (suc l.tail) ls (omega arith)
              (λ t h. among t (or-right (eqb t l.tail) (has_line ls t) h))
              (All-tail (λ (k : TailLine). k.tail ≤ width) l ls within) one.others,
        )

    -- all lines of a step
    pub all-reduced : All (λ (l : TailLine). l.tail ≤ width) lines → are_tail_lines p n lines 1 lines ≡ true
        → IsReduced p width (line_rows p width lines)
    all-reduced within form = lines-reduced 1 lines (omega arith) (λ t h. h) within form
