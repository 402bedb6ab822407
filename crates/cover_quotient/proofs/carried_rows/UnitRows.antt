-- The rows with one entry 1: their entries, and each row as the combination of them that it says itself.
use Rattle.std.proofs.Common.{◌≡◌, ◌≢◌, ℕ, zero, suc, ◌+◌, ◌-◌, ◌*◌, ◌%◌, ◌<◌, ◌≤◌, Bool, true, false, cond, eqb, List, [], ◌∷◌, length}
use Rattle.std.proofs.Common.{map, get_or, refl, ap, ap₂, sym, ◌∙◌, arith, mod-eq_of_lt, ne_eqb}
use Rattle.pq_base.specs.Elementary.{zeros}
use Rattle.pq_base.specs.Table.{AllBelow}
use Rattle.pq_base.specs.Canonical.{numbers_from}
use Rattle.pc_presentation.proofs.rows.TailRowLaws.{length-unit_row, AllBelow-unit_row}
use Rattle.fp_rows.specs.Rows.{IsRow, add_rows, scale_row}
use Rattle.fp_rows.specs.Row.{at_column}
use Rattle.fp_rows.proofs.RowLaws.{scale_row-zeros, scale_row-one, scale_row-zero, add_rows-zeros, zeros-add_rows}
use Rattle.pq_base.proofs.UnitLaws.{get_or-zeros}
use Rattle.fp_echelon.specs.Span.{combine, AreRows}
use Rattle.fp_echelon.proofs.SpanLaws.{IsRow-combine, combine-zeros}
use Rattle.pc_presentation.specs.Pcp.{unit_row}

-- the unit rows of a width
abbrev pub unit_rows : ℕ → List (List ℕ)
unit_rows n = map (unit_row n) (numbers_from 1 n)

pub IsRow-unit_row : (p n t : ℕ) → 1 < p → IsRow p n (unit_row n t)
IsRow-unit_row p n t h = record { count = length-unit_row n t; below = AllBelow-unit_row p n t h }

pub AreRows-unit_rows : (p n : ℕ) (ts : List ℕ) → 1 < p → AreRows p n (map (unit_row n) ts)
AreRows-unit_rows p n [] h = tt
AreRows-unit_rows p n (t ∷ ts) h = (IsRow-unit_row p n t h, AreRows-unit_rows p n ts h)

pub unit_row-zero : (n : ℕ) → unit_row n 0 ≡ zeros n
unit_row-zero zero = refl
unit_row-zero (suc n) = ap (λ (l : List ℕ). 0 ∷ l) (unit_row-zero n)

-- the entries, counted from 0
pub unit_row-one : (n i : ℕ) → i < n → get_or (unit_row n (suc i)) i 0 ≡ 1
unit_row-one zero i h = absurd (omega arith)
unit_row-one (suc n) zero h = refl
unit_row-one (suc n) (suc i) h =
    let same : suc (suc i) - 1 ≡ suc i = omega arith in
    ap (λ (t : ℕ). get_or (unit_row n t) i 0) same ∙ unit_row-one n i (omega arith)

pub unit_row-other : (n t i : ℕ) → t ≢ suc i → get_or (unit_row n t) i 0 ≡ 0
unit_row-other zero t i h = refl
unit_row-other (suc n) t zero h = ap (λ (b : Bool). cond b 1 0) (ne_eqb t 1 h)
unit_row-other (suc n) zero (suc i) h = ap (λ (l : List ℕ). get_or l i 0) (unit_row-zero n) ∙ get_or-zeros n i
unit_row-other (suc n) (suc t) (suc i) h =
    let same : suc t - 1 ≡ t = omega arith in
    ap (λ (u : ℕ). get_or (unit_row n u) i 0) same ∙ unit_row-other n t i (λ e. h (omega arith))

-- and by columns
pub at_column-unit_row : (n t : ℕ) → 1 ≤ t → t ≤ n → at_column (unit_row n t) t ≡ 1
at_column-unit_row n zero h l = absurd (omega arith)
at_column-unit_row n (suc t) h l =
    let same : suc t - 1 ≡ t = omega arith in
    ap (λ (i : ℕ). get_or (unit_row n (suc t)) i 0) same ∙ unit_row-one n t l

pub at_column-unit_row_other : (n t c : ℕ) → 1 ≤ c → t ≢ c → at_column (unit_row n t) c ≡ 0
at_column-unit_row_other n t zero h ne = absurd (omega arith)
at_column-unit_row_other n t (suc c) h ne =
    let same : suc c - 1 ≡ c = omega arith in
    ap (λ (i : ℕ). get_or (unit_row n t) i 0) same ∙ unit_row-other n t c ne

-- the unit rows after the first are 0 there
later_units : (n a k : ℕ)
    → map (unit_row (suc n)) (numbers_from (suc (suc a)) k) ≡ map (λ (r : List ℕ). 0 ∷ r) (map (unit_row n) (numbers_from (suc a) k))
later_units n a zero = refl
later_units n a (suc k) =
    let same : suc (suc a) - 1 ≡ suc a = omega arith in
    ap₂ (λ (r : List ℕ) (rows : List (List ℕ)). r ∷ rows)
    (ap (λ (b : Bool). cond b 1 0 ∷ unit_row n (suc (suc a) - 1)) (ne_eqb (suc (suc a)) 1 (λ e. omega arith))
    ∙ ap (λ (t : ℕ). 0 ∷ unit_row n t) same)
    (later_units n (suc a) k)

-- rows that all begin with 0
combine-zero_first_column : (p n : ℕ) (cs : List ℕ) (rows : List (List ℕ)) → 0 < p
    → combine p (suc n) cs (map (λ (r : List ℕ). 0 ∷ r) rows) ≡ 0 ∷ combine p n cs rows
combine-zero_first_column p n [] rows h = refl
combine-zero_first_column p n (c ∷ cs) [] h = refl
combine-zero_first_column p n (c ∷ cs) (r ∷ rows) h =
    let none : c * 0 ≡ 0 = omega arith in
    let first : ((c * 0) % p + 0) % p ≡ 0 =
    ap (λ (m : ℕ). (m % p + 0) % p) none ∙ ap (λ (m : ℕ). (m + 0) % p) (mod-eq_of_lt h) ∙ mod-eq_of_lt h in
    ap (add_rows p (((c * 0) % p) ∷ scale_row p c r)) (combine-zero_first_column p n cs rows h)
    ∙ ap (λ (m : ℕ). m ∷ add_rows p (scale_row p c r) (combine p n cs rows)) first

pub combine-unit_rows : (p n : ℕ) (x : List ℕ) → 0 < p → IsRow p n x → combine p n x (unit_rows n) ≡ x
combine-unit_rows p zero [] h row = refl
combine-unit_rows p zero (a ∷ x) h row = let c = row.count in absurd (omega arith)
combine-unit_rows p (suc n) [] h row = let c = row.count in absurd (omega arith)
combine-unit_rows p (suc n) (a ∷ x) h row =
    let c = row.count in
    let rest : IsRow p n x = record { count = omega arith; below = row.below.1 } in
    let low : a < p = row.below.0 in
    let once : a * 1 ≡ a = omega arith in
    let all : a + 0 ≡ a = omega arith in
    let first : ((a * 1) % p + 0) % p ≡ a =
    ap (λ (m : ℕ). (m % p + 0) % p) once ∙ ap (λ (m : ℕ). (m + 0) % p) (mod-eq_of_lt low) ∙ ap (λ (m : ℕ). m % p) all ∙ mod-eq_of_lt low in
    ap (λ (rows : List (List ℕ)). add_rows p (scale_row p a (unit_row (suc n) 1)) (combine p (suc n) x rows)) (later_units n 0 n)
    ∙ ap (add_rows p (scale_row p a (unit_row (suc n) 1)))
    (combine-zero_first_column p n x (unit_rows n) h ∙ ap (λ (l : List ℕ). 0 ∷ l) (combine-unit_rows p n x h rest))
    ∙ ap (λ (m : ℕ). m ∷ add_rows p (scale_row p a (unit_row n (1 - 1))) x) first
    ∙ ap (λ (l : List ℕ). a ∷ add_rows p (scale_row p a l) x) (unit_row-zero n)
    ∙ ap (λ (l : List ℕ). a ∷ add_rows p l x) (scale_row-zeros p a n h)
    ∙ ap (λ (l : List ℕ). a ∷ l) (zeros-add_rows p n x rest)

-- the combination that a unit row says is the row of its place
pub combine-unit_row : (p q n t : ℕ) (rows : List (List ℕ)) → 0 < p → AreRows p q rows → length rows ≡ n → 1 ≤ t → t ≤ n
    → combine p q (unit_row n t) rows ≡ get_or rows (t - 1) []
combine-unit_row p q zero t rows h are e low high = absurd (omega arith)
combine-unit_row p q (suc n) t [] h are e low high = absurd (omega arith)
combine-unit_row p q (suc n) zero (r ∷ rows) h are e low high = absurd (omega arith)
combine-unit_row p q (suc n) (suc zero) (r ∷ rows) h are e low high =
    ap₂ (add_rows p) (scale_row-one p r are.0.below)
    (ap (λ (x : List ℕ). combine p q x rows) (unit_row-zero n) ∙ combine-zeros p q n rows h are.1 ∙ ap zeros (sym are.0.count))
    ∙ add_rows-zeros p r are.0.below
combine-unit_row p q (suc n) (suc (suc t)) (r ∷ rows) h are e low high =
    let same : suc (suc t) - 1 ≡ suc t = omega arith in
    let before : suc t - 1 ≡ t = omega arith in
    let rest : combine p q (unit_row n (suc t)) rows ≡ get_or rows (suc t - 1) [] =
    combine-unit_row p q n (suc t) rows h are.1 (omega arith) (omega arith) (omega arith) in
    ap (λ (b : Bool). add_rows p (scale_row p (cond b 1 0) r) (combine p q (unit_row n (suc (suc t) - 1)) rows))
    (ne_eqb (suc (suc t)) 1 (λ e. omega arith))
    ∙ ap₂ (add_rows p) (scale_row-zero p r h ∙ ap zeros are.0.count) (ap (λ (u : ℕ). combine p q (unit_row n u) rows) same)
    ∙ zeros-add_rows p q (combine p q (unit_row n (suc t)) rows) (IsRow-combine p q (unit_row n (suc t)) rows h are.1)
    ∙ rest ∙ ap (λ (i : ℕ). get_or rows i []) before ∙ ap (λ (i : ℕ). get_or (r ∷ rows) i []) (sym same)
