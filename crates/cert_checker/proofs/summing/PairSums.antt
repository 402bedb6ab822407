-- Rows that are added one after the other, each times its coefficient, make the sum that pairs of numbers and coefficients say, and
-- coefficients that are added at their columns make the row of the pairs.
use Rattle.std.proofs.Common.{◌≡◌, ◌≢◌, ◌<◌, ◌≤◌, ◌+◌, ◌-◌, ◌*◌, ◌%◌, ℕ, zero, suc, Bool, true, false, cond, eqb, List, [], ◌∷◌, get_or}
use Rattle.std.proofs.Common.{set, take, length, refl, ap, sym, ◌∙◌, subst, arith, inl, inr, eq-eqb, ne_eqb, ◌↔◌, eqb-true, mod-eq_of_lt}
use Rattle.std.proofs.Common.{mul-zero, mul-one, add-zero, zero-add}
use Rattle.std.proofs.Math.Nat.{add-mod-mod, mod-add-mod, add_assoc}
use Rattle.std.proofs.lemmas.Bool.{cases_eq, cond_both}
use Rattle.std.proofs.lemmas.List.{ext_get_or, get_or-set_same, get_or-set_other, length-set}
use Rattle.pq_base.specs.Elementary.{zeros}
use Rattle.pq_base.proofs.NumberLists.{get_or-map_numbers}
use Rattle.pq_base.proofs.tables.TableLaws.{get_or-below}
use Rattle.fp_rows.specs.Row.{at_column, IsZeroRow}
use Rattle.fp_rows.specs.Rows.{IsRow, add_rows, scale_row, add_scaled}
use Rattle.fp_rows.specs.Differences.{difference}
use Rattle.fp_rows.proofs.RowLaws.{add_rows_comm, add_rows_assoc, scale_row-add, scale_row-mod, length-add_scaled, IsRow-add_rows}
use Rattle.fp_rows.proofs.EntryLaws.{get_or-add_scaled, IsZeroRow-is_zeros, zeros-IsZeroRow}
use Rattle.fp_rows.proofs.DifferenceLaws.{IsRow-difference, difference-self, add_rows-difference, difference-add_rows}
use Rattle.fp_rows.proofs.DifferenceLaws.{equal_from_difference}
use Rattle.fp_echelon.specs.Span.{combine}
use Rattle.pc_presentation.specs.Pcp.{unit_row}
use Rattle.pc_presentation.proofs.rows.TailRowLaws.{length-unit_row}
use Rattle.cover_quotient.proofs.carried_rows.UnitRows.{unit_row-one, unit_row-other}
use Rattle.derivation_log.specs.CertificateRuns.{coefficient_in, row_of_pairs}
use Rattle.derivation_log.proofs.PairRows.{AllBelow-from_entries, length-row_of_pairs}
use Rattle.cert_checker.specs.SumLines.{ArePairs, raised}

-- pairs of more numbers
pub pairs-wider : (p least n m : ℕ) (pairs : List (ℕ × ℕ)) → n ≤ m → ArePairs p least n pairs → ArePairs p least m pairs
pairs-wider p least n m [] l are = tt
pairs-wider p least n m (a ∷ pairs) l are =
    let b = are.1 in (are.0, omega arith, are.2, pairs-wider p (suc a.0) n m pairs l are.3)

-- pair i, which comes behind the numbers before it
pub record IsPairAt (p least n : ℕ) (pairs : List (ℕ × ℕ)) (i : ℕ) (d : ℕ × ℕ) : Type 0 where
  pub from : least ≤ (get_or pairs i d).0
  pub up_to : (get_or pairs i d).0 ≤ n
  pub residue : (get_or pairs i d).1 < p
  pub new : coefficient_in (take i pairs) (get_or pairs i d).0 ≡ 0
  pub more : (t : ℕ) → coefficient_in (take (suc i) pairs) t
      ≡ cond (eqb (get_or pairs i d).0 t) (get_or pairs i d).1 (coefficient_in (take i pairs) t)

both-tests : (b c : Bool) (x y z : ℕ) → (b ≡ true → c ≡ false) → cond b x (cond c y z) ≡ cond c y (cond b x z)
both-tests true c x y z apart = sym (ap (λ (d : Bool). cond d y x) (apart refl))
both-tests false c x y z apart = refl

pub pair-at : (p least n : ℕ) (pairs : List (ℕ × ℕ)) (i : ℕ) (d : ℕ × ℕ) → ArePairs p least n pairs → i < length pairs
    → IsPairAt p least n pairs i d
pair-at p least n [] i d are l = absurd (omega arith)
pair-at p least n (a ∷ pairs) zero d are l = record {
  from = are.0;
  up_to = are.1;
  residue = are.2;
  new = refl;
  more = λ t. refl;
}
pair-at p least n (a ∷ pairs) (suc i) d are l =
    let later = pair-at p (suc a.0) n pairs i d are.3 (omega arith) in
    let b : ℕ × ℕ = get_or pairs i d in
    let first = are.0 in
    let behind = later.from in
    let apart : a.0 ≢ b.0 = λ e. let same : a.0 ≡ b.0 = e in absurd (omega arith) in
    record {
      from = omega arith;
      up_to = later.up_to;
      residue = later.residue;
      new = ap (λ (t : Bool). cond t a.1 (coefficient_in (take i pairs) b.0)) (ne_eqb a.0 b.0 apart) ∙ later.new;
      more = λ t.
          ap (cond (eqb a.0 t) a.1) (later.more t)
          ∙ both-tests (eqb a.0 t) (eqb b.0 t) a.1 b.1 (coefficient_in (take i pairs) t) (λ same.
          ne_eqb b.0 t (λ e. apart (eqb-true a.0 t same ∙ sym e)));
    }

-- one pair more raises the row of the pairs at one column
pub row_of_pairs-more : (p least n width : ℕ) (pairs : List (ℕ × ℕ)) (i : ℕ) (d : ℕ × ℕ) → ArePairs p least n pairs → i < length pairs
    → 1 ≤ least → n ≤ width
    → row_of_pairs width (take (suc i) pairs) ≡ raised p (row_of_pairs width (take i pairs)) (get_or pairs i d).0 (get_or pairs i d).1
row_of_pairs-more p least n width pairs i d are l from_one within =
    let is = pair-at p least n pairs i d are l in
    let t : ℕ = (get_or pairs i d).0 in
    let k : ℕ = (get_or pairs i d).1 in
    let least_is = is.from in
    let most_is = is.up_to in
    let before : List ℕ = row_of_pairs width (take i pairs) in
    let long = length-row_of_pairs width (take i pairs) in
    let long_after = length-row_of_pairs width (take (suc i) pairs) in
    let value : ℕ = (at_column before t + k) % p in
    let place : 1 + (t - 1) ≡ t = omega arith in
    let entry : at_column before t ≡ 0 =
    get_or-map_numbers (coefficient_in (take i pairs)) 1 width (t - 1) 0 (omega arith) ∙ ap (coefficient_in (take i pairs)) place
    ∙ is.new in
    let at_t : value ≡ k = ap (λ (x : ℕ). (x + k) % p) entry ∙ ap (λ (x : ℕ). x % p) (zero-add k) ∙ mod-eq_of_lt is.residue in
    ext_get_or 0 (row_of_pairs width (take (suc i) pairs)) (set before (t - 1) value)
    (long_after ∙ sym (length-set before (t - 1) value ∙ long)) (λ j m.
    let inside : j < width = omega (arith, m, long_after) in
    get_or-map_numbers (coefficient_in (take (suc i) pairs)) 1 width j 0 inside ∙ is.more (1 + j)
    ∙ elim (cases_eq t (1 + j)) [
      | inl here ↦
          let there : t - 1 ≡ j = omega (arith, here) in
          ap (λ (b : Bool). cond b k (coefficient_in (take i pairs) (1 + j))) (eq-eqb t (1 + j) here) ∙ sym at_t
          ∙ sym (get_or-set_same before j value 0 (omega (arith, inside, long)))
          ∙ ap (λ (q : ℕ). get_or (set before q value) j 0) (sym there)
      | inr other ↦
          let elsewhere : j ≢ t - 1 = λ e. let same : j ≡ t - 1 = e in other (omega arith) in
          ap (λ (b : Bool). cond b k (coefficient_in (take i pairs) (1 + j))) (ne_eqb t (1 + j) other)
          ∙ sym (get_or-map_numbers (coefficient_in (take i pairs)) 1 width j 0 inside)
          ∙ sym (get_or-set_other before (t - 1) j value 0 elsewhere)
    ])

-- a coefficient that is raised adds a row once for each
pub combine-raised : (p width c : ℕ) (cs : List ℕ) (rows : List (List ℕ)) (i : ℕ) (d : List ℕ) → i < length cs → i < length rows
    → combine p width (set cs i ((get_or cs i 0 + c) % p)) rows ≡ add_scaled p c (combine p width cs rows) (get_or rows i d)
combine-raised p width c [] rows i d l m = absurd (omega arith)
combine-raised p width c (x ∷ cs) [] i d l m = absurd (omega arith)
combine-raised p width c (x ∷ cs) (r ∷ rows) zero d l m =
    ap (λ (ys : List ℕ). add_rows p ys (combine p width cs rows)) (scale_row-mod p (x + c) r ∙ scale_row-add p x c r)
    ∙ add_rows_assoc p (scale_row p x r) (scale_row p c r) (combine p width cs rows)
    ∙ ap (add_rows p (scale_row p x r)) (add_rows_comm p (scale_row p c r) (combine p width cs rows))
    ∙ sym (add_rows_assoc p (scale_row p x r) (combine p width cs rows) (scale_row p c r))
combine-raised p width c (x ∷ cs) (r ∷ rows) (suc i) d l m =
    ap (add_rows p (scale_row p x r)) (combine-raised p width c cs rows i d (omega arith) (omega arith))
    ∙ sym (add_rows_assoc p (scale_row p x r) (combine p width cs rows) (scale_row p c (get_or rows i d)))

-- a raised entry may be raised in either of two rows
pub add_rows-raised : (p c : ℕ) (xs ys : List ℕ) (i : ℕ) → i < length xs → length xs ≡ length ys
    → set (add_rows p xs ys) i ((get_or (add_rows p xs ys) i 0 + c) % p) ≡ add_rows p xs (set ys i ((get_or ys i 0 + c) % p))
add_rows-raised p c [] ys i l same = absurd (omega arith)
add_rows-raised p c (x ∷ xs) [] i l same = absurd (omega arith)
add_rows-raised p c (x ∷ xs) (y ∷ ys) zero l same =
    ap (λ (n : ℕ). n ∷ add_rows p xs ys)
    (mod-add-mod (x + y) p c ∙ ap (λ (n : ℕ). n % p) (add_assoc x y c) ∙ sym (add-mod-mod x (y + c) p))
add_rows-raised p c (x ∷ xs) (y ∷ ys) (suc i) l same =
    ap (λ (zs : List ℕ). (x + y) % p ∷ zs) (add_rows-raised p c xs ys i (omega arith) (omega arith))

-- an entry that is raised by p - 1 takes the tail away
pub difference-unit : (p width t : ℕ) (xs : List ℕ) → 0 < p → IsRow p width xs → 1 ≤ t → t ≤ width
    → raised p xs t (p - 1) ≡ difference p xs (unit_row width t)
difference-unit p width t xs some row from_one within =
    let long = row.count in
    let unit_long = length-unit_row width t in
    let alike : length xs ≡ length (unit_row width t) = long ∙ sym unit_long in
    let value : ℕ = (at_column xs t + (p - 1)) % p in
    ext_get_or 0 (set xs (t - 1) value) (difference p xs (unit_row width t))
    (length-set xs (t - 1) value ∙ sym (length-add_scaled p (p - 1) xs (unit_row width t) alike)) (λ j m.
    let set_long = length-set xs (t - 1) value in
    let inside : j < width = omega (arith, m, set_long, long) in
    elim (cases_eq t (suc j)) [
      | inl here ↦
          let there : t - 1 ≡ j = omega (arith, here) in
          ap (λ (q : ℕ). get_or (set xs q value) j 0) there
          ∙ get_or-set_same xs j value 0 (omega (arith, inside, long))
          ∙ ap (λ (q : ℕ). (get_or xs q 0 + (p - 1)) % p) there
          ∙ sym (get_or-add_scaled p (p - 1) xs (unit_row width t) j some alike
          ∙ ap (λ (u : ℕ). (get_or xs j 0 + (p - 1) * u) % p)
          (subst (λ (q : ℕ). get_or (unit_row width q) j 0 ≡ 1) (sym here) (unit_row-one width j inside))
          ∙ ap (λ (u : ℕ). (get_or xs j 0 + u) % p) (mul-one (p - 1)))
      | inr other ↦
          let elsewhere : j ≢ t - 1 = λ e. let same : j ≡ t - 1 = e in other (omega arith) in
          get_or-set_other xs (t - 1) j value 0 elsewhere
          ∙ sym (get_or-add_scaled p (p - 1) xs (unit_row width t) j some alike
          ∙ ap (λ (u : ℕ). (get_or xs j 0 + (p - 1) * u) % p) (unit_row-other width t j other)
          ∙ ap (λ (u : ℕ). (get_or xs j 0 + u) % p) (mul-zero (p - 1)) ∙ ap (λ (u : ℕ). u % p) (add-zero (get_or xs j 0))
          ∙ mod-eq_of_lt (get_or-below p xs j some row.below))
    ])

-- what is left of a sum when the kept tails have been added and the tail has been taken away is zero exactly where the sum is right
pub zero-difference : (p width : ℕ) (sum kept unit : List ℕ) → 1 < p → IsRow p width sum → IsRow p width kept → IsRow p width unit
    → (IsZeroRow (difference p (add_rows p sum kept) unit) ↔ (sum ≡ difference p unit kept))
zero-difference p width sum kept unit some is_sum is_kept is_unit =
    let both = IsRow-add_rows p width sum kept (omega arith) is_sum is_kept in
    let left = IsRow-difference p width some (add_rows p sum kept) unit both is_unit in (
      (λ none. sym (add_rows-difference p width some kept sum is_kept is_sum)
          ∙ ap (λ (xs : List ℕ). difference p xs kept)
          (add_rows_comm p kept sum
          ∙ equal_from_difference p width some (add_rows p sum kept) unit both is_unit
          (IsZeroRow-is_zeros (difference p (add_rows p sum kept) unit) none ∙ ap zeros left.count))),
      (λ right. subst IsZeroRow
          (sym (ap (λ (xs : List ℕ). difference p (add_rows p xs kept) unit) right
          ∙ ap (λ (xs : List ℕ). difference p xs unit) (difference-add_rows p width some unit kept is_unit is_kept)
          ∙ difference-self p width some unit is_unit))
          (zeros-IsZeroRow width)),
    )

-- the row of pairs
coefficient-residue : (p least n t : ℕ) (pairs : List (ℕ × ℕ)) → 0 < p → ArePairs p least n pairs → coefficient_in pairs t < p
coefficient-residue p least n t [] some are = some
coefficient-residue p least n t (a ∷ pairs) some are =
    cond_both (eqb a.0 t) a.1 (coefficient_in pairs t) (λ (x : ℕ). x < p) (λ here. are.2)
    (λ other. coefficient-residue p (suc a.0) n t pairs some are.3)

pub pairs-row : (p n width : ℕ) (pairs : List (ℕ × ℕ)) → 0 < p → ArePairs p 1 n pairs → IsRow p width (row_of_pairs width pairs)
pairs-row p n width pairs some are =
    let long = length-row_of_pairs width pairs in
    record {
      count = long;
      below = AllBelow-from_entries p (row_of_pairs width pairs) (λ i l.
          subst (λ (x : ℕ). x < p) (sym (get_or-map_numbers (coefficient_in pairs) 1 width i 0 (omega (arith, l, long))))
          (coefficient-residue p 1 n (1 + i) pairs some are));
    }
