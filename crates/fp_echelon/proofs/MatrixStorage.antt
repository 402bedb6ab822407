-- How a matrix is kept: its rows, each with the prime. A row times a matrix is summed row by row.
use Rattle.std.proofs.Common.{◌≡◌, ℕ, zero, suc, ◌+◌, ◌<◌, ◌≤◌, List, [], ◌∷◌, ◌++◌, length, get_or, take, replicate, refl, ap, ap₂, sym}
use Rattle.std.proofs.Common.{◌∙◌, subst, arith}
use Rattle.std.proofs.Math.ListN.{set, length-set}
use Rattle.std.proofs.lemmas.List.{get_or-map, take_more, take_all, length-map, length-take-le, length-replicate}
use Rattle.pq_base.specs.Elementary.{zeros}
use Rattle.fp_rows.specs.Rows.{IsRow, add_scaled}
use Rattle.fp_rows.specs.Row.{PrimeRow}
use Rattle.fp_rows.proofs.RowLaws.{IsRow-zeros, add_scaled-zero}
use Rattle.fp_echelon.specs.Span.{combine, AreRows}
use Rattle.fp_echelon.specs.Matrix.{IsMatrix, times_matrix, entries_of, AreKept, HoldsMatrix}
use Rattle.fp_echelon.proofs.SpanLaws.{IsRow-combine, combine-push}

-- a row with its prime
pub record IsKept (p width : ℕ) (r : PrimeRow) : Type 0 where
  pub prime : r.prime ≡ p
  pub row : IsRow p width r.entries

module _ (p width : ℕ) where
  pub AreKept-at : (rows : List PrimeRow) (i : ℕ) (d : PrimeRow) → i < length rows → AreKept p width rows → IsKept p width (get_or rows i d)
  AreKept-at [] i d h kept = absurd (omega arith)
  AreKept-at (r ∷ rows) zero d h kept = record { prime = kept.0; row = kept.1 }
  AreKept-at (r ∷ rows) (suc i) d h kept = AreKept-at rows i d (omega arith) kept.2

  pub HoldsMatrix-at : (rows : List PrimeRow) (i : ℕ) (r : PrimeRow) → i < width → HoldsMatrix p width rows → r ≡ get_or rows i r
      → IsKept p width r
  HoldsMatrix-at rows i r h holds e =
      let count = holds.count in
      subst (λ (s : PrimeRow). IsKept p width s) (sym e) (AreKept-at rows i r (omega arith) holds.kept)

  AreKept-set : (rows : List PrimeRow) (i : ℕ) (r : PrimeRow) → IsKept p width r → AreKept p width rows → AreKept p width (set rows i r)
  AreKept-set [] i r is kept = tt
  AreKept-set (s ∷ rows) zero r is kept = (is.prime, is.row, kept.2)
  AreKept-set (s ∷ rows) (suc i) r is kept = (kept.0, kept.1, AreKept-set rows i r is kept.2)

  AreRows-kept : (rows : List PrimeRow) → AreKept p width rows → AreRows p width (entries_of rows)
  AreRows-kept [] kept = tt
  AreRows-kept (r ∷ rows) kept = (kept.1, AreRows-kept rows kept.2)

  AreKept-replicate : (n : ℕ) (r : PrimeRow) → IsKept p width r → AreKept p width (replicate n r)
  AreKept-replicate zero r is = tt
  AreKept-replicate (suc n) r is = (is.prime, is.row, AreKept-replicate n r is)

  pub HoldsMatrix-set : (rows : List PrimeRow) (i : ℕ) (r : PrimeRow) → IsKept p width r → HoldsMatrix p width rows
      → HoldsMatrix p width (set rows i r)
  HoldsMatrix-set rows i r is holds = record { count = length-set rows i r ∙ holds.count; kept = AreKept-set rows i r is holds.kept }

  -- the rows of a new matrix
  pub HoldsMatrix-new : (rows : List PrimeRow) → 0 < p → rows ≡ replicate width (record { prime = p; entries = zeros width })
      → HoldsMatrix p width rows
  HoldsMatrix-new rows some e =
      let zero_row : PrimeRow = record { prime = p; entries = zeros width } in
      subst (λ (l : List PrimeRow). HoldsMatrix p width l) (sym e)
      (record {
        count = length-replicate width zero_row;
        kept = AreKept-replicate width zero_row (record { prime = refl; row = IsRow-zeros p width some });
      })

  pub IsMatrix-held : (rows : List PrimeRow) → 2 ≤ p → HoldsMatrix p width rows
      → IsMatrix (record { prime = p; width = width; rows = entries_of rows })
  IsMatrix-held rows two holds = record {
    prime = two;
    count = length-map rows (λ (r : PrimeRow). r.entries) ∙ holds.count;
    rows = AreRows-kept rows holds.kept;
  }

  pub row-held : (rows : List PrimeRow) (i : ℕ) (r : PrimeRow) → i < width → HoldsMatrix p width rows → r ≡ get_or rows i r
      → r ≡ record { prime = p; entries = get_or (entries_of rows) i [] }
  row-held rows i r h holds e =
      let count = holds.count in
      let here = AreKept-at rows i r (omega arith) holds.kept in
      e ∙ ap (λ (q : ℕ). record { prime = q; entries = (get_or rows i r).entries }) here.prime
      ∙ ap (λ (l : List ℕ). record { prime = p; entries = l }) (sym (get_or-map (λ (s : PrimeRow). s.entries) rows i r [] (omega arith)))

pub entries_of-replicate : (n : ℕ) (r : PrimeRow) → entries_of (replicate n r) ≡ replicate n r.entries
entries_of-replicate zero r = refl
entries_of-replicate (suc n) r = ap (λ (l : List (List ℕ)). r.entries ∷ l) (entries_of-replicate n r)

-- the sum of the first rows, each times its entry
abbrev pub first_multiples : ℕ → ℕ → List PrimeRow → List ℕ → ℕ → List ℕ
first_multiples p width rows x i = combine p width (take i x) (take i (entries_of rows))

AreRows-take : (p width : ℕ) (rs : List (List ℕ)) (i : ℕ) → AreRows p width rs → AreRows p width (take i rs)
AreRows-take p width rs zero are = tt
AreRows-take p width [] (suc i) are = tt
AreRows-take p width (r ∷ rs) (suc i) are = (are.0, AreRows-take p width rs i are.1)

module _ (p width : ℕ) (some : 0 < p) (rows : List PrimeRow) (holds : HoldsMatrix p width rows) (x : List ℕ) (row : IsRow p width x) where
  pub IsRow-first_multiples : (i : ℕ) → IsRow p width (first_multiples p width rows x i)
  IsRow-first_multiples i =
      IsRow-combine p width (take i x) (take i (entries_of rows)) some
      (AreRows-take p width (entries_of rows) i (AreRows-kept p width rows holds.kept))

  pub first_multiples-more : (i : ℕ) (d : PrimeRow) → i < width
      → first_multiples p width rows x (i + 1) ≡ add_scaled p (get_or x i 0) (first_multiples p width rows x i) (get_or rows i d).entries
  first_multiples-more i d h =
      let count = holds.count in
      let wide = row.count in
      let long : length (entries_of rows) ≡ width = length-map rows (λ (r : PrimeRow). r.entries) ∙ holds.count in
      let here : IsRow p width (get_or rows i d).entries = (AreKept-at p width rows i d (omega arith) holds.kept).row in
      let is : get_or (entries_of rows) i [] ≡ (get_or rows i d).entries =
      get_or-map (λ (r : PrimeRow). r.entries) rows i d [] (omega arith) in
      ap₂ (combine p width) (take_more x i 0 (omega arith))
      (take_more (entries_of rows) i [] (omega arith) ∙ ap (λ (l : List ℕ). take i (entries_of rows) ++ l ∷ []) is)
      ∙ combine-push p width (get_or x i 0) (take i x) (get_or rows i d).entries (take i (entries_of rows)) some
      (length-take-le i x (omega arith) ∙ sym (length-take-le i (entries_of rows) (omega arith))) here
      (AreRows-take p width (entries_of rows) i (AreRows-kept p width rows holds.kept))

  pub first_multiples-same : (i : ℕ) → i < width → get_or x i 0 ≡ 0
      → first_multiples p width rows x (i + 1) ≡ first_multiples p width rows x i
  first_multiples-same i h none =
      let count = holds.count in
      let d : PrimeRow = record { prime = p; entries = [] } in
      let here : IsRow p width (get_or rows i d).entries = (AreKept-at p width rows i d (omega arith) holds.kept).row in
      let sum = IsRow-first_multiples i in
      first_multiples-more i d h
      ∙ ap (λ (k : ℕ). add_scaled p k (first_multiples p width rows x i) (get_or rows i d).entries) none
      ∙ add_scaled-zero p (first_multiples p width rows x i) (get_or rows i d).entries some sum.below (here.count ∙ sym sum.count)

  pub first_multiples-all : (i : ℕ) → width ≤ i → first_multiples p width rows x i ≡ times_matrix p width (entries_of rows) x
  first_multiples-all i h =
      let wide = row.count in
      let long : length (entries_of rows) ≡ width = length-map rows (λ (r : PrimeRow). r.entries) ∙ holds.count in
      ap₂ (combine p width) (take_all i x (omega arith)) (take_all i (entries_of rows) (omega arith))

  -- a turn of the loop: it adds the next row times its entry, or leaves the sum where the entry is 0
  pub added_more : (i k : ℕ) (r out new : PrimeRow) → i < width → k ≡ get_or x i 0 → r ≡ get_or rows i r
      → out ≡ record { prime = p; entries = first_multiples p width rows x i }
      → new ≡ record { prime = out.prime; entries = add_scaled out.prime k out.entries r.entries }
      → new ≡ record { prime = p; entries = first_multiples p width rows x (i + 1) }
  added_more i k r out new h e e' before step =
      step
      ∙ ap (λ (s : PrimeRow). record { prime = s.prime; entries = add_scaled s.prime k s.entries r.entries }) before
      ∙ ap₂ (λ (j : ℕ) (s : PrimeRow). record { prime = p; entries = add_scaled p j (first_multiples p width rows x i) s.entries }) e e'
      ∙ ap (λ (l : List ℕ). record { prime = p; entries = l }) (sym (first_multiples-more i r h))

  pub same_more : (i k : ℕ) (out : PrimeRow) → i < width → k ≡ get_or x i 0 → k ≡ 0
      → out ≡ record { prime = p; entries = first_multiples p width rows x i }
      → out ≡ record { prime = p; entries = first_multiples p width rows x (i + 1) }
  same_more i k out h e none before =
      before ∙ ap (λ (l : List ℕ). record { prime = p; entries = l }) (sym (first_multiples-same i h (sym e ∙ none)))
