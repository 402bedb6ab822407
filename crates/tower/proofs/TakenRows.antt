-- Rows that are inserted one after the other: the span grows and holds a row of each source, and each row that was added is the
-- row of the source noted for it.
use Rattle.std.proofs.Common.{◌≡◌, ℕ, ◌+◌, ◌≤◌, List, [], ◌∷◌, ◌++◌, length, ap, sym, ◌∙◌, subst, arith, inl, inr, append_assoc, append-nil}
use Rattle.std.specs.List.{All, Contains}
use Rattle.std.proofs.lemmas.List.{length-append}
use Rattle.std.proofs.lemmas.List.Elements.{All-nil, All-push, All-weaker, All-contains, Contains-append_left, Contains-push}
use Rattle.pq_base.specs.LPresentation.{LPresentation}
use Rattle.fp_rows.specs.Rows.{IsRow}
use Rattle.fp_rows.specs.Row.{PrimeRow}
use Rattle.fp_echelon.specs.Span.{AreRows, InSpan}
use Rattle.fp_echelon.specs.Basis.{Echelon}
use Rattle.fp_echelon.proofs.SpanLaws.{InSpan-push, InSpan-last}
use Rattle.fp_echelon.proofs.RankLaws.{rank-le}
use Rattle.fp_echelon.proofs.BasisSpans.{BasisAt, basis-at}
use Rattle.pc_presentation.specs.declared.overlap.Overlap.{Overlap}
use Rattle.pc_presentation.specs.OverlapNumbers.{AreOverlapNumbers}
use Rattle.pc_presentation.specs.Collection.{State}
use Rattle.p_cover.specs.Covers.{CoverOf}
use Rattle.consistency.specs.AllOverlaps.{all_overlaps}
use Rattle.consistency.proofs.OverlapList.{each_overlap_once}
use Rattle.derivation_log.specs.declared.source.RowSource.{RowSource}
use Rattle.derivation_log.specs.RowSources.{IsRowOf, AreRowsOf}
use Rattle.derivation_log.proofs.RowSources.{rows_of-push}
use Rattle.tower.specs.StepRows.{StepRows, AreOver, HasInserted, HasSpannedRow, HaveTaken, HaveTakenMore}

last-row : (p q : ℕ) (rows : List (List ℕ)) (x : List ℕ) → AreRows p q (rows ++ x ∷ []) → IsRow p q x
last-row p q [] x h = h.0
last-row p q (r ∷ rows) x h = last-row p q rows x h.1

-- spans at another prime and width
span-at : (B : Echelon) (p q : ℕ) (x : List ℕ) → B.prime ≡ p → B.width ≡ q → InSpan B.prime B.width B.added x → InSpan p q B.added x
span-at B p q x e l h = subst (λ (n : ℕ). InSpan n q B.added x) e (subst (λ (m : ℕ). InSpan B.prime m B.added x) l h)

-- what comes next in a list is in it
next-in : {X : Type 0} (xs yielded left rest : List X) (x : X) → yielded ++ left ≡ xs → left ≡ x ∷ rest → Contains xs x
next-in {X} xs yielded left rest x whole step =
    subst (λ (l : List X). Contains l x) (append_assoc yielded (x ∷ []) rest ∙ ap (λ (l : List X). yielded ++ l) (sym step) ∙ whole)
    (Contains-append_left (yielded ++ x ∷ []) rest x (Contains-push yielded x))

-- the overlap that comes next is one
pub next-overlap : (n : ℕ) (os left rest : List Overlap) (o : Overlap) → os ++ left ≡ all_overlaps n → left ≡ o ∷ rest
    → AreOverlapNumbers n o
next-overlap n os left rest o whole step = ((each_overlap_once n).members o).0 (next-in (all_overlaps n) os left rest o whole step)

-- what holds of all members of a list holds of the one that comes next
pub next-member : {X : Type 0} (P : X → Type 0) (xs yielded left rest : List X) (x : X) → All P xs → yielded ++ left ≡ xs → left ≡ x ∷ rest
    → P x
next-member P xs yielded left rest x all whole step = All-contains P xs x all (next-in xs yielded left rest x whole step)

-- there is room for one more row
pub over-spare : (C : CoverOf) (R : StepRows) → AreOver C R → 1 ≤ R.basis.spare
over-spare C R over =
    let rank = rank-le R.basis.prime R.basis.width R.basis.rows over.basis.reduced in
    let count = over.basis.count in
    let width = over.width in
    let spare = over.spare in
    omega arith

module _ (C : CoverOf) where
  abbrev p : ℕ
  p = C.answer.presentation.prime

  abbrev q : ℕ
  q = length C.sources

  -- what an insertion of the row that was found makes of rows over the cover
  module _ (R M S : StepRows) (source : RowSource) (over : AreOver C R) (same : M.basis ≡ R.basis) (noted : M.noted ≡ R.noted)
      (room : M.room ≡ R.room)
      (prime : M.row.prime ≡ C.answer.presentation.prime) (width : length M.row.entries ≡ length C.sources)
      (ins : HasInserted M S source) where
    base_prime : M.basis.prime ≡ p
    base_prime = ap (λ (B : Echelon). B.prime) same ∙ over.prime

    base_width : M.basis.width ≡ q
    base_width = ap (λ (B : Echelon). B.width) same ∙ over.width

    new_count : length S.noted ≡ length S.basis.added
    new_count = elim ins.takes [
      | inl h ↦
          ap (λ (ss : List RowSource). length ss) (h.2 ∙ noted) ∙ over.noted
          ∙ ap (λ (xs : List (List ℕ)). length xs) (sym (h.1 ∙ ap (λ (B : Echelon). B.added) same))
      | inr h ↦
          ap (λ (ss : List RowSource). length ss) (h.1 ∙ ap (λ (ss : List RowSource). ss ++ source ∷ []) noted)
          ∙ length-append R.noted (source ∷ [])
          ∙ ap (λ (n : ℕ). n + 1) over.noted
          ∙ sym (length-append R.basis.added (M.row.entries ∷ []))
          ∙ ap (λ (xs : List (List ℕ)). length xs) (sym (h.0 ∙ ap (λ (B : Echelon). B.added ++ M.row.entries ∷ []) same))
    ]

    pub over-inserted : AreOver C S
    over-inserted =
        let wide = over.room in
        let wider = ins.room in
        let still = room in
        record {
          basis = ins.basis;
          prime = ins.prime ∙ base_prime;
          width = ins.width ∙ base_width;
          noted = new_count;
          spare = ins.spare ∙ ap (λ (B : Echelon). B.spare + length B.added) same ∙ over.spare;
          room = omega arith;
          row_prime = ap (λ (r : PrimeRow). r.prime) ins.row ∙ prime;
          row_width = ap (λ (r : PrimeRow). length r.entries) ins.row ∙ width;
        }

    old : BasisAt p q R.basis.added R.basis.rows
    old = basis-at R.basis p q over.prime over.width over.basis

    new : BasisAt p q S.basis.added S.basis.rows
    new = basis-at S.basis p q (ins.prime ∙ base_prime) (ins.width ∙ base_width) ins.basis

    row_added : S.basis.added ≡ R.basis.added ++ M.row.entries ∷ [] → IsRow p q M.row.entries
    row_added eq = last-row p q R.basis.added M.row.entries (subst (AreRows p q) eq new.are)

    span_kept : (y : List ℕ) → InSpan p q R.basis.added y → InSpan p q S.basis.added y
    span_kept y k =
        let two : 2 ≤ p = old.two in
        elim ins.takes [
          | inl h ↦ subst (λ (rows : List (List ℕ)). InSpan p q rows y) (sym (h.1 ∙ ap (λ (B : Echelon). B.added) same)) k
          | inr h ↦
              let eq : S.basis.added ≡ R.basis.added ++ M.row.entries ∷ [] =
              h.0 ∙ ap (λ (B : Echelon). B.added ++ M.row.entries ∷ []) same in
              subst (λ (rows : List (List ℕ)). InSpan p q rows y) (sym eq)
              (InSpan-push p q R.basis.added M.row.entries y (omega arith) old.are (row_added eq) k)
        ]

    span_new : InSpan p q S.basis.added M.row.entries
    span_new =
        let two : 2 ≤ p = old.two in
        elim ins.takes [
          | inl h ↦
              subst (λ (rows : List (List ℕ)). InSpan p q rows M.row.entries) (sym h.1)
              (span-at M.basis p q M.row.entries base_prime base_width h.0)
          | inr h ↦
              let eq : S.basis.added ≡ R.basis.added ++ M.row.entries ∷ [] =
              h.0 ∙ ap (λ (B : Echelon). B.added ++ M.row.entries ∷ []) same in
              subst (λ (rows : List (List ℕ)). InSpan p q rows M.row.entries) (sym eq)
              (InSpan-last p q R.basis.added M.row.entries (omega arith) old.are (row_added eq))
        ]

    module _ (L : LPresentation) (push : State → ℕ → State) (is : IsRowOf L C push source M.row.entries) where
      rows_more : AreRowsOf L C push R.noted R.basis.added → AreRowsOf L C push S.noted S.basis.added
      rows_more rows = elim ins.takes [
        | inl h ↦
            subst (λ (ss : List RowSource). AreRowsOf L C push ss S.basis.added) (sym (h.2 ∙ noted))
            (subst (AreRowsOf L C push R.noted) (sym (h.1 ∙ ap (λ (B : Echelon). B.added) same)) rows)
        | inr h ↦
            subst (λ (ss : List RowSource). AreRowsOf L C push ss S.basis.added)
            (sym (h.1 ∙ ap (λ (ss : List RowSource). ss ++ source ∷ []) noted))
            (subst (AreRowsOf L C push (R.noted ++ source ∷ [])) (sym (h.0 ∙ ap (λ (B : Echelon). B.added ++ M.row.entries ∷ []) same))
            (rows_of-push L C push R.noted R.basis.added source M.row.entries rows is))
      ]

      noted_more : (sources : List RowSource) → All (Contains sources) R.noted → All (Contains (sources ++ source ∷ [])) S.noted
      noted_more sources all =
          let before : All (Contains (sources ++ source ∷ [])) R.noted =
          All-weaker (Contains sources) (Contains (sources ++ source ∷ []))
          (λ s h. Contains-append_left sources (source ∷ []) s h) R.noted all in
          elim ins.takes [
            | inl h ↦ subst (All (Contains (sources ++ source ∷ []))) (sym (h.2 ∙ noted)) before
            | inr h ↦
                subst (All (Contains (sources ++ source ∷ []))) (sym (h.1 ∙ ap (λ (ss : List RowSource). ss ++ source ∷ []) noted))
                (All-push (Contains (sources ++ source ∷ [])) R.noted source before (Contains-push sources source))
          ]

      pub taken-inserted : HaveTakenMore L C push (source ∷ []) R S
      taken-inserted sources taken = record {
        rows = rows_more taken.rows;
        noted = noted_more sources taken.noted;
        spanned =
            All-push (HasSpannedRow L C push S.basis.added) sources source
            (All-weaker (HasSpannedRow L C push R.basis.added) (HasSpannedRow L C push S.basis.added)
            (λ s h. record { row = h.row; is = h.is; span = span_kept h.row h.span }) sources taken.spanned)
            (record { row = M.row.entries; is = is; span = span_new });
      }

  module _ (L : LPresentation) (push : State → ℕ → State) where
    pub taken-none : (R : StepRows) → R.basis.added ≡ [] → R.noted ≡ [] → HaveTaken L C push [] R
    taken-none R none no_source = record {
      rows =
          subst (λ (ss : List RowSource). AreRowsOf L C push ss R.basis.added) (sym no_source)
          (subst (AreRowsOf L C push []) (sym none) tt);
      noted = subst (All (Contains [])) (sym no_source) (All-nil _);
      spanned = All-nil _;
    }

    pub taken-nothing : (R : StepRows) → HaveTakenMore L C push [] R R
    taken-nothing R sources taken = subst (λ (ss : List RowSource). HaveTaken L C push ss R) (sym (append-nil sources)) taken

    pub taken-append : (R S T : StepRows) (ss ts : List RowSource) → HaveTakenMore L C push ss R S → HaveTakenMore L C push ts S T
        → HaveTakenMore L C push (ss ++ ts) R T
    taken-append R S T ss ts first second sources taken =
        subst (λ (us : List RowSource). HaveTaken L C push us T) (append_assoc sources ss ts) (second (sources ++ ss) (first sources taken))

    -- from no rows
    pub taken-from_none : (R S T : StepRows) (ss ts us : List RowSource) → R.basis.added ≡ [] → R.noted ≡ [] → HaveTakenMore L C push ss R S
        → HaveTakenMore L C push ts S T → ts ≡ us → HaveTaken L C push (ss ++ us) T
    taken-from_none R S T ss ts us none no_source first second same =
        subst (λ (vs : List RowSource). HaveTaken L C push (ss ++ vs) T) same (second ss (first [] (taken-none R none no_source)))
