-- A kept tail whose row is in the span of the rows of the qualifying relations comes from one of them: else they all stand
-- before it, so their rows are 0 at its place, where its own row is 1.
use Rattle.std.proofs.Common.{◌≡◌, ◌≢◌, ℕ, zero, suc, ◌+◌, ◌-◌, ◌*◌, ◌%◌, ◌<◌, ◌≤◌, Bool, true, false, ◌&&◌, eqb, Option, None, Some, List}
use Rattle.std.proofs.Common.{[], ◌∷◌, length, get_or, filter, inl, inr, ⊎_elim, refl, ap, ap₂, sym, ◌∙◌, subst, arith, mod-eq_of_lt}
use Rattle.std.specs.List.{All, AllPairs}
use Rattle.std.proofs.lemmas.Bool.{cases_Bool, cases_eq, eqb-true, false≢true}
use Rattle.std.proofs.lemmas.List.Elements.{All-head, All-tail, All-append, All-map, All-filter, filter_passes}
use Rattle.pq_base.specs.Answer.{Answer, Definition as Source, class_of, weight_at}
use Rattle.pq_base.specs.Answer.Definition.{image, commutator, power}
use Rattle.pq_base.specs.Canonical.{all_commutators, all_powers, is_qualifying}
use Rattle.fp_rows.specs.Row.{at_column}
use Rattle.fp_rows.proofs.EntryLaws.{at_column-zeros}
use Rattle.fp_echelon.specs.Span.{combine, AreRows, InSpan}
use Rattle.fp_echelon.specs.Reduced.{BasisRow}
use Rattle.fp_echelon.proofs.PivotLaws.{at_column-combine_cons}
use Rattle.pc_presentation.specs.Pcp.{unit_row, row_of}
use Rattle.p_cover.specs.RowedAnswer.{rowed, row_at}
use Rattle.pq_base.specs.EntryWords.{IsSourceOf}
use Rattle.p_cover.specs.Sources.{place_in}
use Rattle.p_cover.specs.Covers.{CoverOf, rowed_cover}
use Rattle.p_cover.specs.CoverLaws.{IsSource}
use Rattle.p_cover.proofs.ListPairs.{AllPairs-part}
use Rattle.p_cover.proofs.PlaceLaws.{place_from-has}
use Rattle.p_cover.proofs.WantParts.{qualifying_sources_come_first}
use Rattle.p_cover.proofs.WantMembers.{all_commutators-sources, all_powers-sources}
use Rattle.p_cover.proofs.CoverRows.{row_at-source}
use Rattle.p_cover.proofs.SourceNumbers.{source-by_place}
use Rattle.cover_quotient.specs.AnswerLaws.{IsBasisOver}
use Rattle.cover_quotient.specs.Carried.{carried}
use Rattle.cover_quotient.specs.Kept.{kept_columns, kept_rows}
use Rattle.cover_quotient.specs.Levels.{IsReady, qualifying_relations, qualifying_rows}
use Rattle.cover_quotient.specs.NextAnswer.{cover_modulo}
use Rattle.cover_quotient.specs.Defining.{HasEmptySide, MayDefine}
use Rattle.cover_quotient.proofs.carried_rows.CarriedAnswers.{row_at-carried}
use Rattle.cover_quotient.proofs.carried_rows.CarriedPresentations.{carry-zeros}
use Rattle.cover_quotient.proofs.kept_tails.CoverUnits.{HasUnitRows, cover-units}
use Rattle.cover_quotient.proofs.kept_tails.KeptColumns.{kept_at}
use Rattle.cover_quotient.proofs.kept_tails.KeptRows.{kept_rows-are_rows}
use Rattle.cover_quotient.proofs.kept_tails.KeptUnits.{carried-unit, carried-shape}
use Rattle.cover_quotient.proofs.carried_rows.UnitRows.{at_column-unit_row}

-- a combination has 0 at a column where its rows have
column-combine : (p width d : ℕ) → 1 < p → (cs : List ℕ) (rows : List (List ℕ)) → AreRows p width rows
    → All (λ (r : List ℕ). at_column r d ≡ 0) rows → at_column (combine p width cs rows) d ≡ 0
column-combine p width d big [] rows are none = at_column-zeros width d
column-combine p width d big (c ∷ cs) [] are none = at_column-zeros width d
column-combine p width d big (c ∷ cs) (r ∷ rows) are none =
    let nothing : c * 0 + 0 ≡ 0 = omega arith in
    at_column-combine_cons p width big c cs r rows d are.0 are.1
    ∙ ap₂ (λ (m n : ℕ). (c * m + n) % p) (All-head (λ (x : List ℕ). at_column x d ≡ 0) r rows none)
    (column-combine p width d big cs rows are.1 (All-tail (λ (x : List ℕ). at_column x d ≡ 0) r rows none))
    ∙ ap (λ (n : ℕ). n % p) nothing
    ∙ mod-eq_of_lt (omega arith)

column-in_span : (p width d : ℕ) → 1 < p → (rows : List (List ℕ)) → AreRows p width rows → All (λ (r : List ℕ). at_column r d ≡ 0) rows
    → (x : List ℕ) → InSpan p width rows x → at_column x d ≡ 0
column-in_span p width d big rows are none x s =
    ap (λ (y : List ℕ). at_column y d) (sym s.sum) ∙ column-combine p width d big s.coefficients rows are none

-- what qualifies over an answer that is ready has the empty word
first-true : (a b : Bool) → a && b ≡ true → a ≡ true
first-true true b e = refl
first-true false b e = e

empty_side : (A : Answer) (k : ℕ) → IsReady A k → (d : Source) → IsSourceOf A d → is_qualifying A k d ≡ true → HasEmptySide A d
empty_side A k ready (image i) s q = absurd (false≢true q)
empty_side A k ready (commutator zero i) s q = absurd s
empty_side A k ready (commutator (suc j) zero) s q = absurd s
empty_side A k ready (commutator (suc j) (suc i)) s q =
    ready.commutators j i s.0 s.1 (eqb-true (weight_at A j) k (first-true (eqb (weight_at A j) k) (eqb (weight_at A i) 1) q))
empty_side A k ready (power zero) s q = absurd s
empty_side A k ready (power (suc j)) s q = ready.powers j s (eqb-true (weight_at A j) k q)

pub may_define : (A : Answer) (k : ℕ) → 1 ≤ k → IsReady A k → (d : Source) → IsSourceOf A d → is_qualifying A k d ≡ true → MayDefine A k d
may_define A zero some ready d s q = absurd (omega arith)
may_define A (suc k) some ready d s q = record { kept = empty_side A (suc k) ready d s q; allowed = q }

module _ (C : CoverOf) (bs : List BasisRow) (basis : IsBasisOver C bs) (big : 1 < C.answer.presentation.prime) where
  abbrev A : Answer
  A = C.answer

  abbrev p : ℕ
  p = C.answer.presentation.prime

  abbrev q : ℕ
  q = length C.sources

  abbrev K : List ℕ
  K = kept_columns (length C.sources) bs

  abbrev rows : List (List ℕ)
  rows = kept_rows C.answer.presentation.prime (length C.sources) bs

  units : HasUnitRows C
  units = cover-units C basis.cover big

  are : AreRows p (length K) rows
  are = kept_rows-are_rows p q big bs basis.reduced

  -- the column and the source of a kept tail
  abbrev column : ℕ → ℕ
  column i = get_or (kept_columns (length C.sources) bs) i 0

  abbrev source : ℕ → Source
  source i = get_or C.sources (get_or (kept_columns (length C.sources) bs) i 0 - 1) (image 0)

  pub kept-source_of : (i : ℕ) → i < length K → IsSourceOf A (source i)
  kept-source_of i l =
      let at = kept_at q bs i l in
      let first = at.first in
      let last = at.last in
      units.sources (column i - 1) (omega arith)

  -- a kept tail stays a tail
  pub kept-row : (i : ℕ) → i < length K → row_at (cover_modulo C bs) (source i) ≡ unit_row (length K) (suc i)
  kept-row i l =
      let at = kept_at q bs i l in
      let first = at.first in
      let last = at.last in
      let place : suc (column i - 1) ≡ column i = omega arith in
      let within : column i - 1 < length C.sources = omega arith in
      row_at-carried (rowed_cover C) units.rowed (omega arith) (length K) rows are (source i) (kept-source_of i l)
      ∙ ap (carried p (length K) rows) (units.rows (column i - 1) within ∙ ap (unit_row (length C.sources)) place)
      ∙ carried-unit p q big bs basis.reduced i l

  module _ (some : 1 ≤ class_of C.answer) where
    ordered : AllPairs (λ d e. is_qualifying A (class_of A) e ≡ true → is_qualifying A (class_of A) d ≡ true) C.sources
    ordered =
        AllPairs-part (λ d e. is_qualifying C.answer (class_of C.answer) e ≡ true → is_qualifying C.answer (class_of C.answer) d ≡ true)
        basis.cover.sources (qualifying_sources_come_first C.answer some)

    -- a kept tail up to which a qualifying source stands
    before_qualifying : (i t : ℕ) → i < length K → column i ≤ t → t ≤ q
        → is_qualifying A (class_of A) (get_or C.sources (t - 1) (image 0)) ≡ true
        → is_qualifying A (class_of A) (source i) ≡ true
    before_qualifying i t l up within h =
        let at = kept_at q bs i l in
        let first = at.first in
        ⊎_elim
        (λ (same : column i ≡ t).
        subst (λ (c : ℕ). is_qualifying C.answer (class_of C.answer) (get_or C.sources (c - 1) (image 0)) ≡ true) (sym same) h)
        (λ (other : column i ≢ t). ordered (column i - 1) (t - 1) (image 0) (omega arith) (omega arith) h)
        (cases_eq (column i) t)

    -- the rows of the qualifying relations have 0 at a kept tail that doesn't qualify
    module _ (i : ℕ) (l : i < length (kept_columns (length C.sources) bs))
        (isnt : is_qualifying C.answer (class_of C.answer)
        (get_or C.sources (get_or (kept_columns (length C.sources) bs) i 0 - 1) (image 0)) ≡ false) where
      place-zero : (o : Option ℕ) (d : Source) → place_in C.sources d ≡ o → is_qualifying A (class_of A) d ≡ true
          → get_or (carried p (length K) rows (row_of q o)) i 0 ≡ 0
      place-zero None d e h =
          ap (λ (x : List ℕ). get_or x i 0) (carry-zeros (rowed (rowed_cover C)) units.rowed.presentation (omega arith) (length K) rows are)
          ∙ (let one : suc i - 1 ≡ i = omega arith in
          ap (λ (m : ℕ). get_or (row_of (length K) None) m 0) (sym one) ∙ at_column-zeros (length K) (suc i))
      place-zero (Some t) d e h =
          let has = place_from-has 1 C.sources d t e in
          let last = has.last in
          ⊎_elim
          (λ (zero_there : get_or (carried p (length K) rows (unit_row q t)) i 0 ≡ 0). zero_there)
          (λ (nonzero : get_or (carried p (length K) rows (unit_row q t)) i 0 ≢ 0).
          let up = carried-shape p q big bs basis.reduced t i l nonzero in
          let there = before_qualifying i t l up (omega arith)
          (subst (λ (f : Source). is_qualifying C.answer (class_of C.answer) f ≡ true) (sym has.entry) h) in
          absurd (false≢true (sym isnt ∙ there)))
          (cases_eq (get_or (carried p (length K) rows (unit_row q t)) i 0) 0)

      relation-zero : (d : Source) → IsSource A d → is_qualifying A (class_of A) d ≡ true
          → at_column (row_at (cover_modulo C bs) d) (suc i) ≡ 0
      relation-zero d s h =
          let one : suc i - 1 ≡ i = omega arith in
          ap (λ (m : ℕ). get_or (row_at (cover_modulo C bs) d) m 0) one
          ∙ ap (λ (x : List ℕ). get_or x i 0)
          (row_at-carried (rowed_cover C) units.rowed (omega arith) (length K) rows are d (source-by_place A basis.cover.answer d s)
          ∙ ap (carried p (length K) rows) (row_at-source A C.sources d s))
          ∙ place-zero (place_in C.sources d) d refl h

      abbrev IsZeroThere : Source → Type 0
      IsZeroThere d = at_column (row_at (cover_modulo C bs) d) (suc i) ≡ 0

      filtered-zero : (ds : List Source) → All (IsSource A) ds → All IsZeroThere (filter (is_qualifying A (class_of A)) ds)
      filtered-zero ds all m d within =
          relation-zero (get_or (filter (is_qualifying A (class_of A)) ds) m d)
          (All-filter (is_qualifying A (class_of A)) (IsSource A) ds all m d within)
          (filter_passes (is_qualifying A (class_of A)) ds m d within)

      pub qualifying-zero : All (λ (r : List ℕ). at_column r (suc i) ≡ 0) (qualifying_rows (cover_modulo C bs) (class_of A))
      qualifying-zero =
          let n : ℕ = C.answer.presentation.rank in
          let test : Source → Bool = is_qualifying C.answer (class_of C.answer) in
          All-map (λ (r : List ℕ). at_column r (suc i) ≡ 0) (row_at (cover_modulo C bs)) (qualifying_relations A (class_of A))
          (All-append IsZeroThere (filter test (all_commutators n)) (filter test (all_powers n))
          (filtered-zero (all_commutators n) (all_commutators-sources A)) (filtered-zero (all_powers n) (all_powers-sources A)))

    -- where the qualifying relations span the row of a kept tail, it qualifies
    pub kept-qualifies : AreRows p (length K) (qualifying_rows (cover_modulo C bs) (class_of A)) → (i : ℕ) → i < length K
        → InSpan p (length K) (qualifying_rows (cover_modulo C bs) (class_of A)) (row_at (cover_modulo C bs) (source i))
        → is_qualifying A (class_of A) (source i) ≡ true
    kept-qualifies those i l spanned = elim (cases_Bool (is_qualifying A (class_of A) (source i))) [
      | inl is ↦ is
      | inr isnt ↦
          let none : at_column (row_at (cover_modulo C bs) (source i)) (suc i) ≡ 0 =
          column-in_span p (length K) (suc i) big (qualifying_rows (cover_modulo C bs) (class_of A)) those (qualifying-zero i l isnt)
          (row_at (cover_modulo C bs) (source i)) spanned in
          let one : at_column (unit_row (length K) (suc i)) (suc i) ≡ 1 =
          at_column-unit_row (length K) (suc i) (omega arith) (omega arith) in
          let same : at_column (row_at (cover_modulo C bs) (source i)) (suc i) ≡ at_column (unit_row (length K) (suc i)) (suc i) =
          ap (λ (x : List ℕ). at_column x (suc i)) (kept-row i l) in
          absurd (omega arith)
    ]
