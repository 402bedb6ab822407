-- Rows of sources that were taken. What holds of each row that is that of its source holds of all rows that were added. The span holds
-- the row of each overlap and of each relator that are among the sources; and rows of overlaps are trivial, and rows of relators of a
-- presentation are trusted wherever it is obeyed.
use Rattle.std.proofs.Common.{◌≡◌, ℕ, zero, suc, ◌<◌, List, [], ◌∷◌, length, map, refl, ap, sym, ◌∙◌, subst, arith, inl, inr}
use Rattle.std.specs.List.{All, Contains}
use Rattle.std.proofs.lemmas.List.{length-map, get_or-map}
use Rattle.std.proofs.lemmas.List.Elements.{All-nil, All-cons, All-head, All-tail, All-weaker, All-contains, Contains-append_left}
use Rattle.std.proofs.lemmas.List.Elements.{Contains-append_right, Contains-append_cases}
use Rattle.pq_base.specs.LPresentation.{LPresentation, IsLPresentation, IsRelator}
use Rattle.pq_base.specs.Table.{value}
use Rattle.fp_echelon.specs.Span.{InSpan}
use Rattle.pc_presentation.specs.declared.overlap.Overlap.{Overlap}
use Rattle.pc_presentation.specs.OverlapNumbers.{overlap_of}
use Rattle.pc_presentation.specs.OverlapRows.{overlap_row}
use Rattle.pc_presentation.specs.Collection.{State}
use Rattle.pc_presentation.specs.Arithmetic.{IsMeaning}
use Rattle.p_cover.specs.RowedAnswer.{rowed}
use Rattle.p_cover.specs.Covers.{CoverOf, IsCover, rowed_cover}
use Rattle.cover_quotient.specs.AnswerLaws.{HasRowOf}
use Rattle.cover_quotient.specs.Stages.{IsTrusted}
use Rattle.derivation_log.specs.declared.source.RowSource.{RowSource}
use Rattle.derivation_log.specs.declared.source.RowSource.TheVariants.{Test}
use Rattle.derivation_log.specs.RowSources.{source_word, IsRowOf, AreRowsOf}
use Rattle.derivation_log.specs.HeldRuns.{IsTestedSource}
use Rattle.derivation_log.proofs.RowSources.{row_of_overlap-trivial, row_of_source-joined, row_of_source-justified}
use Rattle.tower.specs.declared.relator.Relator.{Relator}
use Rattle.tower.specs.declared.relator.Relator.TheVariants.{Fixed, Iterated}
use Rattle.tower.specs.NamedParts.{named_word, recorded_source}
use Rattle.tower.specs.StepRows.{StepRows, HasSpannedRow, HaveTaken, step_sources}
use Rattle.tower.specs.Closing.{IsTrivialRow}
use Rattle.tower.proofs.StepKinds.{SpanTests}

-- the members of a list of images
pub contained-map : {X Y : Type 0} (f : X → Y) (xs : List X) (x : X) → Contains xs x → Contains (map f xs) (f x)
contained-map f xs x h =
    (h.0, subst (λ (n : ℕ). h.0 < n) (sym (length-map xs f)) h.1, get_or-map f xs h.0 x (f x) h.1 ∙ ap f h.2)

from-contained_map : {X : Type 0} (f : X → RowSource) (xs : List X) (s : RowSource) → Contains (map f xs) s
    → (x : X) × Contains xs x × (f x ≡ s)
from-contained_map f [] s h = absurd (omega (arith, h.1))
from-contained_map f (x ∷ xs) s (zero, l, e) = (x, (zero, omega arith, refl), e)
from-contained_map f (x ∷ xs) s (suc k, l, e) =
    let rest = from-contained_map f xs s (k, omega arith, e) in
    (rest.0, (suc rest.1.0, omega (arith, rest.1.1), rest.1.2), rest.2)

-- a source of a step is one of the overlaps or one of the relators
pub step_source-cases : (P : RowSource → Type 0) (tests : List Overlap) → ((o : Overlap) → Contains tests o → P (Test o))
    → (rs : List Relator) → ((r : Relator) → Contains rs r → P (recorded_source r)) → (s : RowSource) → Contains (step_sources tests rs) s
    → P s
step_source-cases P tests test rs relator s h = elim (Contains-append_cases (map Test tests) (map recorded_source rs) s h) [
  | inl c ↦
      let e = from-contained_map Test tests s c in
      subst P e.2 (test e.0 e.1)
  | inr c ↦
      let e = from-contained_map recorded_source rs s c in
      subst P e.2 (relator e.0 e.1)
]

-- what holds of each row that is that of its source holds of all rows
rows_of-all : (L : LPresentation) (C : CoverOf) (push : State → ℕ → State) (P : RowSource → Type 0) (Q : List ℕ → Type 0)
    → ((s : RowSource) (x : List ℕ) → P s → IsRowOf L C push s x → Q x) → (ss : List RowSource) (xs : List (List ℕ)) → All P ss
    → AreRowsOf L C push ss xs → All Q xs
rows_of-all L C push P Q one [] [] all rows = All-nil _
rows_of-all L C push P Q one [] (x ∷ xs) all rows = absurd rows
rows_of-all L C push P Q one (s ∷ ss) [] all rows = absurd rows
rows_of-all L C push P Q one (s ∷ ss) (x ∷ xs) all rows =
    All-cons Q x xs (one s x (All-head P s ss all) rows.0) (rows_of-all L C push P Q one ss xs (All-tail P s ss all) rows.1)

-- the span holds the row of each overlap that is among the sources
overlaps-taken : (L : LPresentation) (C : CoverOf) (push : State → ℕ → State) (ss : List RowSource) (R : StepRows)
    → HaveTaken L C push ss R → (tests : List Overlap) → ((o : Overlap) → Contains tests o → Contains ss (Test o))
    → SpanTests C push tests R.basis.added
overlaps-taken L C push ss R taken tests among o h =
    let row = All-contains (HasSpannedRow L C push R.basis.added) ss (Test o) taken.spanned (among o h) in
    let found : row.row ≡ overlap_row (rowed (rowed_cover C)) push (overlap_of o) = row.is.row.row in
    subst (InSpan C.answer.presentation.prime (length C.sources) R.basis.added) found row.span

-- after a step
module _ (L : LPresentation) (C : CoverOf) (push : State → ℕ → State) (tests : List Overlap) (rs : List Relator) (R : StepRows)
    (taken : HaveTaken L C push (step_sources tests rs) R) where
  pub taken-tests : SpanTests C push tests R.basis.added
  taken-tests =
      overlaps-taken L C push (step_sources tests rs) R taken tests
      (λ o h. Contains-append_left (map Test tests) (map recorded_source rs) (Test o) (contained-map Test tests o h))

  pub taken-relator : (r : Relator) → Contains rs r → HasSpannedRow L C push R.basis.added (recorded_source r)
  taken-relator r h =
      All-contains (HasSpannedRow L C push R.basis.added) (step_sources tests rs) (recorded_source r) taken.spanned
      (Contains-append_right (map Test tests) (map recorded_source rs) (recorded_source r) (contained-map recorded_source rs r h))

  -- each source that was noted is a relator or an overlap that is tested
  pub taken-tested : All (IsTestedSource (Contains tests)) R.noted
  taken-tested =
      All-weaker (Contains (step_sources tests rs)) (IsTestedSource (Contains tests))
      (step_source-cases (IsTestedSource (Contains tests)) tests (λ o h. h) rs (λ r h. relator-tested r)) R.noted taken.noted
    where
      relator-tested : (r : Relator) → IsTestedSource (Contains tests) (recorded_source r)
      relator-tested (Fixed i) = tt
      relator-tested (Iterated i s) = tt

  module _ (is : IsLPresentation L) (cover : IsCover C) (meaning : IsMeaning (rowed (rowed_cover C)) push)
      (names : C.answer.names ≡ L.names) where
    pub taken-relator_row : (r : Relator) → Contains rs r → HasRowOf C R.basis.added (named_word L r)
    taken-relator_row r h =
        let row = taken-relator r h in
        record {
          row = row.row;
          span = row.span;
          joined = row_of_source-joined C cover push meaning L is names (recorded_source r) row.row row.is;
        }

    -- rows of relators of another presentation are trusted where that is obeyed
    pub taken-trusted : (M : LPresentation) → ((r : Relator) → Contains rs r → IsRelator M (named_word L r))
        → All (IsTrusted M C) R.basis.added
    taken-trusted M relators =
        rows_of-all L C push (Contains (step_sources tests rs)) (IsTrusted M C)
        (λ s x h row T f obeys.
        row_of_source-justified C cover push meaning L is names T f s x
        (step_source-cases (λ (t : RowSource). value T f (source_word L t) ≡ 0) tests (λ o k. refl) rs
        (λ r k. obeys.kills (named_word L r) (relators r k)) s h) row)
        R.noted R.basis.added taken.noted taken.rows

-- after the overlaps alone
module _ (L : LPresentation) (C : CoverOf) (push : State → ℕ → State) (tests : List Overlap) (R : StepRows)
    (taken : HaveTaken L C push (map Test tests) R) where
  pub only_tests-span : SpanTests C push tests R.basis.added
  only_tests-span = overlaps-taken L C push (map Test tests) R taken tests (λ o h. contained-map Test tests o h)

  -- each row is trivial
  pub only_tests-trivial : IsCover C → IsMeaning (rowed (rowed_cover C)) push → All (IsTrivialRow C) R.basis.added
  only_tests-trivial cover meaning =
      rows_of-all L C push (Contains (map Test tests)) (IsTrivialRow C)
      (λ s x h row.
      let e = from-contained_map Test tests s h in
      let test : IsRowOf L C push (Test e.0) x = subst (λ (t : RowSource). IsRowOf L C push t x) (sym e.2) row in
      row_of_overlap-trivial C cover push meaning L e.0 x test.numbers test.row)
      R.noted R.basis.added taken.noted taken.rows
