-- Rows of overlaps and of iterated relators are the same in a presentation and in its iterated part, which has no fixed relators.
use Rattle.std.proofs.Common.{ℕ, List, [], ◌∷◌, get_or, arith}
use Rattle.std.specs.List.{All, Contains}
use Rattle.std.proofs.lemmas.List.Elements.{All-head, All-tail, All-weaker, All-contains, Contains-get_or}
use Rattle.pq_base.specs.LPresentation.{LPresentation, part}
use Rattle.pq_base.specs.LPresentation.Part.{iterated_part}
use Rattle.pc_presentation.specs.Collection.{State}
use Rattle.pc_presentation.specs.declared.overlap.Overlap.{Overlap}
use Rattle.p_cover.specs.Covers.{CoverOf}
use Rattle.derivation_log.specs.declared.source.RowSource.{RowSource}
use Rattle.derivation_log.specs.declared.source.RowSource.TheVariants.{Test, Fixed as FixedSource, Iterated as IteratedSource}
use Rattle.derivation_log.specs.RowSources.{IsRowOf, AreRowsOf}
use Rattle.tower.specs.declared.relator.Relator.{Relator}
use Rattle.tower.specs.declared.relator.Relator.TheVariants.{Fixed, Iterated}
use Rattle.tower.specs.NamedParts.{IsNamed, recorded_source}
use Rattle.tower.specs.StepRows.{StepRows, HaveTaken, step_sources}
use Rattle.tower.specs.SpunParts.{AreIterated}
use Rattle.tower.proofs.TakenSources.{step_source-cases}

module _ (L : LPresentation) (C : CoverOf) (push : State → ℕ → State) where
  -- a row of the part is a row of the whole
  pub row-of_part : (s : RowSource) (x : List ℕ) → IsRowOf (part L iterated_part) C push s x → IsRowOf L C push s x
  row-of_part (Test o) x h = record { numbers = h.numbers; row = h.row }
  row-of_part (FixedSource i) x h =
      let first = h.numbers.0 in
      let last = h.numbers.1 in
      absurd (omega arith)
  row-of_part (IteratedSource i s) x h = record { numbers = h.numbers; row = h.row }

  -- and the other way round, for what is no fixed relator
  abbrev pub IsPartSource : RowSource → Type 0
  IsPartSource (Test o) = Unit {0}
  IsPartSource (FixedSource i) = ⊥
  IsPartSource (IteratedSource i s) = Unit {0}

  pub row-in_part : (s : RowSource) (x : List ℕ) → IsPartSource s → IsRowOf L C push s x → IsRowOf (part L iterated_part) C push s x
  row-in_part (Test o) x is h = record { numbers = h.numbers; row = h.row }
  row-in_part (FixedSource i) x is h = absurd is
  row-in_part (IteratedSource i s) x is h = record { numbers = h.numbers; row = h.row }

  rows-in_part : (ss : List RowSource) (xs : List (List ℕ)) → All IsPartSource ss → AreRowsOf L C push ss xs
      → AreRowsOf (part L iterated_part) C push ss xs
  rows-in_part [] [] all rows = tt
  rows-in_part [] (x ∷ xs) all rows = absurd rows
  rows-in_part (s ∷ ss) [] all rows = absurd rows
  rows-in_part (s ∷ ss) (x ∷ xs) all rows =
      (row-in_part s x (All-head IsPartSource s ss all) rows.0, rows-in_part ss xs (All-tail IsPartSource s ss all) rows.1)

  iterated-source : (r : Relator) → IsNamed (part L iterated_part) r → IsPartSource (recorded_source r)
  iterated-source (Fixed i) named =
      let first = named.0 in
      let last = named.1 in
      absurd (omega arith)
  iterated-source (Iterated i s) named = tt

  -- the sources of a step that takes iterated relators
  pub part-sources : (tests : List Overlap) (rs : List Relator) → AreIterated L rs → (s : RowSource) → Contains (step_sources tests rs) s
      → IsPartSource s
  part-sources tests rs iterated s h =
      step_source-cases IsPartSource tests (λ o c. tt) rs
      (λ r c. iterated-source r (All-contains (IsNamed (part L iterated_part)) rs r iterated c)) s h

  -- so what such a step has taken it has taken in the part
  pub taken-in_part : (tests : List Overlap) (rs : List Relator) (R : StepRows) → AreIterated L rs
      → HaveTaken L C push (step_sources tests rs) R → HaveTaken (part L iterated_part) C push (step_sources tests rs) R
  taken-in_part tests rs R iterated taken =
      let of_step : (s : RowSource) → Contains (step_sources tests rs) s → IsPartSource s = part-sources tests rs iterated in
      record {
        rows =
            rows-in_part R.noted R.basis.added
            (All-weaker (Contains (step_sources tests rs)) IsPartSource of_step R.noted taken.noted) taken.rows;
        noted = taken.noted;
        spanned = λ i d l.
            let s : RowSource = get_or (step_sources tests rs) i d in
            let row = taken.spanned i d l in
            let source = of_step s (Contains-get_or (step_sources tests rs) i d l) in
            record { row = row.row; is = row-in_part s row.row source row.is; span = row.span };
      }
