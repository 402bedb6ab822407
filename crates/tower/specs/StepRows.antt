-- The rows of a step, as they are found and inserted one after the other.
-- From: Gaussian elimination of tails in Newman and O'Brien's p-quotient method.
use Rattle.std.specs.Prelude.{◌≡◌, ◌≤◌, ◌+◌, ◌⊎◌, ℕ, suc, List, [], ◌∷◌, ◌++◌, length, map}
use Rattle.std.specs.List.{All, Contains}
use Rattle.pq_base.specs.LPresentation.{LPresentation}
use Rattle.fp_rows.specs.Row.{PrimeRow}
use Rattle.fp_echelon.specs.Span.{InSpan}
use Rattle.fp_echelon.specs.Basis.{Echelon, IsBasis}
use Rattle.pc_presentation.specs.Collection.{State}
use Rattle.pc_presentation.specs.declared.overlap.Overlap.{Overlap}
use Rattle.p_cover.specs.Covers.{CoverOf}
use Rattle.derivation_log.specs.declared.source.RowSource.{RowSource}
use Rattle.derivation_log.specs.declared.source.RowSource.TheVariants.{Test}
use Rattle.derivation_log.specs.RowSources.{IsRowOf, AreRowsOf}
use Rattle.tower.specs.declared.relator.Relator.{Relator}
use Rattle.tower.specs.NamedParts.{recorded_source}

-- what contracts see of the rows: their basis, what each added row comes from and for how many there is room, and the row
-- found last
pub record StepRows : Type 0 where
  pub basis : Echelon
  pub noted : List RowSource
  pub room : ℕ
  pub row : PrimeRow

-- rows over the tails of a cover, with room for as many as there can be
pub record AreOver (C : CoverOf) (R : StepRows) : Type 0 where
  pub basis : IsBasis R.basis
  pub prime : R.basis.prime ≡ C.answer.presentation.prime
  pub width : R.basis.width ≡ length C.sources
  pub noted : length R.noted ≡ length R.basis.added
  pub spare : R.basis.spare + length R.basis.added ≡ suc (length C.sources)
  pub room : length C.sources ≤ R.room
  pub row_prime : R.row.prime ≡ C.answer.presentation.prime
  pub row_width : length R.row.entries ≡ length C.sources

-- the row found last is in the span, or was added to it with its source
pub record HasInserted (R S : StepRows) (source : RowSource) : Type 0 where
  pub basis : IsBasis S.basis
  pub prime : S.basis.prime ≡ R.basis.prime
  pub width : S.basis.width ≡ R.basis.width
  pub spare : S.basis.spare + length S.basis.added ≡ R.basis.spare + length R.basis.added
  pub room : R.room ≤ S.room
  pub row : S.row ≡ R.row
  pub takes : (InSpan R.basis.prime R.basis.width R.basis.added R.row.entries × (S.basis.added ≡ R.basis.added) × (S.noted ≡ R.noted))
      ⊎ ((S.basis.added ≡ R.basis.added ++ R.row.entries ∷ []) × (S.noted ≡ R.noted ++ source ∷ []))

-- a row of the source lies in the span
pub record HasSpannedRow (L : LPresentation) (C : CoverOf) (push : State → ℕ → State) (rows : List (List ℕ))
    (source : RowSource) : Type 0 where
  pub row : List ℕ
  pub is : IsRowOf L C push source row
  pub span : InSpan C.answer.presentation.prime (length C.sources) rows row

-- rows of some sources were taken: the span holds one of each, and each row that was added is the row of the source noted for
-- it, which is one of them
pub record HaveTaken (L : LPresentation) (C : CoverOf) (push : State → ℕ → State) (sources : List RowSource) (R : StepRows) : Type 0 where
  pub rows : AreRowsOf L C push R.noted R.basis.added
  pub noted : All (Contains sources) R.noted
  pub spanned : All (HasSpannedRow L C push R.basis.added) sources

-- beside what was taken before, rows of these sources were
abbrev pub HaveTakenMore : LPresentation → CoverOf → (State → ℕ → State) → List RowSource → StepRows → StepRows → Type 0
HaveTakenMore L C push more R S =
    (sources : List RowSource) → HaveTaken L C push sources R → HaveTaken L C push (sources ++ more) S

-- the sources of a step: the overlaps that are tested, and the relators
abbrev pub step_sources : List Overlap → List Relator → List RowSource
step_sources tests relators = map Test tests ++ map recorded_source relators
