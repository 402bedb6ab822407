-- The rows of the sources of a step, and the tools that they are found with.
-- From: this project's own checker.
use Rattle.std.specs.Prelude.{◌≡◌, ◌≤◌, ◌<◌, ℕ, List, length, map}
use Rattle.std.specs.List.{All}
use Rattle.pq_base.specs.LPresentation.{LPresentation, AreEndoNumbers}
use Rattle.fp_rows.specs.Row.{PrimeRow}
use Rattle.fp_rows.specs.Rows.{IsRow}
use Rattle.pc_presentation.specs.Collection.{plain_push}
use Rattle.pc_presentation.specs.Scratch.{Workspace, IsScratch}
use Rattle.pc_presentation.specs.Tailed.{rowed_presentation}
use Rattle.p_cover.specs.Covers.{CoverOf, cover_presentation}
use Rattle.p_cover.specs.Images.{ImagesOf, AreLifted}
use Rattle.epimorphism.specs.Rooms.{Rooms, IsWork}
use Rattle.derivation_log.specs.declared.source.RowSource.{RowSource}
use Rattle.derivation_log.specs.declared.source.RowSource.TheVariants.{Test, Fixed, Iterated}
use Rattle.derivation_log.specs.RowSources.{AreRowsOf}

-- what contracts see of tools
pub record ToolsOf : Type 0 where
  pub scratch : Workspace
  pub work : Rooms
  pub images : ImagesOf

-- tools that were made for a cover
pub record AreToolsFor (C : CoverOf) (t : ToolsOf) : Type 0 where
  pub scratch : IsScratch (cover_presentation C) t.scratch
  pub work : IsWork C t.work
  pub images : AreLifted C (plain_push (rowed_presentation (cover_presentation C))) t.images

-- the relator and the endomorphisms that a source names are there
abbrev pub NamesRelator : LPresentation → RowSource → Type 0
NamesRelator L (Test o) = Unit {0}
NamesRelator L (Fixed i) = (1 ≤ i) × (i ≤ length L.fixed)
NamesRelator L (Iterated i s) = (1 ≤ i) × (i ≤ length L.iterated) × AreEndoNumbers (length L.endos) s

-- the entries of rows
abbrev pub entries_of : List PrimeRow → List (List ℕ)
entries_of rows = map (λ (r : PrimeRow). r.entries) rows

-- a row of residues modulo p
pub record IsRowOver (p width : ℕ) (r : PrimeRow) : Type 0 where
  pub prime : r.prime ≡ p
  pub some : 1 < p
  pub row : IsRow p width r.entries

-- a row over the tails of a cover
abbrev pub IsRowFor : CoverOf → PrimeRow → Type 0
IsRowFor C r = IsRowOver C.answer.presentation.prime (length C.sources) r

-- a row of the prime and the width of another
abbrev pub IsAlike : PrimeRow → PrimeRow → Type 0
IsAlike s r = IsRowOver s.prime (length s.entries) r

-- the rows of sources by the plain rule
pub record ArePlainRows (L : LPresentation) (C : CoverOf) (sources : List RowSource) (rows : List PrimeRow) : Type 0 where
  pub shapes : All (IsRowFor C) rows
  pub are : AreRowsOf L C (plain_push (rowed_presentation (cover_presentation C))) sources (entries_of rows)
