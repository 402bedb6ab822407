-- What the bytes of a presentation's input may be: no presentation, or one some of whose largest quotients up to a class have a rank
-- above the limit, or one with none such. The largest quotients of the iterated part count where it is computed first.
-- From: this project's own commands.
use Rattle.std.specs.Prelude.{◌<◌, ◌≤◌, ℕ, List}
use Rattle.pq_base.specs.Limits.{max_rank}
use Rattle.pq_base.specs.LPresentation.{LPresentation}
use Rattle.pq_base.specs.Largest.{HasOrder}
use Rattle.lpres_reader.specs.declared.fault.TextFault.{TextFault}
use Rattle.lpres_reader.specs.Reads.{Reads}
use Rattle.lpres_reader.specs.Faults.{FirstFault}
use Rattle.lpres_reader.specs.Stops.{kind_of}
use Rattle.derivation_log.specs.declared.source.Run.{Run}
use Rattle.tower.specs.TwoRuns.{HasSmallPart, IsTooLargeIn}

-- the bytes read as a presentation
abbrev pub IsReadable : List ℕ → Type 0
IsReadable bytes = (L : LPresentation) × Reads bytes L

-- the bytes read as a presentation, and the first largest quotient up to p-class c that has a rank above the limit is that of class
-- k: its rank is r. It is one of the iterated part, where a run computes that first, else one of the whole
pub record HasLargeRank (p c : ℕ) (run : Run) (k r : ℕ) (bytes : List ℕ) : Type 0 where
  pub presentation : LPresentation
  pub reads : Reads bytes presentation
  pub large : IsTooLargeIn presentation p c run k r

-- the bytes read as a presentation, and each of its largest quotients up to p-class c has a rank within the limit, as has each of its
-- iterated part, where that is computed first
pub record HasSmallRanks (p c : ℕ) (bytes : List ℕ) : Type 0 where
  pub presentation : LPresentation
  pub reads : Reads bytes presentation
  pub small : (k r : ℕ) → k ≤ c → max_rank < r → ¬ HasOrder presentation p k r
  pub small_part : HasSmallPart presentation p c

-- this holds of each text of a presentation
abbrev pub OfEachText : LPresentation → (List ℕ → Type 0) → Type 0
OfEachText L P = (text : List ℕ) → Reads text L → P text

-- the bytes have this first fault
abbrev pub HasFault : TextFault → List ℕ → Type 0
HasFault fault bytes = FirstFault bytes fault.line (kind_of fault.kind)
