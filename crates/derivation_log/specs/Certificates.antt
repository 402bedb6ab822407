-- Certificates: how the answer of a run is made, step by step, and for each tail that is eliminated a sum of rows that says so.
-- From: this project's own form of the record of Newman and O'Brien's p-quotient method.
use Rattle.std.specs.Prelude.{◌-◌, ℕ, Bool, ltb, ◌&&◌, List, [], get_or, length}
use Rattle.pq_base.specs.LPresentation.{LPresentation, part}
use Rattle.pq_base.specs.LPresentation.Part.{iterated_part}
use Rattle.pq_base.specs.Answer.{Answer}
use Rattle.derivation_log.specs.declared.source.Run.{Run}
use Rattle.derivation_log.specs.declared.source.Run.TheVariants.{Iterated, Whole}
use Rattle.derivation_log.specs.declared.source.RowSource.{RowSource}

-- the tail is eliminated: it equals the sum of the tails of `kept`, each times its coefficient; `sums` are numbers of sources of the
-- step with coefficients, and the sum of their rows shows it
pub record TailLine : Type 0 where
  pub tail : ℕ
  pub kept : List (ℕ × ℕ)
  pub sums : List (ℕ × ℕ)

-- a step: where its rows come from, and the tails that are eliminated by them
pub record StepLines : Type 0 where
  pub sources : List RowSource
  pub tails : List TailLine

-- the version says which covers are meant; `prime` and `class` are those of the largest quotient that is claimed, and `answer` is it
pub record Certificate : Type 0 where
  pub version : ℕ
  pub presentation : LPresentation
  pub prime : ℕ
  pub class : ℕ
  pub iterated : List StepLines
  pub whole : List StepLines
  pub answer : Answer

-- there are fixed relators and endomorphisms: the run over the iterated part comes first
abbrev pub has_two_runs : LPresentation → Bool
has_two_runs L = ltb 0 (length L.fixed) && ltb 0 (length L.endos)

-- the steps of a run
abbrev pub steps_of : Certificate → Run → List StepLines
steps_of c Iterated = c.iterated
steps_of c Whole = c.whole

-- step k of a run, counted from 1
abbrev pub step_of : Certificate → Run → ℕ → StepLines
step_of c run k = get_or (steps_of c run) (k - 1) (record { sources = []; tails = [] })

-- the presentation of a run: the whole, or the part without fixed relators
abbrev pub presentation_of : Certificate → Run → LPresentation
presentation_of c Iterated = part c.presentation iterated_part
presentation_of c Whole = c.presentation

abbrev pub certificate_of : ℕ → LPresentation → ℕ → ℕ → List StepLines → List StepLines → Answer → Certificate
certificate_of version L p c iterated whole A = record {
  version = version;
  presentation = L;
  prime = p;
  class = c;
  iterated = iterated;
  whole = whole;
  answer = A;
}
