-- How many rows each step of each run added.
use Rattle.std.specs.Prelude.{◌≡◌, ℕ, List, length, map}
use Rattle.derivation_log.specs.declared.source.Run.{Run}
use Rattle.derivation_log.specs.declared.source.Run.TheVariants.{Iterated, Whole}
use Rattle.derivation_log.specs.HeldSteps.{HeldStep}

-- what contracts see of the counts: a list for each run
pub record CountsOfRuns : Type 0 where
  pub iterated : List ℕ
  pub whole : List ℕ

abbrev pub counts_of : CountsOfRuns → Run → List ℕ
counts_of c Iterated = c.iterated
counts_of c Whole = c.whole

abbrev pub rows_added : HeldStep → ℕ
rows_added s = length s.sources

-- they are those of these steps
abbrev pub HasCounts : CountsOfRuns → Run → List HeldStep → Type 0
HasCounts c run steps = counts_of c run ≡ map rows_added steps
