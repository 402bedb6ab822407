-- Counts of no step are those of no steps.
use Rattle.std.proofs.Common.{◌≡◌, List, [], ◌∷◌, refl, sym, ◌∙◌}
use Rattle.derivation_log.specs.declared.source.Run.{Run}
use Rattle.derivation_log.specs.declared.source.Run.TheVariants.{Whole}
use Rattle.derivation_log.specs.HeldSteps.{HeldStep}
use Rattle.derivation_log.specs.RowCounts.{CountsOfRuns, counts_of, HasCounts}

pub no_steps_of : (c : CountsOfRuns) (run : Run) → counts_of c run ≡ [] → (steps : List HeldStep) → HasCounts c run steps → steps ≡ []
no_steps_of c run none [] h = refl
no_steps_of c run none (s ∷ steps) h = let e = sym none ∙ h in cc

pub no_steps : (c : CountsOfRuns) → c.whole ≡ [] → (steps : List HeldStep) → HasCounts c Whole steps → steps ≡ []
no_steps c none = no_steps_of c Whole none
