-- Where the number of rows of a step is put behind the numbers of the steps before it, the lists with these numbers have that
-- step, or another with as many rows, at their end.
use Rattle.std.proofs.Common.{◌≡◌, ℕ, List, [], ◌∷◌, ◌++◌, map, ap, sym, ◌∙◌}
use Rattle.std.proofs.lemmas.List.{map-append}
use Rattle.derivation_log.specs.HeldSteps.{HeldStep, KeepsOneMore}
use Rattle.derivation_log.specs.RowCounts.{rows_added}
use Rattle.derivation_log.proofs.HeldRuns.{last-step}

pub keeps-one_more : (xs ys : List ℕ) (step : HeldStep) → ys ≡ xs ++ rows_added step ∷ []
    → KeepsOneMore (λ (steps : List HeldStep). xs ≡ map rows_added steps) (λ (steps : List HeldStep). ys ≡ map rows_added steps) step
keeps-one_more xs ys step e = record {
  appended = λ steps h.
      e ∙ ap (λ (zs : List ℕ). zs ++ rows_added step ∷ []) h ∙ sym (map-append rows_added steps (step ∷ []));
  one_more = λ steps h. last-step rows_added xs (rows_added step) steps (sym e ∙ h);
}
