-- What a log that keeps steps holds: a run grows by one step, ends at its class or where no tail is kept, or is refused.
use Rattle.std.proofs.Common.{◌≡◌, ℕ, ◌+◌, ◌<◌, ◌≤◌, Bool, List, [], ◌∷◌, ◌++◌, length, refl, ap, sym, ◌∙◌, subst, arith, inl, inr}
use Rattle.std.proofs.lemmas.List.{length-append}
use Rattle.pq_base.specs.Limits.{max_rank}
use Rattle.pq_base.specs.LPresentation.{LPresentation}
use Rattle.pq_base.specs.Answer.{Answer}
use Rattle.pc_presentation.specs.Rowed.{RowedPresentation}
use Rattle.pc_presentation.specs.Collection.{State}
use Rattle.pc_presentation.specs.Parts.{trivial_answer}
use Rattle.cover_quotient.specs.NextAnswer.{eliminated}
use Rattle.class_step.specs.declared.step.Step.TheVariants.{Next, Same, TooLarge}
use Rattle.derivation_log.specs.declared.source.Run.{Run}
use Rattle.derivation_log.specs.HeldSteps.{HeldStep, KeepsTheSame}
use Rattle.derivation_log.specs.HeldRuns.{IsHeldStep, kept_by}
use Rattle.derivation_log.proofs.HeldRuns.{held_steps-push}
use Rattle.tower.specs.declared.refusal.TowerRefusal.TheVariants as refusal
use Rattle.tower.specs.StepKinds.{step_cover, IsTested}
use Rattle.tower.specs.LoggedSteps.{IsLogged}
use Rattle.tower.specs.LoggedRuns.{HoldsSteps, HoldsRun, HoldsRefused}
use Rattle.tower.proofs.StepKinds.{step_cover-answer}

module _ (full : Bool) (L : LPresentation) (meaning : RowedPresentation → State → ℕ → State) (p : ℕ) where
  -- no step leads to the trivial answer
  pub holds-none : (X : List HeldStep → Type 0) (names : List (List ℕ)) (A : Answer) → X [] → names ≡ L.names → A ≡ trivial_answer p names
      → HoldsSteps full L meaning p 0 X A
  holds-none X names A kept named is = record {
    steps = [];
    kept = kept;
    made = sym (is ∙ ap (trivial_answer p) named);
    count = refl;
  }

  -- one more step, which keeps a tail
  longer : (X Y : List HeldStep → Type 0) (n : ℕ) (A : Answer) (s : HeldStep) → HoldsSteps full L meaning p n X A
      → ((steps : List HeldStep) → X steps → Y (steps ++ s ∷ [])) → IsHeldStep L meaning (step_cover full A) (IsTested full A) s
      → 0 < length (kept_by (step_cover full A) s) → HoldsSteps full L meaning p (n + 1) Y (eliminated (step_cover full A) s.rows)
  longer X Y n A s holds told is some = record {
    steps = holds.steps ++ s ∷ [];
    kept = told holds.steps holds.kept;
    made = held_steps-push L meaning (step_cover full) (IsTested full) (trivial_answer p L.names) A holds.steps s holds.made is
        (λ none. let e : length (kept_by (step_cover full A) s) ≡ 0 = ap length none in absurd (omega arith));
    count = length-append holds.steps (s ∷ []) ∙ ap (λ (k : ℕ). k + 1) holds.count;
  }

  pub holds-next : (X Y : List HeldStep → Type 0) (n : ℕ) (A N : Answer) → HoldsSteps full L meaning p n X A
      → IsLogged full L meaning A X Y (Next N) → HoldsSteps full L meaning p (n + 1) Y N
  holds-next X Y n A N holds logged =
      subst (HoldsSteps full L meaning p (n + 1) Y) (sym logged.answered.0)
      (longer X Y n A logged.held holds logged.told.appended logged.is_step logged.answered.1)

  -- a run that no tail is kept of ends
  pub holds-stopped : (X Y : List HeldStep → Type 0) (n c : ℕ) (A : Answer) → HoldsSteps full L meaning p n X A
      → IsLogged full L meaning A X Y Same → n < c → HoldsRun full L meaning p c Y A
  holds-stopped X Y n c A holds logged l =
      let count = holds.count in
      record {
        steps = holds.steps ++ logged.held ∷ [];
        kept = logged.told.appended holds.steps holds.kept;
        made = inr (record {
          earlier = holds.steps;
          last = logged.held;
          all = refl;
          held = holds.made;
          few = omega arith;
          is_step = logged.is_step;
          none_kept = logged.answered;
        });
      }

  -- a run ends at its class
  pub holds-whole : (X : List HeldStep → Type 0) (n c : ℕ) (A : Answer) → HoldsSteps full L meaning p n X A → n ≡ c
      → HoldsRun full L meaning p c X A
  holds-whole X n c A holds last = record {
    steps = holds.steps;
    kept = holds.kept;
    made = inl (holds.made, holds.count ∙ last);
  }

  -- a run is refused at a class whose rank is too large: the step to it was done
  pub holds-too_large : (X Y : List HeldStep → Type 0) (n c rank : ℕ) (run : Run) (A : Answer) → HoldsSteps full L meaning p n X A
      → A.presentation.rank ≤ max_rank → IsLogged full L meaning A X Y (TooLarge rank)
      → HoldsRefused full L meaning p c Y (refusal.TooLarge run (n + 1) rank)
  holds-too_large X Y n c rank run A holds few logged =
      let s : HeldStep = logged.held in
      let same : (step_cover full A).answer.presentation.rank ≡ A.presentation.rank =
      ap (λ (B : Answer). B.presentation.rank) (step_cover-answer full A) in
      let sum : rank ≡ (step_cover full A).answer.presentation.rank + length (kept_by (step_cover full A) s) = logged.answered.0 in
      let large : max_rank < rank = logged.answered.1 in
      record {
        many = n + 1;
        answer = eliminated (step_cover full A) s.rows;
        done = (refl, sym sum);
        holds = longer X Y n A s holds logged.told.appended logged.is_step (omega arith);
      }

  -- a run is refused where memory is wanting: the log keeps what it kept
  pub holds-wanting : (X Y : List HeldStep → Type 0) (n c : ℕ) (A : Answer) → HoldsSteps full L meaning p n X A → KeepsTheSame X Y → n < c
      → HoldsRefused full L meaning p c Y refusal.NoMemory
  holds-wanting X Y n c A holds same l = record {
    many = n;
    answer = A;
    done = l;
    holds = record { steps = holds.steps; kept = (same holds.steps).0 holds.kept; made = holds.made; count = holds.count };
  }

  -- so where there is no step yet
  pub holds-wanting_first : (X : List HeldStep → Type 0) (c : ℕ) → X [] → 1 ≤ c → HoldsRefused full L meaning p c X refusal.NoMemory
  holds-wanting_first X c kept some =
      holds-wanting X X 0 c (trivial_answer p L.names) (holds-none X L.names (trivial_answer p L.names) kept refl refl)
      (λ steps. (λ h. h, λ h. h)) (omega arith)
