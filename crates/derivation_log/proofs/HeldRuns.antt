-- Steps grow by one at the end, and values of theirs with one more have a last step.
use Rattle.std.proofs.Common.{◌≡◌, ◌≢◌, ℕ, List, [], ◌∷◌, ◌++◌, get_or, drop, map, refl, ap, ap₂, sym, subst}
use Rattle.pq_base.specs.LPresentation.{LPresentation}
use Rattle.pq_base.specs.Answer.{Answer}
use Rattle.pc_presentation.specs.Rowed.{RowedPresentation}
use Rattle.pc_presentation.specs.Collection.{State}
use Rattle.pc_presentation.specs.declared.overlap.Overlap.{Overlap}
use Rattle.p_cover.specs.Covers.{CoverOf}
use Rattle.cover_quotient.specs.NextAnswer.{eliminated}
use Rattle.derivation_log.specs.HeldSteps.{HeldStep}
use Rattle.derivation_log.specs.HeldRuns.{IsHeldStep, kept_by, AreHeldSteps}

module _ (L : LPresentation) (meaning : RowedPresentation → State → ℕ → State) (cover : Answer → CoverOf)
    (tested : Answer → Overlap → Type 0) where
  pub held_steps-push : (A B : Answer) (ss : List HeldStep) (s : HeldStep) → AreHeldSteps L meaning cover tested A ss B
      → IsHeldStep L meaning (cover B) (tested B) s → kept_by (cover B) s ≢ []
      → AreHeldSteps L meaning cover tested A (ss ++ s ∷ []) (eliminated (cover B) s.rows)
  held_steps-push A B [] s all one kept =
      subst (λ (D : Answer). AreHeldSteps L meaning cover tested D (s ∷ []) (eliminated (cover B) s.rows)) (sym all) (one, kept, refl)
  held_steps-push A B (t ∷ ss) s all one kept =
      (all.0, all.1, held_steps-push (eliminated (cover A) t.rows) B ss s all.2 one kept)

-- the last step of those with some values
pub last-step : {X : Type 0} (f : HeldStep → X) (xs : List X) (x : X) (steps : List HeldStep) → xs ++ x ∷ [] ≡ map f steps
    → (earlier : List HeldStep) × (last : HeldStep) × (xs ≡ map f earlier) × (steps ≡ earlier ++ last ∷ [])
last-step f [] x [] e = cc
last-step f [] x (s ∷ []) e = ([], s, refl, refl)
last-step f [] x (s ∷ t ∷ steps) e = cc
last-step f (y ∷ xs) x [] e = cc
last-step {X} f (y ∷ xs) x (s ∷ steps) e =
    let rest = last-step f xs x steps (ap (drop 1) e) in (
      s ∷ rest.0,
      rest.1,
      ap₂ (λ (z : X) (zs : List X). z ∷ zs) (ap (λ (zs : List X). get_or zs 0 y) e) rest.2,
      ap (λ (ts : List HeldStep). s ∷ ts) rest.3,
    )
