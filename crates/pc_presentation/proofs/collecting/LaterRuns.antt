-- A run from a word of later letters behind copies of the first generator leaves these copies, and is a run of the later
-- generators. So a push of a later generator is a push on the rest of the state.
use Rattle.std.proofs.Common.{◌≡◌, ℕ, suc, ◌<◌, List, [], ◌∷◌, ◌++◌, map, replicate, refl, ap, sym, ◌∙◌, subst, arith, append_assoc}
use Rattle.std.proofs.lemmas.List.{map-append}
use Rattle.pc_presentation.specs.Rowed.{RowedPresentation, row_sum}
use Rattle.pc_presentation.specs.Collection.{Configuration, State, spelled, configuration_of, before}
use Rattle.pc_presentation.specs.Collection.Run.{stop, move}
use Rattle.pc_presentation.proofs.collecting.PlainRule.{spelled-suc}
use Rattle.pc_presentation.proofs.collecting.RunLaws.{RunFrom}
use Rattle.pc_presentation.proofs.collecting.StepPlaces.{StepAt, placed_step, step_of_place}
use Rattle.pc_presentation.proofs.collecting.StepShapes.{step-behind}
use Rattle.pc_presentation.proofs.collecting.AnyRun.{same_behind}

-- a run from a word of later letters behind copies of the generator
pub record EndsBehind (Y : RowedPresentation) (k e : ℕ) (c : Configuration) (d : Configuration) : Type 0 where
  pub end : Configuration
  pub word_is : d.word ≡ replicate e 0 ++ map suc end.word
  pub row_is : d.row ≡ end.row
  pub run : RunFrom Y (suc k) c end

pub run-behind : (Y : RowedPresentation) (k e : ℕ) (c : Configuration) {b d : Configuration} → e < Y.base.prime
    → b.word ≡ replicate e 0 ++ map suc c.word → b.row ≡ c.row → RunFrom Y k b d → EndsBehind Y k e c d
run-behind Y k e c l f g stop = record { end = c; word_is = f; row_is = g; run = stop }
run-behind Y k e c l f g (move {c = a} {d = b} s m) =
    let q = placed_step Y k s in
    let x = step-behind Y k e c.word b.word q.added (omega arith) l (subst (λ (w : List ℕ). StepAt Y k w b.word q.added) f q.step) in
    let next : Configuration = record { word = x.word; row = row_sum Y.base.prime c.row q.added } in
    let r = run-behind Y k e next l x.word_is (q.row_is ∙ ap (λ (z : List ℕ). row_sum Y.base.prime z q.added) g) m in
    record {
      end = r.end;
      word_is = r.word_is;
      row_is = r.row_is;
      run = move (step_of_place Y (suc k) c.word x.word c.row q.added x.step) r.run;
    }

pub push-behind : (Y : RowedPresentation) (k a b : ℕ) (s t : State) (i : ℕ) → a < Y.base.prime
    → RunFrom Y k (record { word = spelled 0 (a ∷ s.exponents) ++ suc i ∷ []; row = s.row }) (configuration_of (before b t))
    → (b ≡ a) × RunFrom Y (suc k) (record { word = spelled 0 s.exponents ++ i ∷ []; row = s.row }) (configuration_of t)
push-behind Y k a b s t i l m =
    let c : Configuration = record { word = spelled 0 s.exponents ++ i ∷ []; row = s.row } in
    let start : spelled 0 (a ∷ s.exponents) ++ suc i ∷ [] ≡ replicate a 0 ++ map suc (spelled 0 s.exponents ++ i ∷ []) =
    append_assoc (replicate a 0) (spelled 1 s.exponents) (suc i ∷ [])
    ∙ ap (λ (w : List ℕ). replicate a 0 ++ (w ++ suc i ∷ [])) (spelled-suc 0 s.exponents)
    ∙ ap (λ (w : List ℕ). replicate a 0 ++ w) (sym (map-append suc (spelled 0 s.exponents) (i ∷ []))) in
    ends_at (run-behind Y k a c l start refl m)
  where
    ends_at : EndsBehind Y k a (record { word = spelled 0 s.exponents ++ i ∷ []; row = s.row }) (configuration_of (before b t))
        → (b ≡ a) × RunFrom Y (suc k) (record { word = spelled 0 s.exponents ++ i ∷ []; row = s.row }) (configuration_of t)
    ends_at r =
        let x = same_behind b a (spelled 0 t.exponents) r.end.word
        (ap (λ (w : List ℕ). replicate b 0 ++ w) (sym (spelled-suc 0 t.exponents)) ∙ r.word_is) in
        let words : r.end.word ≡ spelled 0 t.exponents = sym x.1 in
        let rows : r.end.row ≡ t.row = sym r.row_is in
        let whole : RunFrom Y (suc k) (record { word = spelled 0 s.exponents ++ i ∷ []; row = s.row })
        (record { word = spelled 0 t.exponents; row = r.end.row }) =
        subst (λ (w : List ℕ). RunFrom Y (suc k) (record { word = spelled 0 s.exponents ++ i ∷ []; row = s.row })
        (record { word = w; row = r.end.row })) words r.run in (
          x.0,
          subst (λ (y : List ℕ).
              RunFrom Y (suc k) (record { word = spelled 0 s.exponents ++ i ∷ []; row = s.row })
              (record { word = spelled 0 t.exponents; row = y })) rows whole,
        )
