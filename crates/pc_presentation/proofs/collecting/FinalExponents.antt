-- Each run that pushes a generator on a state leaves the earlier exponents and raises the generator's own modulo the
-- prime, whatever the choice of its steps.
use Rattle.std.proofs.Common.{◌≡◌, ℕ, zero, suc, ◌+◌, ◌%◌, ◌<◌, List, [], ◌∷◌, ◌++◌, get_or, map, replicate, ap, sym, ◌∙◌, subst, arith}
use Rattle.std.proofs.Common.{append_assoc, mod-eq_of_lt}
use Rattle.std.proofs.Math.Nat.{mod_self}
use Rattle.pq_base.specs.Presentation.{power_side, commutator_side}
use Rattle.pc_presentation.specs.Rowed.{RowedPresentation}
use Rattle.pc_presentation.specs.Collection.{Configuration, State, IsState, spelled, configuration_of, before}
use Rattle.pc_presentation.specs.Collection.Run.{stop, move}
use Rattle.pc_presentation.specs.CollectionLaws.{ExponentsAfterPush, EarlierExponentsAreFinal}
use Rattle.pc_presentation.proofs.rows.RowLaws.{is_before}
use Rattle.pc_presentation.proofs.collecting.PlainRule.{spelled-suc}
use Rattle.pc_presentation.proofs.collecting.RunLaws.{RunFrom, replacement_from, run-weaken}
use Rattle.pc_presentation.proofs.collecting.StepPlaces.{StepAt, IsIrreducible, step-suffix, placed_step}
use Rattle.pc_presentation.proofs.collecting.StepShapes.{step-behind, spelled-irreducible}
use Rattle.pc_presentation.proofs.collecting.PassShapes.{late, LateStep, late_step}
use Rattle.pc_presentation.proofs.collecting.PassShapes.LateStep.{inside, passes, full}
use Rattle.pc_presentation.proofs.collecting.LaterRuns.{push-behind}
use Rattle.pc_presentation.proofs.collecting.AnyRun.{same_behind, same_late}

-- the words on the way from a word with a late copy of the generator
data OnTheWay (Y : RowedPresentation) (k e : ℕ) (w : List ℕ) : Type 0 where
  still_late : (v u : List ℕ) → w ≡ late e v u → IsIrreducible Y (suc k) v → OnTheWay Y k e w
  replaced : (u : List ℕ) → suc e ≡ Y.base.prime → w ≡ map suc u → OnTheWay Y k e w

after_late : (Y : RowedPresentation) (k e : ℕ) (v u w t : List ℕ) → IsIrreducible Y (suc k) v → LateStep Y k e v u w t → OnTheWay Y k e w
after_late Y k e v u w t h (inside u' _ _ m q) = still_late v u' q h
after_late Y k e v u w t h (passes v' j _ _ m q r) =
    still_late v' (j ∷ (spelled (suc j) (commutator_side Y.base (suc (k + j)) k) ++ u)) q
    (λ o i a. h (o ++ j ∷ []) i
    (subst (λ (n : List ℕ). StepAt Y (suc k) n (o ++ j ∷ []) i) (sym m) (step-suffix Y (suc k) v' o i (j ∷ []) a)))
after_late Y k e v u w t h (full _ _ m c q r) = replaced (spelled 0 (power_side Y.base k) ++ u) c q

step-on_the_way : (Y : RowedPresentation) (k e : ℕ) (w z t : List ℕ) → 1 < Y.base.prime → e < Y.base.prime → StepAt Y k w z t
    → OnTheWay Y k e w → OnTheWay Y k e z
step-on_the_way Y k e w z t big l s (still_late v u q h) =
    after_late Y k e v u z t h (late_step Y k e v u z t big l h (subst (λ (x : List ℕ). StepAt Y k x z t) q s))
step-on_the_way Y k e w z t big l s (replaced u c q) =
    let r = step-behind Y k 0 u z t (omega arith) (omega arith) (subst (λ (x : List ℕ). StepAt Y k x z t) q s) in
    replaced r.word c r.word_is

run-on_the_way : (Y : RowedPresentation) (k e : ℕ) {c d : Configuration} → 1 < Y.base.prime → e < Y.base.prime → RunFrom Y k c d
    → OnTheWay Y k e c.word → OnTheWay Y k e d.word
run-on_the_way Y k e big l stop h = h
run-on_the_way Y k e big l (move {c} {d} s m) h =
    let q = placed_step Y k s in
    run-on_the_way Y k e big l m (step-on_the_way Y k e c.word d.word q.added big l q.step h)

module _ (Y : RowedPresentation) (big : 1 < Y.base.prime) (n k a b : ℕ) (s t : State) (a_below : a < Y.base.prime)
    (b_below : b < Y.base.prime)
    (s_state : IsState Y n s) where
  -- the generator itself
  own_after : RunFrom Y k (record { word = spelled 0 (a ∷ s.exponents) ++ 0 ∷ []; row = s.row }) (configuration_of (before b t))
      → b ≡ (a + 1) % Y.base.prime
  own_after m = at_end (run-on_the_way Y k a big a_below m (still_late (spelled 0 s.exponents) []
      (append_assoc (replicate a 0) (spelled 1 s.exponents) (0 ∷ [])
      ∙ ap (λ (w : List ℕ). replicate a 0 ++ (w ++ 0 ∷ [])) (spelled-suc 0 s.exponents))
      (spelled-irreducible Y (suc k) s.exponents (omega arith) s_state.exponents.below)))
    where
      at_end : OnTheWay Y k a (spelled 0 (b ∷ t.exponents)) → b ≡ (a + 1) % Y.base.prime
      at_end (still_late v u q h) =
          let x = same_late b a (spelled 0 t.exponents) v u
          (ap (λ (w : List ℕ). replicate b 0 ++ w) (sym (spelled-suc 0 t.exponents)) ∙ q) in
          let y : b ≡ a + 1 = x.1 ∙ (let z : suc a ≡ a + 1 = omega arith in z) in
          y ∙ sym (mod-eq_of_lt (let z : a + 1 < Y.base.prime = omega arith in z))
      at_end (replaced u c q) =
          let x = same_behind b 0 (spelled 0 t.exponents) u
          (ap (λ (w : List ℕ). replicate b 0 ++ w) (sym (spelled-suc 0 t.exponents)) ∙ q) in
          let y : a + 1 ≡ Y.base.prime = omega arith in
          x.0 ∙ sym (ap (λ (m : ℕ). m % Y.base.prime) y ∙ mod_self Y.base.prime)

-- the exponents of a push before an exponent that stays
after_before : (Y : RowedPresentation) (a b i : ℕ) (s t : State) → b ≡ a → ExponentsAfterPush Y s i t
    → ExponentsAfterPush Y (before a s) (suc i) (before b t)
after_before Y a b i s t e h = record { earlier = earlier_before; own = h.own }
  where
    earlier_before : (j : ℕ) → j < suc i → get_or (b ∷ t.exponents) j 0 ≡ get_or (a ∷ s.exponents) j 0
    earlier_before zero l = e
    earlier_before (suc j) l = h.earlier j (omega arith)

exponents_before : (Y : RowedPresentation) → 1 < Y.base.prime → (n k a b i : ℕ) (s t : State) → a < Y.base.prime → b < Y.base.prime
    → IsState Y n s → IsState Y n t
    → ((j : ℕ) → j < n → RunFrom Y (suc k) (record { word = spelled 0 s.exponents ++ j ∷ []; row = s.row }) (configuration_of t)
    → ExponentsAfterPush Y s j t)
    → i < suc n → RunFrom Y k (record { word = spelled 0 (a ∷ s.exponents) ++ i ∷ []; row = s.row }) (configuration_of (before b t))
    → ExponentsAfterPush Y (before a s) i (before b t)
exponents_before Y big n k a b zero s t l l' h h' rest m run = record {
  earlier = λ j q. absurd (omega arith);
  own = own_after Y big n k a b s t l l' h run;
}
exponents_before Y big n k a b (suc i) s t l l' h h' rest m run =
    let r = push-behind Y k a b s t i l run in
    after_before Y a b i s t r.0 (rest i (omega arith) r.1)

exponents_from : (Y : RowedPresentation) → 1 < Y.base.prime → (n k : ℕ) (s t : State) (i : ℕ) → IsState Y n s → IsState Y n t → i < n
    → RunFrom Y k (record { word = spelled 0 s.exponents ++ i ∷ []; row = s.row }) (configuration_of t) → ExponentsAfterPush Y s i t
exponents_from Y big zero k s t i h h' l m = absurd (omega arith)
exponents_from Y big (suc n) k s t i h h' l m =
    let x = is_before Y n s h in
    let y = is_before Y n t h' in
    let m' : RunFrom Y k (record { word = spelled 0 (x.exponent ∷ x.rest.exponents) ++ i ∷ []; row = x.rest.row })
    (configuration_of (before y.exponent y.rest)) =
    subst (λ (z : State). RunFrom Y k (record { word = spelled 0 z.exponents ++ i ∷ []; row = z.row })
    (configuration_of (before y.exponent y.rest))) x.same
    (subst (λ (z : State). RunFrom Y k (record { word = spelled 0 s.exponents ++ i ∷ []; row = s.row }) (configuration_of z)) y.same m) in
    subst (λ (z : State). ExponentsAfterPush Y z i t) (sym x.same)
    (subst (λ (z : State). ExponentsAfterPush Y (before x.exponent x.rest) i z) (sym y.same)
    (exponents_before Y big n k x.exponent y.exponent i x.rest y.rest x.below y.below x.state y.state
    (λ j q r. exponents_from Y big n (suc k) x.rest y.rest j x.state y.state q r) l m'))

pub earlier_exponents_are_final : EarlierExponentsAreFinal
earlier_exponents_are_final Y rowed s t i h l q =
    exponents_from Y rowed.base.prime Y.base.rank 0 s t i h q.state l (run-weaken (replacement_from Y) q.run)
