-- Where the relations of the later generators act on their states, each run that pushes a letter on a state of one
-- generator more ends where the plain rule does. Along the run the word keeps one of two shapes, each with a value.
use Rattle.std.proofs.Common.{◌≡◌, ℕ, zero, suc, ◌+◌, ◌<◌, List, [], ◌∷◌, ◌++◌, map, replicate, refl, ap, sym, ◌∙◌, subst, arith}
use Rattle.std.proofs.Common.{append_assoc, inl, inr}
use Rattle.std.proofs.lemmas.List.{map-append}
use Rattle.std.proofs.lemmas.Bool.{cases_lt}
use Rattle.pq_base.specs.Presentation.{power_side, commutator_side}
use Rattle.pc_presentation.specs.Rowed.{RowedPresentation, IsRowed, power_row, commutator_row, row_sum}
use Rattle.pc_presentation.specs.Collection.{Configuration, State, IsState, identity, spelled, configuration_of, add_row, before, push_word}
use Rattle.pc_presentation.specs.Collection.{push_configuration}
use Rattle.pc_presentation.specs.Collection.Run.{stop, move}
use Rattle.pc_presentation.proofs.rows.RowLaws.{identity-state, add_row-add_row, row_sum-comm, is_before}
use Rattle.pc_presentation.proofs.collecting.PushLaws.{push_word-append, push_word-add_row, push_word-keeps, step-acts}
use Rattle.pc_presentation.proofs.collecting.PlainRule.{plain, plain-later, plain-rides, plain-state, spelled-suc, push-configuration_of}
use Rattle.pc_presentation.proofs.collecting.RunLaws.{ReplacementFrom, RunFrom}
use Rattle.pc_presentation.proofs.collecting.StateProducts.{RelationsAct, push_configuration-snoc}
use Rattle.pc_presentation.proofs.collecting.PassedStates.{past, full_power, past-state, full_power-state, first-raise, first-full}
use Rattle.pc_presentation.proofs.collecting.StepPlaces.{StepAt, IsIrreducible, step-suffix, PlacedStep, placed_step, step_of_place}
use Rattle.pc_presentation.proofs.collecting.StepShapes.{step-behind, map-injective, spelled-irreducible}
use Rattle.pc_presentation.proofs.collecting.PassShapes.{late, LateStep, late_step}
use Rattle.pc_presentation.proofs.collecting.PassShapes.LateStep.{inside, passes, full}

-- what the exponent of the generator becomes, and what its push begins with
data Begins (Y : RowedPresentation) (n k e : ℕ) : ℕ → State → Type 0 where
  raised : suc e < Y.base.prime → Begins Y n k e (suc e) (identity Y n)
  filled : suc e ≡ Y.base.prime → Begins Y n k e 0 (full_power Y n k)

-- the two shapes: without a late copy of the generator, and with one
data Shape (Y : RowedPresentation) (n k : ℕ) (value : State) (c : Configuration) : Type 0 where
  early_shape : (e : ℕ) (u : List ℕ) → c.word ≡ replicate e 0 ++ map suc u → e < Y.base.prime
      → value ≡ before e (push_configuration Y (plain Y n (suc k)) (identity Y n) (record { word = u; row = c.row }))
      → Shape Y n k value c
  late_shape : (e f : ℕ) (v u : List ℕ) (s : State) → c.word ≡ late e v u → e < Y.base.prime → IsIrreducible Y (suc k) v
      → Begins Y n k e f s
      → value ≡ before f (push_configuration Y (plain Y n (suc k)) (push_word (past Y n k) s v) (record { word = u; row = c.row }))
      → Shape Y n k value c

-- words of one shape that are equal
pub same_behind : (e f : ℕ) (u v : List ℕ) → replicate e 0 ++ map suc u ≡ replicate f 0 ++ map suc v → (e ≡ f) × (u ≡ v)
same_behind zero zero u v q = (refl, map-injective u v q)
same_behind zero (suc f) [] v q = cc
same_behind zero (suc f) (x ∷ u) v q = cc
same_behind (suc e) zero u [] q = cc
same_behind (suc e) zero u (x ∷ v) q = cc
same_behind (suc e) (suc f) u v q =
    let h : replicate e 0 ++ map suc u ≡ replicate f 0 ++ map suc v = cc in
    let r = same_behind e f u v h in
    (ap suc r.0, r.1)

never_late : (w v u : List ℕ) → map suc w ≡ map suc v ++ 0 ∷ map suc u → ⊥
never_late [] [] u q = cc
never_late [] (y ∷ v) u q = cc
never_late (x ∷ w) [] u q = cc
never_late (x ∷ w) (y ∷ v) u q = let h : map suc w ≡ map suc v ++ 0 ∷ map suc u = cc in never_late w v u h

pub same_late : (e f : ℕ) (w v u : List ℕ) → replicate e 0 ++ map suc w ≡ late f v u → (v ≡ []) × (e ≡ suc f) × (w ≡ u)
same_late zero zero w v u q = absurd (never_late w v u q)
same_late zero (suc f) [] v u q = cc
same_late zero (suc f) (x ∷ w) v u q = cc
same_late (suc e) zero w [] u q =
    let h : replicate e 0 ++ map suc w ≡ replicate 0 0 ++ map suc u = cc in
    let r = same_behind e 0 w u h in
    (refl, ap suc r.0, r.1)
same_late (suc e) zero w (x ∷ v) u q = cc
same_late (suc e) (suc f) w v u q =
    let h : replicate e 0 ++ map suc w ≡ late f v u = cc in
    let r = same_late e f w v u h in
    (r.0, ap suc r.1, r.2)

module _ (Y : RowedPresentation) (rowed : IsRowed Y) (big : 1 < Y.base.prime) (n k : ℕ) (acts : RelationsAct Y n (suc k)) where
  positive : 0 < Y.base.prime
  positive = omega arith

  -- a replacement between letters that are pushed on a state of the later generators
  push-step : (s : State) (u v x t : List ℕ) → IsState Y n s → StepAt Y (suc k) u v t
      → push_configuration Y (plain Y n (suc k)) s (record { word = u; row = x })
      ≡ push_configuration Y (plain Y n (suc k)) s (record { word = v; row = row_sum Y.base.prime x t })
  push-step s u v x t h m =
      step-acts Y (plain Y n (suc k)) (IsState Y n) (ReplacementFrom Y (suc k)) (plain-rides Y n (suc k))
      (plain-state Y rowed (omega arith) n (suc k)) acts
      (step_of_place Y (suc k) u v x t m) s h

  begins-state : (e f : ℕ) (s : State) → Begins Y n k e f s → IsState Y n s
  begins-state e _ _ (raised l) = identity-state Y n (omega arith)
  begins-state e _ _ (filled l) = full_power-state Y rowed (omega arith) n k

  -- a row that comes out of the pushes
  push-with_row : (s : State) (u x t : List ℕ)
      → push_configuration Y (plain Y n (suc k)) (add_row Y.base.prime t s) (record { word = u; row = x })
      ≡ push_configuration Y (plain Y n (suc k)) s (record { word = u; row = row_sum Y.base.prime x t })
  push-with_row s u x t =
      ap (add_row Y.base.prime x) (push_word-add_row Y.base.prime (plain Y n (suc k)) (plain-rides Y n (suc k)) t s u)
      ∙ add_row-add_row Y.base.prime x t (push_word (plain Y n (suc k)) s u)
      ∙ ap (λ (z : List ℕ). add_row Y.base.prime z (push_word (plain Y n (suc k)) s u)) (row_sum-comm Y.base.prime t x)

  -- each step keeps the shape and the value
  late_shape-step : (value : State) (e f : ℕ) (v u x : List ℕ) (s : State) (w t y : List ℕ) → e < Y.base.prime → IsIrreducible Y (suc k) v
      → Begins Y n k e f s
      → value ≡ before f (push_configuration Y (plain Y n (suc k)) (push_word (past Y n k) s v) (record { word = u; row = x }))
      → y ≡ row_sum Y.base.prime x t → LateStep Y k e v u w t → Shape Y n k value (record { word = w; row = y })
  late_shape-step value e f v u x s w t y l irreducible b q g (inside u' _ _ m h) =
      let state = push_word-keeps (past Y n k) (IsState Y n) (past-state Y rowed (omega arith) n k) s v (begins-state e f s b) in
      late_shape e f v u' s h l irreducible b
      (q ∙ ap (before f) (push-step (push_word (past Y n k) s v) u u' x t state m
      ∙ ap (λ (z : List ℕ). push_configuration Y (plain Y n (suc k)) (push_word (past Y n k) s v) (record { word = u'; row = z })) (sym g)))
  late_shape-step value e f v u x s w t y l irreducible b q g (passes v' j _ _ m h r) =
      let side : List ℕ = spelled (suc j) (commutator_side Y.base (suc (k + j)) k) in
      let row : List ℕ = commutator_row Y (suc (k + j)) k in
      let z : State = push_word (past Y n k) s v' in
      let irreducible' : IsIrreducible Y (suc k) v' =
      λ o i a. irreducible (o ++ j ∷ []) i
      (subst (λ (n : List ℕ). StepAt Y (suc k) n (o ++ j ∷ []) i) (sym m) (step-suffix Y (suc k) v' o i (j ∷ []) a)) in
      late_shape e f v' (j ∷ (side ++ u)) s h l irreducible' b
      (q ∙ ap (before f)
      (ap (λ (o : List ℕ). push_configuration Y (plain Y n (suc k)) (push_word (past Y n k) s o) (record { word = u; row = x })) m
      ∙ ap (λ (o : State). push_configuration Y (plain Y n (suc k)) o (record { word = u; row = x }))
      (push_word-append (past Y n k) s v' (j ∷ []))
      ∙ push-with_row (push_word (plain Y n (suc k)) (plain Y n (suc k) z j) side) u x row
      ∙ ap (λ (o : State). add_row Y.base.prime (row_sum Y.base.prime x row) o)
      (sym (push_word-append (plain Y n (suc k)) (plain Y n (suc k) z j) side u))
      ∙ ap (λ (o : List ℕ). push_configuration Y (plain Y n (suc k)) (push_word (past Y n k) s v')
      (record { word = j ∷ (spelled (suc j) (commutator_side Y.base (suc (k + j)) k) ++ u); row = o }))
      (ap (row_sum Y.base.prime x) (sym r) ∙ sym g)))
  late_shape-step value e _ v u x _ w t y l irreducible (raised b) q g (full _ _ m c h r) = absurd (omega arith)
  late_shape-step value e _ v u x _ w t y l irreducible (filled b) q g (full _ _ m c h r) =
      let side : List ℕ = spelled 0 (power_side Y.base k) in
      let row : List ℕ = power_row Y k in
      early_shape 0 (side ++ u) h (omega arith)
      (q ∙ ap (before 0)
      (ap (λ (o : List ℕ). push_configuration Y (plain Y n (suc k)) (push_word (past Y n k) (full_power Y n k) o)
      (record { word = u; row = x })) m
      ∙ push-with_row (push_word (plain Y n (suc k)) (identity Y n) side) u x row
      ∙ ap (add_row Y.base.prime (row_sum Y.base.prime x row)) (sym (push_word-append (plain Y n (suc k)) (identity Y n) side u))
      ∙ ap (λ (o : List ℕ). push_configuration Y (plain Y n (suc k)) (identity Y n)
      (record { word = spelled 0 (power_side Y.base k) ++ u; row = o }))
      (ap (row_sum Y.base.prime x) (sym r) ∙ sym g)))

  shape-place : (value : State) (c d : Configuration) → PlacedStep Y k c d → Shape Y n k value c → Shape Y n k value d
  shape-place value c d m (early_shape e u h l q) =
      let s : StepAt Y k (replicate e 0 ++ map suc u) d.word m.added = subst (λ (w : List ℕ). StepAt Y k w d.word m.added) h m.step in
      let r = step-behind Y k e u d.word m.added (omega arith) l s in
      early_shape e r.word r.word_is l
      (q ∙ ap (before e) (push-step (identity Y n) u r.word c.row m.added (identity-state Y n (omega arith)) r.step
      ∙ ap (λ (z : List ℕ). push_configuration Y (plain Y n (suc k)) (identity Y n) (record { word = r.word; row = z })) (sym m.row_is)))
  shape-place value c d m (late_shape e f v u s h l irreducible b q) =
      let o : StepAt Y k (late e v u) d.word m.added = subst (λ (w : List ℕ). StepAt Y k w d.word m.added) h m.step in
      late_shape-step value e f v u c.row s d.word m.added d.row l irreducible b q m.row_is
      (late_step Y k e v u d.word m.added big l irreducible o)

  shape-run : (value : State) {c d : Configuration} → RunFrom Y k c d → Shape Y n k value c → Shape Y n k value d
  shape-run value stop h = h
  shape-run value (move {c} {d} s m) h = shape-run value m (shape-place value c d (placed_step Y k s) h)

  -- at the start
  shape-start : (e : ℕ) (r : State) (i : ℕ) → e < Y.base.prime → IsState Y n r
      → Shape Y n k (plain Y (suc n) k (before e r) i) (record { word = spelled 0 (e ∷ r.exponents) ++ i ∷ []; row = r.row })
  shape-start e r (suc i) l h =
      early_shape e (spelled 0 r.exponents ++ i ∷ [])
      (append_assoc (replicate e 0) (spelled 1 r.exponents) (suc i ∷ [])
      ∙ ap (λ (w : List ℕ). replicate e 0 ++ (w ++ suc i ∷ [])) (spelled-suc 0 r.exponents)
      ∙ ap (λ (w : List ℕ). replicate e 0 ++ w) (sym (map-append suc (spelled 0 r.exponents) (i ∷ []))))
      l
      (plain-later Y n k e r i
      ∙ ap (before e) (ap (λ (z : State). plain Y n (suc k) z i) (sym (push-configuration_of Y n (suc k) r h))
      ∙ sym (push_configuration-snoc Y (plain Y n (suc k)) (plain-rides Y n (suc k)) (identity Y n) (spelled 0 r.exponents) r.row i)))
  shape-start e r zero l h =
      let words : spelled 0 (e ∷ r.exponents) ++ 0 ∷ [] ≡ late e (spelled 0 r.exponents) [] =
      append_assoc (replicate e 0) (spelled 1 r.exponents) (0 ∷ [])
      ∙ ap (λ (w : List ℕ). replicate e 0 ++ (w ++ 0 ∷ [])) (spelled-suc 0 r.exponents) in
      let irreducible : IsIrreducible Y (suc k) (spelled 0 r.exponents) =
      spelled-irreducible Y (suc k) r.exponents (omega arith) h.exponents.below in
      elim (cases_lt (suc e) Y.base.prime) [
        | inl a ↦ late_shape e (suc e) (spelled 0 r.exponents) [] (identity Y n) words l irreducible (raised a)
            (first-raise Y rowed (omega arith) n k e r a h)
        | inr a ↦ late_shape e 0 (spelled 0 r.exponents) [] (full_power Y n k) words l irreducible (filled (omega arith))
            (first-full Y rowed (omega arith) n k e r (omega arith) h)
      ]

  -- at the end
  shape-end : (value : State) (e : ℕ) (r : State) → e < Y.base.prime → IsState Y n r → Shape Y n k value (configuration_of (before e r))
      → before e r ≡ value
  shape-end value e r l h (early_shape f u q m g) =
      let x = same_behind e f (spelled 0 r.exponents) u (ap (λ (w : List ℕ). replicate e 0 ++ w) (sym (spelled-suc 0 r.exponents)) ∙ q) in
      sym (g ∙ ap (λ (z : ℕ). before z (push_configuration Y (plain Y n (suc k)) (identity Y n) (record { word = u; row = r.row })))
      (sym x.0)
      ∙ ap (λ (z : List ℕ). before e (push_configuration Y (plain Y n (suc k)) (identity Y n) (record { word = z; row = r.row }))) (sym x.1)
      ∙ ap (before e) (push-configuration_of Y n (suc k) r h))
  shape-end value e r l h (late_shape f c v u s q m irreducible b g) =
      let x = same_late e f (spelled 0 r.exponents) v u (ap (λ (w : List ℕ). replicate e 0 ++ w) (sym (spelled-suc 0 r.exponents)) ∙ q) in
      let e_is : e ≡ suc f = x.1 in
      by_beginning c s b
      (g ∙ ap (λ (z : List ℕ).
      before c (push_configuration Y (plain Y n (suc k)) (push_word (past Y n k) s z) (record { word = u; row = r.row }))) x.0
      ∙ ap (λ (z : List ℕ). before c (push_configuration Y (plain Y n (suc k)) s (record { word = z; row = r.row }))) (sym x.2))
      e_is
    where
      by_beginning : (c : ℕ) (s : State) → Begins Y n k f c s
          → value ≡ before c (push_configuration Y (plain Y n (suc k)) s (record { word = spelled 0 r.exponents; row = r.row })) → e ≡ suc f
          → before e r ≡ value
      by_beginning _ _ (raised a) g e_is =
          sym (g ∙ ap (λ (z : ℕ). before z (push_configuration Y (plain Y n (suc k)) (identity Y n) (configuration_of r))) (sym e_is)
          ∙ ap (before e) (push-configuration_of Y n (suc k) r h))
      by_beginning _ _ (filled a) g e_is = absurd (omega arith)

  -- each run is the plain rule's
  pub any_run : (s t : State) (i : ℕ) → IsState Y (suc n) s → IsState Y (suc n) t
      → RunFrom Y k (record { word = spelled 0 s.exponents ++ i ∷ []; row = s.row }) (configuration_of t) → t ≡ plain Y (suc n) k s i
  any_run s t i h v m =
      let b = is_before Y n s h in
      let c = is_before Y n t v in
      let m' : RunFrom Y k (record { word = spelled 0 (b.exponent ∷ b.rest.exponents) ++ i ∷ []; row = b.rest.row })
      (configuration_of (before c.exponent c.rest)) =
      subst (λ (z : State). RunFrom Y k (record { word = spelled 0 z.exponents ++ i ∷ []; row = z.row })
      (configuration_of (before c.exponent c.rest))) b.same
      (subst (λ (z : State). RunFrom Y k (record { word = spelled 0 s.exponents ++ i ∷ []; row = s.row }) (configuration_of z)) c.same m) in
      c.same
      ∙ shape-end (plain Y (suc n) k (before b.exponent b.rest) i) c.exponent c.rest c.below c.state
      (shape-run (plain Y (suc n) k (before b.exponent b.rest) i) m' (shape-start b.exponent b.rest i b.below b.state))
      ∙ ap (λ (z : State). plain Y (suc n) k z i) (sym b.same)
