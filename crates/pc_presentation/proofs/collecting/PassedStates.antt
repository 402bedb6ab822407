-- One generator more: what becomes of a state of the later generators where the generator at place k passes it. Where the
-- relations of the later generators act there, and also on passed states, passing keeps products.
use Rattle.std.proofs.Common.{◌≡◌, ℕ, zero, suc, ◌+◌, ◌<◌, List, [], ◌∷◌, replicate, refl, ap, sym, ◌∙◌, subst, arith}
use Rattle.pq_base.specs.Table.{AllBelow}
use Rattle.pq_base.specs.Presentation.{IsNormal, power_side}
use Rattle.pc_presentation.specs.Rowed.{RowedPresentation, IsRowed, power_row}
use Rattle.pc_presentation.specs.Collection.{State, IsState, identity, spelled, configuration_of, add_row, before, push_word}
use Rattle.pc_presentation.specs.Collection.{push_configuration, push_power, push_past}
use Rattle.pc_presentation.proofs.rows.RowLaws.{zeros-row_sum, add_row-add_row, identity-state}
use Rattle.pc_presentation.proofs.collecting.PushLaws.{Rides, Acts, push_word-add_row, push_configuration-add_row, push_word-keeps}
use Rattle.pc_presentation.proofs.collecting.PushLaws.{run-acts}
use Rattle.pc_presentation.proofs.collecting.PlainRule.{plain, plain-later_word, spelled-suc, plain-raise, plain-carry, plain-rides}
use Rattle.pc_presentation.proofs.collecting.PlainRule.{plain-state, push_past-rides, push_past-state, push_power-state}
use Rattle.pc_presentation.proofs.collecting.RunLaws.{ReplacementFrom}
use Rattle.pc_presentation.proofs.collecting.PlainRuns.{plain-run, AllBelow-spelled}
use Rattle.pc_presentation.proofs.collecting.StateProducts.{star, RelationsAct, star-identity_left, star-identity_right}
use Rattle.pc_presentation.proofs.collecting.StateProducts.{push_configuration-identity, star-add_row, push_configuration-snoc}
use Rattle.pc_presentation.proofs.collecting.StateProducts.{push_configuration-state, star-push_power, star-push_past, star-assoc}
use Rattle.pc_presentation.proofs.collecting.StateProducts.{push_word-star, push-star}

-- a letter of the later generators, passed
abbrev pub past : RowedPresentation → ℕ → ℕ → State → ℕ → State
past Y n k s j = push_past Y (plain Y n (suc k)) k s j

-- a state of the later generators, passed
abbrev pub passed : RowedPresentation → ℕ → ℕ → State → State
passed Y n k s = push_configuration Y (past Y n k) (identity Y n) (configuration_of s)

-- passed m times
abbrev pub passed_times : RowedPresentation → ℕ → ℕ → ℕ → State → State
passed_times Y n k zero s = s
passed_times Y n k (suc m) s = passed_times Y n k m (passed Y n k s)

-- the right side of the power of the generator
abbrev pub full_power : RowedPresentation → ℕ → ℕ → State
full_power Y n k = push_power Y (plain Y n (suc k)) k (identity Y n)

pub past-rides : (Y : RowedPresentation) (n k : ℕ) → Rides Y.base.prime (past Y n k)
past-rides Y n k = push_past-rides Y (plain Y n (suc k)) k (plain-rides Y n (suc k))

-- the state of zeros with another row
start_row : (Y : RowedPresentation) (n : ℕ) (x : List ℕ) → IsNormal Y.base.prime Y.width x
    → record { exponents = replicate n 0; row = x } ≡ add_row Y.base.prime x (identity Y n)
start_row Y n x h = ap (λ (y : List ℕ). record { exponents = replicate n 0; row = y }) (sym (zeros-row_sum Y.base.prime Y.width x h))

module _ (Y : RowedPresentation) (rowed : IsRowed Y) (positive : 0 < Y.base.prime) (n k : ℕ) where
  pub past-state : (s : State) (j : ℕ) → IsState Y n s → IsState Y n (past Y n k s j)
  past-state s j h = push_past-state Y rowed positive n (plain Y n (suc k)) k (plain-state Y rowed positive n (suc k)) s j h

  pub passed-state : (s : State) → IsState Y n s → IsState Y n (passed Y n k s)
  passed-state s h =
      push_configuration-state Y rowed positive n (suc k) (past Y n k) past-state (identity Y n) s (identity-state Y n positive) h

  pub full_power-state : IsState Y n (full_power Y n k)
  full_power-state =
      push_power-state Y rowed positive n (plain Y n (suc k)) k (plain-state Y rowed positive n (suc k)) (identity Y n)
      (identity-state Y n positive)

  pub passed_times-state : (m : ℕ) (s : State) → IsState Y n s → IsState Y n (passed_times Y n k m s)
  passed_times-state zero s h = h
  passed_times-state (suc m) s h = passed_times-state m (passed Y n k s) (passed-state s h)

  pub passed-identity : passed Y n k (identity Y n) ≡ identity Y n
  passed-identity = push_configuration-identity Y (past Y n k) n n (identity Y n) (identity-state Y n positive)

  pub passed-add_row : (x : List ℕ) (s : State) → passed Y n k (add_row Y.base.prime x s) ≡ add_row Y.base.prime x (passed Y n k s)
  passed-add_row x s = sym (add_row-add_row Y.base.prime x s.row (push_word (past Y n k) (identity Y n) (spelled 0 s.exponents)))

  pub passed_times-identity : (m : ℕ) → passed_times Y n k m (identity Y n) ≡ identity Y n
  passed_times-identity zero = refl
  passed_times-identity (suc m) = ap (passed_times Y n k m) passed-identity ∙ passed_times-identity m

  pub passed_times-add_row : (m : ℕ) (x : List ℕ) (s : State)
      → passed_times Y n k m (add_row Y.base.prime x s) ≡ add_row Y.base.prime x (passed_times Y n k m s)
  passed_times-add_row zero x s = refl
  passed_times-add_row (suc m) x s = ap (passed_times Y n k m) (passed-add_row x s) ∙ passed_times-add_row m x (passed Y n k s)

  pub passed_times-add : (a b : ℕ) (s : State) → passed_times Y n k (a + b) s ≡ passed_times Y n k b (passed_times Y n k a s)
  passed_times-add zero b s = ap (λ (m : ℕ). passed_times Y n k m s) (let e : 0 + b ≡ b = omega arith in e)
  passed_times-add (suc a) b s =
      ap (λ (m : ℕ). passed_times Y n k m s) (let e : suc a + b ≡ suc (a + b) = omega arith in e) ∙ passed_times-add a b (passed Y n k s)

  -- the generator pushed before its exponent is full
  pub first-raise : (e : ℕ) (s : State) → suc e < Y.base.prime → IsState Y n s
      → plain Y (suc n) k (before e s) 0 ≡ before (suc e) (passed Y n k s)
  first-raise e s l h =
      plain-raise Y n k e s l
      ∙ ap (λ (z : State). before (suc e) (push_word (past Y n k) z (spelled 0 s.exponents))) (start_row Y n s.row h.row)
      ∙ ap (before (suc e)) (push_word-add_row Y.base.prime (past Y n k) (past-rides Y n k) s.row (identity Y n) (spelled 0 s.exponents))

  -- the generator pushed where its exponent gets full
  pub first-full : (e : ℕ) (s : State) → suc e ≡ Y.base.prime → IsState Y n s
      → plain Y (suc n) k (before e s) 0 ≡ before 0 (push_configuration Y (past Y n k) (full_power Y n k) (configuration_of s))
  first-full e s l h =
      plain-carry Y n k e s l
      ∙ ap (λ (z : State). before 0 (push_word (past Y n k) (push_power Y (plain Y n (suc k)) k z) (spelled 0 s.exponents)))
      (start_row Y n s.row h.row)
      ∙ ap (λ (z : State). before 0 (push_word (past Y n k) z (spelled 0 s.exponents)))
      (push_configuration-add_row Y (plain Y n (suc k)) (plain-rides Y n (suc k)) s.row (identity Y n)
      (record { word = spelled 0 (power_side Y.base k); row = power_row Y k }))
      ∙ ap (before 0) (push_word-add_row Y.base.prime (past Y n k) (past-rides Y n k) s.row (full_power Y n k) (spelled 0 s.exponents))

  -- pushed until then
  pub first-times : (e m f : ℕ) (s : State) → e + m ≡ f → f < Y.base.prime → IsState Y n s
      → push_word (plain Y (suc n) k) (before e s) (replicate m 0) ≡ before f (passed_times Y n k m s)
  first-times e zero f s q l h = ap (λ (z : ℕ). before z s) (let g : e ≡ f = omega arith in g)
  first-times e (suc m) f s q l h =
      ap (λ (z : State). push_word (plain Y (suc n) k) z (replicate m 0)) (first-raise e s (omega arith) h)
      ∙ first-times (suc e) m f (passed Y n k s) (omega arith) l (passed-state s h)

  module _ (size : suc k + n ≡ Y.base.rank) (acts : RelationsAct Y n (suc k)) where
    pub past-word : (s : State) (u : List ℕ) → IsState Y n s
        → push_word (past Y n k) s u ≡ star Y n (suc k) s (push_word (past Y n k) (identity Y n) u)
    past-word s u h =
        push_word-star Y rowed positive n (suc k) size acts (past Y n k) past-state
        (star-push_past Y rowed positive n (suc k) size acts k) s u h

    -- the product with a passed state
    pub star-passed : (s t : State) → IsState Y n s
        → push_configuration Y (past Y n k) s (configuration_of t) ≡ star Y n (suc k) s (passed Y n k t)
    star-passed s t h =
        ap (add_row Y.base.prime t.row) (past-word s (spelled 0 t.exponents) h)
        ∙ sym (star-add_row Y n (suc k) t.row s (push_word (past Y n k) (identity Y n) (spelled 0 t.exponents)))

    -- the generator pushed where its exponent gets full
    pub first-carry : (e : ℕ) (s : State) → suc e ≡ Y.base.prime → IsState Y n s
        → plain Y (suc n) k (before e s) 0 ≡ before 0 (star Y n (suc k) (full_power Y n k) (passed Y n k s))
    first-carry e s l h = first-full e s l h ∙ ap (before 0) (star-passed (full_power Y n k) s full_power-state)

    -- the right side of the power pushed behind an exponent
    pub power-end : (e : ℕ) (s : State) → IsState Y n s
        → add_row Y.base.prime (power_row Y k) (push_word (plain Y (suc n) k) (before e s) (spelled 1 (power_side Y.base k)))
        ≡ before e (star Y n (suc k) s (full_power Y n k))
    power-end e s h =
        ap (λ (u : List ℕ). add_row Y.base.prime (power_row Y k) (push_word (plain Y (suc n) k) (before e s) u))
        (spelled-suc 0 (power_side Y.base k))
        ∙ ap (add_row Y.base.prime (power_row Y k)) (plain-later_word Y n k e s (spelled 0 (power_side Y.base k)))
        ∙ ap (before e)
        (ap (push_power Y (plain Y n (suc k)) k) (sym (star-identity_right Y n (suc k) s h))
        ∙ sym (star-push_power Y rowed positive n (suc k) size acts k s (identity Y n) h (identity-state Y n positive)))

    module _ (passed_acts : Acts Y.base.prime (past Y n k) (IsState Y n) (ReplacementFrom Y (suc k))) where
      pub passed-push : (s : State) (j : ℕ) → IsState Y n s → j < n → passed Y n k (plain Y n (suc k) s j) ≡ past Y n k (passed Y n k s) j
      passed-push s j h l =
          sym (run-acts Y (past Y n k) (IsState Y n) (ReplacementFrom Y (suc k)) (past-rides Y n k) past-state passed_acts
          (plain-run Y rowed positive n (suc k) size s j h l) (identity Y n) (identity-state Y n positive))
          ∙ push_configuration-snoc Y (past Y n k) (past-rides Y n k) (identity Y n) (spelled 0 s.exponents) s.row j

      passed-push_word : (s : State) (u : List ℕ) → IsState Y n s → AllBelow n u
          → passed Y n k (push_word (plain Y n (suc k)) s u) ≡ push_word (past Y n k) (passed Y n k s) u
      passed-push_word s [] h b = refl
      passed-push_word s (j ∷ u) h b =
          passed-push_word (plain Y n (suc k) s j) u (plain-state Y rowed positive n (suc k) s j h) b.1
          ∙ ap (λ (z : State). push_word (past Y n k) z u) (passed-push s j h b.0)

      pub passed-star : (s t : State) → IsState Y n s → IsState Y n t
          → passed Y n k (star Y n (suc k) s t) ≡ star Y n (suc k) (passed Y n k s) (passed Y n k t)
      passed-star s t h v =
          let c = v.exponents.count in
          passed-add_row t.row (push_word (plain Y n (suc k)) s (spelled 0 t.exponents))
          ∙ ap (add_row Y.base.prime t.row) (passed-push_word s (spelled 0 t.exponents) h (AllBelow-spelled n 0 t.exponents (omega arith)))
          ∙ star-passed (passed Y n k s) t (passed-state s h)

      pub passed_times-star : (m : ℕ) (s t : State) → IsState Y n s → IsState Y n t
          → passed_times Y n k m (star Y n (suc k) s t) ≡ star Y n (suc k) (passed_times Y n k m s) (passed_times Y n k m t)
      passed_times-star zero s t h v = refl
      passed_times-star (suc m) s t h v =
          ap (passed_times Y n k m) (passed-star s t h v)
          ∙ passed_times-star m (passed Y n k s) (passed Y n k t) (passed-state s h) (passed-state t v)

      -- where it is so at each generator, the full power turns each state round
      module _ (turns : (j : ℕ) → j < n
          → star Y n (suc k) (full_power Y n k) (passed_times Y n k Y.base.prime (plain Y n (suc k) (identity Y n) j))
          ≡ star Y n (suc k) (plain Y n (suc k) (identity Y n) j) (full_power Y n k)) where
        abbrev Turns : State → Type 0
        Turns s = star Y n (suc k) (full_power Y n k) (passed_times Y n k Y.base.prime s) ≡ star Y n (suc k) s (full_power Y n k)

        turn-push : (s : State) (j : ℕ) → IsState Y n s → j < n → Turns s → Turns (plain Y n (suc k) s j)
        turn-push s j h l e =
            let p : ℕ = Y.base.prime in
            let w : State = full_power Y n k in
            let g : State = plain Y n (suc k) (identity Y n) j in
            let gs : IsState Y n (plain Y n (suc k) (identity Y n) j) =
            plain-state Y rowed positive n (suc k) (identity Y n) j (identity-state Y n positive) in
            let ss = passed_times-state Y.base.prime s h in
            let ps : plain Y n (suc k) s j ≡ star Y n (suc k) s (plain Y n (suc k) (identity Y n) j) =
            push-star Y rowed positive n (suc k) size acts s j h in
            ap (λ (z : State). star Y n (suc k) (full_power Y n k) (passed_times Y n k Y.base.prime z)) ps
            ∙ ap (star Y n (suc k) (full_power Y n k)) (passed_times-star Y.base.prime s g h gs)
            ∙ sym (star-assoc Y rowed positive n (suc k) size acts w (passed_times Y n k Y.base.prime s)
            (passed_times Y n k Y.base.prime g) full_power-state ss)
            ∙ ap (λ (z : State). star Y n (suc k) z (passed_times Y n k Y.base.prime (plain Y n (suc k) (identity Y n) j))) e
            ∙ star-assoc Y rowed positive n (suc k) size acts s w (passed_times Y n k Y.base.prime g) h full_power-state
            ∙ ap (star Y n (suc k) s) (turns j l)
            ∙ sym (star-assoc Y rowed positive n (suc k) size acts s g w h gs)
            ∙ ap (λ (z : State). star Y n (suc k) z (full_power Y n k)) (sym ps)

        turn-push_word : (s : State) (u : List ℕ) → IsState Y n s → AllBelow n u → Turns s → Turns (push_word (plain Y n (suc k)) s u)
        turn-push_word s [] h b e = e
        turn-push_word s (j ∷ u) h b e =
            turn-push_word (plain Y n (suc k) s j) u (plain-state Y rowed positive n (suc k) s j h) b.1 (turn-push s j h b.0 e)

        turn-add_row : (x : List ℕ) (s : State) → IsState Y n s → Turns s → Turns (add_row Y.base.prime x s)
        turn-add_row x s h e =
            let w : State = full_power Y n k in
            ap (star Y n (suc k) w) (passed_times-add_row Y.base.prime x s)
            ∙ star-add_row Y n (suc k) x w (passed_times Y n k Y.base.prime s)
            ∙ ap (add_row Y.base.prime x) e
            ∙ sym (push_configuration-add_row Y (plain Y n (suc k)) (plain-rides Y n (suc k)) x s (configuration_of (full_power Y n k)))

        pub full_power-turns : (s : State) → IsState Y n s
            → star Y n (suc k) (full_power Y n k) (passed_times Y n k Y.base.prime s) ≡ star Y n (suc k) s (full_power Y n k)
        full_power-turns s h =
            let c = h.exponents.count in
            let w : State = full_power Y n k in
            let at_identity : Turns (identity Y n) =
            ap (star Y n (suc k) w) (passed_times-identity Y.base.prime)
            ∙ star-identity_right Y n (suc k) w full_power-state
            ∙ sym (star-identity_left Y n (suc k) w full_power-state) in
            let u : List ℕ = spelled 0 s.exponents in
            let built : Turns (push_word (plain Y n (suc k)) (identity Y n) u) =
            turn-push_word (identity Y n) u (identity-state Y n positive) (AllBelow-spelled n 0 s.exponents (omega arith)) at_identity in
            let whole : Turns (star Y n (suc k) (identity Y n) s) =
            turn-add_row s.row (push_word (plain Y n (suc k)) (identity Y n) u)
            (push_word-keeps (plain Y n (suc k)) (IsState Y n) (plain-state Y rowed positive n (suc k)) (identity Y n) u
            (identity-state Y n positive)) built in
            subst (λ (z : State). Turns z) (star-identity_left Y n (suc k) s h) whole
