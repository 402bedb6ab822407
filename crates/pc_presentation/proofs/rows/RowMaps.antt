-- A map of rows that keeps sums and takes the rows of relations to those of another presentation with rows carries pushes
-- of the plain rule and directed runs. So exponents do not depend on rows.
use Rattle.std.proofs.Common.{◌≡◌, ℕ, zero, suc, ◌+◌, Bool, true, false, eqb, List, [], ◌∷◌, ◌++◌, map, get_or, replicate, refl, ap, sym}
use Rattle.std.proofs.Common.{◌∙◌, subst}
use Rattle.std.proofs.Math.ListN.{get_or-map}
use Rattle.pq_base.specs.Presentation.{power_side, commutator_side}
use Rattle.pc_presentation.specs.Rowed.{RowedPresentation, power_row, commutator_row, row_sum, without_rows}
use Rattle.pc_presentation.specs.Collection.{Configuration, State, Step, Replacement, DirectedRun, spelled, before, push_word}
use Rattle.pc_presentation.specs.Collection.{push_configuration, push_power, push_past, raise, plain_push_from}
use Rattle.pc_presentation.specs.Collection.Step.{replace}
use Rattle.pc_presentation.specs.Collection.Run.{stop, move}
use Rattle.pc_presentation.specs.Collection.Replacement.{swap, power}
use Rattle.pc_presentation.proofs.rows.FlatLaws.{nothing, no_rows}
use Rattle.pc_presentation.specs.CollectionLaws.{RowsAreCarried, AllRowsAreCarried, with_rows, RowMapsCarryPushes, RowMapsCarryRuns}

-- a state with its row mapped
abbrev pub mapped : (List ℕ → List ℕ) → State → State
mapped f s = record { exponents = s.exponents; row = f s.row }

-- pushes
module _ (Y : RowedPresentation) (f : List ℕ → List ℕ) (q : ℕ) (a : List (List ℕ)) (b : List (List (List ℕ)))
    (all : AllRowsAreCarried Y f (with_rows Y q a b)) where
  abbrev Z : RowedPresentation
  Z = with_rows Y q a b

  -- one push after another
  abbrev Carries : (State → ℕ → State) → (State → ℕ → State) → Type 0
  Carries push push' = (s : State) (i : ℕ) → push' (mapped f s) i ≡ mapped f (push s i)

  word-mapped : (push push' : State → ℕ → State) → Carries push push' → (s : State) (u : List ℕ)
      → push_word push' (mapped f s) u ≡ mapped f (push_word push s u)
  word-mapped push push' c s [] = refl
  word-mapped push push' c s (i ∷ u) = ap (λ (z : State). push_word push' z u) (c s i) ∙ word-mapped push push' c (push s i) u

  configuration-mapped : (push push' : State → ℕ → State) → Carries push push' → (s : State) (u x x' : List ℕ) → x' ≡ f x
      → push_configuration Z push' (mapped f s) (record { word = u; row = x' })
      ≡ mapped f (push_configuration Y push s (record { word = u; row = x }))
  configuration-mapped push push' c s u x x' e =
      ap (λ (y : List ℕ). push_configuration Z push' (mapped f s) (record { word = u; row = y })) e
      ∙ ap (λ (z : State). record { exponents = z.exponents; row = row_sum Y.base.prime z.row (f x) }) (word-mapped push push' c s u)
      ∙ ap (λ (y : List ℕ). record { exponents = (push_word push s u).exponents; row = y })
      (sym (all.carried.sums (push_word push s u).row x))

  power-mapped : (push push' : State → ℕ → State) → Carries push push' → (k : ℕ) (s : State)
      → push_power Z push' k (mapped f s) ≡ mapped f (push_power Y push k s)
  power-mapped push push' c k s =
      configuration-mapped push push' c s (spelled 0 (power_side Y.base k)) (power_row Y k) (power_row Z k) (all.powers k)

  past-mapped : (push push' : State → ℕ → State) → Carries push push' → (k : ℕ) → Carries (push_past Y push k) (push_past Z push' k)
  past-mapped push push' c k s j =
      let w : List ℕ = spelled (suc j) (commutator_side Y.base (suc (k + j)) k) in
      ap (λ (z : State). push_configuration Z push' z (record { word = w; row = commutator_row Z (suc (k + j)) k })) (c s j)
      ∙ configuration-mapped push push' c (push s j) w (commutator_row Y (suc (k + j)) k) (commutator_row Z (suc (k + j)) k)
      (all.commutators (suc (k + j)) k)

  raise-mapped : (t : Bool) (push push' : State → ℕ → State) → Carries push push' → (k e : ℕ) (s : State) (h : List ℕ)
      → raise t Z push' k e (mapped f s) h ≡ mapped f (raise t Y push k e s h)
  raise-mapped true push push' c k e s h =
      ap (λ (z : State). before 0 (push_word (push_past Z push' k) z (spelled 0 h))) (power-mapped push push' c k s)
      ∙ ap (before 0) (word-mapped (push_past Y push k) (push_past Z push' k) (past-mapped push push' c k) (push_power Y push k s)
      (spelled 0 h))
  raise-mapped false push push' c k e s h =
      ap (before (suc e)) (word-mapped (push_past Y push k) (push_past Z push' k) (past-mapped push push' c k) s (spelled 0 h))

  plain-mapped : (n k : ℕ) (h x : List ℕ) (i : ℕ) → plain_push_from Z n k h (f x) i ≡ mapped f (plain_push_from Y n k h x i)
  unfolding plain_push_from
  plain-mapped zero k h x i = refl
  plain-mapped (suc n) k [] x i = refl
  plain-mapped (suc n) k (e ∷ h) x (suc i) = ap (before e) (plain-mapped n (suc k) h x i)
  plain-mapped (suc n) k (e ∷ h) x zero =
      raise-mapped (eqb (suc e) Y.base.prime) (λ (s : State) (j : ℕ). plain_push_from Y n (suc k) s.exponents s.row j)
      (λ (s : State) (j : ℕ). plain_push_from Z n (suc k) s.exponents s.row j) (λ s j. plain-mapped n (suc k) s.exponents s.row j) k e
      (record { exponents = replicate n 0; row = x }) h

-- runs
module _ (Y : RowedPresentation) (f : List ℕ → List ℕ) (q : ℕ) (a : List (List ℕ)) (b : List (List (List ℕ)))
    (carried : RowsAreCarried Y f (with_rows Y q a b)) where
  abbrev W : RowedPresentation
  W = with_rows Y q a b

  replacement-mapped : {l r t : List ℕ} → Replacement Y l r t → Replacement W l r (f t)
  replacement-mapped (swap j i h m) =
      subst (λ (x : List ℕ). Replacement W (j ∷ i ∷ []) (i ∷ j ∷ spelled (suc j) (commutator_side Y.base j i)) x)
      (carried.commutators j i h m) (swap j i h m)
  replacement-mapped (power i h) =
      subst (λ (x : List ℕ). Replacement W (replicate Y.base.prime i) (spelled (suc i) (power_side Y.base i)) x) (carried.powers i h)
      (power i h)

  step-mapped : {c d : Configuration} → Step Y.base.prime (Replacement Y) c d
      → Step Y.base.prime (Replacement W) (record { word = c.word; row = f c.row }) (record { word = d.word; row = f d.row })
  step-mapped (replace u l r v t x h) =
      subst (λ (y : List ℕ). Step Y.base.prime (Replacement W) (record { word = u ++ (l ++ v); row = f x })
      (record { word = u ++ (r ++ v); row = y }))
      (sym (carried.sums x t)) (replace u l r v (f t) (f x) (replacement-mapped h))

  pub run-mapped : {c d : Configuration} → DirectedRun Y c d
      → DirectedRun W (record { word = c.word; row = f c.row }) (record { word = d.word; row = f d.row })
  run-mapped stop = stop
  run-mapped (move s m) = move (step-mapped s) (run-mapped m)

pub row_maps_carry_pushes : RowMapsCarryPushes
row_maps_carry_pushes Y f q a b all s i = plain-mapped Y f q a b all Y.base.rank 0 s.exponents s.row i

pub row_maps_carry_runs : RowMapsCarryRuns
row_maps_carry_runs Y f q a b carried c d m = run-mapped Y f q a b carried m

-- rows dropped
pub dropped_rows : (Y : RowedPresentation) → RowsAreCarried Y nothing (without_rows Y.base)
dropped_rows Y = record {
  sums = λ x y. refl;
  powers = λ i l. no_rows i Y.base.powers;
  commutators = λ j i l m.
      ap (λ (r : List (List ℕ)). get_or r i []) (get_or-map (λ (r : List (List ℕ)). map nothing r) Y.base.commutators j [])
      ∙ no_rows i (get_or Y.base.commutators j []);
}
