-- A presentation whose rows are carried along a map is a presentation with rows, and directed runs, pushes and chains of
-- pushes are carried along.
use Rattle.std.proofs.Common.{refl, ◌≡◌, ℕ, suc, ◌<◌, List, [], ◌∷◌, ◌++◌, get_or, length, map, replicate, ap, sym, ◌∙◌, subst, arith}
use Rattle.std.proofs.lemmas.List.{length-map, get_or-map}
use Rattle.pq_base.specs.Elementary.{zeros}
use Rattle.pq_base.specs.Presentation.{IsNormal, power_side, commutator_side}
use Rattle.fp_echelon.specs.Span.{AreRows}
use Rattle.fp_echelon.proofs.SpanLaws.{combine-zeros}
use Rattle.pc_presentation.specs.Rowed.{RowedPresentation, IsRowed, power_row, commutator_row}
use Rattle.pc_presentation.specs.Collection.{Configuration, State, IsState, identity, spelled, add_row}
use Rattle.pc_presentation.specs.CollectionLaws.{RowsAreCarried}
use Rattle.pc_presentation.specs.Overlaps.{Overlap, IsOverlap, left_way, right_way, IsPushed, PushChain}
use Rattle.pc_presentation.specs.Overlaps.Overlap.{triple, left, right, own}
use Rattle.pc_presentation.specs.Overlaps.PushChain.{no_push, then_push}
use Rattle.pc_presentation.proofs.rows.RowMaps.{mapped, run-mapped}
use Rattle.p_cover.specs.RowedAnswer.{RowedAnswer, rowed}
use Rattle.cover_quotient.specs.Carried.{carried, carried_presentation, carried_answer}
use Rattle.cover_quotient.proofs.carried_rows.CarriedRows.{carried-row, carried-sum, normal_from_row}

-- an answer with its rows carried is read as its presentation with the rows carried
pub rowed-carried : (width : ℕ) (rows : List (List ℕ)) (Y : RowedAnswer)
    → rowed (carried_answer width rows Y) ≡ carried_presentation width rows (rowed Y)
rowed-carried width rows Y = refl

module _ (Z : RowedPresentation) (rowed : IsRowed Z) (positive : 0 < Z.base.prime) (width : ℕ) (rows : List (List ℕ))
    (are : AreRows Z.base.prime width rows) where
  abbrev Q : RowedPresentation
  Q = carried_presentation width rows Z

  abbrev carry : List ℕ → List ℕ
  carry x = carried Z.base.prime width rows x

  pub carry-normal : (x : List ℕ) → IsNormal Z.base.prime width (carried Z.base.prime width rows x)
  carry-normal x = normal_from_row Z.base.prime width (carry x) (carried-row Z.base.prime width positive rows x are)

  pub carry-zeros : carried Z.base.prime width rows (zeros Z.width) ≡ zeros width
  carry-zeros = combine-zeros Z.base.prime width Z.width rows positive are

  -- the rows of relations
  pub power_row-carried : (i : ℕ) → i < Z.base.rank
      → power_row (carried_presentation width rows Z) i ≡ carried Z.base.prime width rows (power_row Z i)
  power_row-carried i h = let c = rowed.power_count in get_or-map carry Z.power_rows i [] [] (omega arith)

  table_row : (j : ℕ) → j < Z.base.rank
      → get_or (carried_presentation width rows Z).commutator_rows j []
      ≡ map (carried Z.base.prime width rows) (get_or Z.commutator_rows j [])
  table_row j h = let c = rowed.commutator_count in get_or-map (λ (r : List (List ℕ)). map carry r) Z.commutator_rows j [] [] (omega arith)

  pub commutator_row-carried : (j i : ℕ) → j < Z.base.rank → i < j
      → commutator_row (carried_presentation width rows Z) j i ≡ carried Z.base.prime width rows (commutator_row Z j i)
  commutator_row-carried j i h m =
      let c = rowed.commutator_counts j h in
      ap (λ (r : List (List ℕ)). get_or r i []) (table_row j h) ∙ get_or-map carry (get_or Z.commutator_rows j []) i [] [] (omega arith)

  pub carried-rowed : IsRowed (carried_presentation width rows Z)
  carried-rowed = record {
    base = rowed.base;
    power_count = length-map Z.power_rows carry ∙ rowed.power_count;
    power_rows = λ i l. subst (λ (x : List ℕ). IsNormal Z.base.prime width x) (sym (power_row-carried i l)) (carry-normal (power_row Z i));
    commutator_count = length-map Z.commutator_rows (λ (r : List (List ℕ)). map carry r) ∙ rowed.commutator_count;
    commutator_counts = λ j l. ap length (table_row j l) ∙ length-map (get_or Z.commutator_rows j []) carry ∙ rowed.commutator_counts j l;
    commutator_rows = λ j i l m.
        subst (λ (x : List ℕ). IsNormal Z.base.prime width x) (sym (commutator_row-carried j i l m)) (carry-normal (commutator_row Z j i));
  }

  -- runs
  rows_are-carried : RowsAreCarried Z (carried Z.base.prime width rows) (carried_presentation width rows Z)
  rows_are-carried = record {
    sums = λ x t. carried-sum Z.base.prime width positive rows x t are;
    powers = power_row-carried;
    commutators = commutator_row-carried;
  }

  -- states and chains of pushes
  pub state-carried : (n : ℕ) (s : State) → IsState Z n s
      → IsState (carried_presentation width rows Z) n (mapped (carried Z.base.prime width rows) s)
  state-carried n s h = record { exponents = h.exponents; row = carry-normal s.row }

  pub push-carried : {s t : State} {i : ℕ} → IsPushed Z s i t
      → IsPushed (carried_presentation width rows Z) (mapped (carried Z.base.prime width rows) s) i
      (mapped (carried Z.base.prime width rows) t)
  push-carried {t = t} h = record {
    run = run-mapped Z (carried Z.base.prime width rows) width Q.power_rows Q.commutator_rows rows_are-carried h.run;
    state = state-carried Z.base.rank t h.state;
  }

  pub chain-carried : {s t : State} {w : List ℕ} → PushChain Z s w t
      → PushChain (carried_presentation width rows Z) (mapped (carried Z.base.prime width rows) s) w
      (mapped (carried Z.base.prime width rows) t)
  chain-carried no_push = no_push
  chain-carried (then_push h c) = then_push (push-carried h) (chain-carried c)

  pub identity-carried : mapped (carried Z.base.prime width rows) (identity Z Z.base.rank)
      ≡ identity (carried_presentation width rows Z) Z.base.rank
  identity-carried = ap (λ (x : List ℕ). record { exponents = replicate Z.base.rank 0; row = x }) carry-zeros

  pub add_row-carried : (t : List ℕ) (s : State)
      → mapped (carried Z.base.prime width rows) (add_row Z.base.prime t s)
      ≡ add_row Z.base.prime (carried Z.base.prime width rows t) (mapped (carried Z.base.prime width rows) s)
  add_row-carried t s =
      ap (λ (x : List ℕ). record { exponents = s.exponents; row = x }) (carried-sum Z.base.prime width positive rows s.row t are)

  -- the ways of overlaps
  pub left_way-carried : (o : Overlap) → left_way (carried_presentation width rows Z) o ≡ record {
    word = (left_way Z o).word;
    row = carried Z.base.prime width rows (left_way Z o).row;
  }
  left_way-carried (triple k j i) = ap (λ (x : List ℕ). record { word = (left_way Z (triple k j i)).word; row = x }) (sym carry-zeros)
  left_way-carried (left j i) = ap (λ (x : List ℕ). record { word = (left_way Z (left j i)).word; row = x }) (sym carry-zeros)
  left_way-carried (right j i) = ap (λ (x : List ℕ). record { word = (left_way Z (right j i)).word; row = x }) (sym carry-zeros)
  left_way-carried (own i) = ap (λ (x : List ℕ). record { word = (left_way Z (own i)).word; row = x }) (sym carry-zeros)

  pub right_way-carried : (o : Overlap) → IsOverlap Z.base.rank o → right_way (carried_presentation width rows Z) o ≡ record {
    word = (right_way Z o).word;
    row = carried Z.base.prime width rows (right_way Z o).row;
  }
  right_way-carried (triple k j i) h =
      let a = h.0 in let b = h.1 in let c = h.2 in
      ap (λ (x : List ℕ). record { word = (right_way Z (triple k j i)).word; row = x }) (commutator_row-carried j i (omega arith) a)
  right_way-carried (left j i) h =
      ap (λ (x : List ℕ). record { word = (right_way Z (left j i)).word; row = x }) (commutator_row-carried j i h.1 h.0)
  right_way-carried (right j i) h =
      let a = h.0 in let b = h.1 in
      ap (λ (x : List ℕ). record { word = (right_way Z (right j i)).word; row = x }) (power_row-carried i (omega arith))
  right_way-carried (own i) h = ap (λ (x : List ℕ). record { word = (right_way Z (own i)).word; row = x }) (power_row-carried i h)
