-- Pushes where letters from some place on commute, and p copies of one push the right side of its power: where the letters
-- of a state are pushed so, a plain push of such a letter on the state is its push behind them.
use Rattle.std.proofs.Common.{◌≡◌, ℕ, zero, suc, ◌+◌, ◌-◌, ◌<◌, ◌≤◌, List, replicate, ap, sym, ◌∙◌, subst, arith}
use Rattle.pq_base.specs.Presentation.{power_side, commutator_side}
use Rattle.pc_presentation.specs.Rowed.{RowedPresentation, IsRowed, power_row, commutator_row}
use Rattle.pc_presentation.specs.Collection.{State, IsState, spelled, configuration_of, add_row, before, push_word, push_configuration}
use Rattle.pc_presentation.specs.Commuting.{IsBare}
use Rattle.pc_presentation.proofs.rows.RowLaws.{row_sum-zeros, is_before}
use Rattle.pc_presentation.proofs.collecting.PushLaws.{Rides, Acts, push_word-append, push_word-keeps, run-acts}
use Rattle.pc_presentation.proofs.collecting.PlainRule.{plain, plain-later, map-replicate, spelled-suc, spelled-zeros}
use Rattle.pc_presentation.proofs.collecting.RunLaws.{ReplacementFrom}
use Rattle.pc_presentation.proofs.collecting.RunLaws.ReplacementFrom.{swap_from, power_from}
use Rattle.pc_presentation.proofs.collecting.PlainRuns.{plain-run}
use Rattle.pc_presentation.proofs.collecting.StateProducts.{push_configuration-snoc}
use Rattle.pc_presentation.proofs.commuting.SpelledPushes.{shifted, push_word-shifted}

-- the right side of a bare relation pushed on a state of m generators
pub bare-nothing : (Y : RowedPresentation) (f : State → ℕ → State) (m a l k : ℕ) (s : State) → IsBare Y l k → IsState Y m s
    → push_configuration Y f s (record { word = spelled a (commutator_side Y.base l k); row = commutator_row Y l k }) ≡ s
bare-nothing Y f m a l k s b h =
    ap (λ (w : List ℕ). push_configuration Y f s (record { word = spelled a w; row = commutator_row Y l k })) b.side
    ∙ ap (λ (u : List ℕ). push_configuration Y f s (record { word = u; row = commutator_row Y l k }))
    (spelled-zeros a (Y.base.rank - suc l))
    ∙ ap (λ (x : List ℕ). add_row Y.base.prime x s) b.row
    ∙ ap (λ (x : List ℕ). record { exponents = s.exponents; row = x }) (row_sum-zeros Y.base.prime Y.width s.row h.row)

-- pushes f on states of m generators, with letters counted from place k
pub record CommuteAndWrap (Y : RowedPresentation) (m z k : ℕ) (f : State → ℕ → State) : Type 0 where
  pub keeps : (s : State) (i : ℕ) → IsState Y m s → IsState Y m (f s i)
  pub rides : Rides Y.base.prime f
  pub swaps : (s : State) (j i : ℕ) → IsState Y m s → z ≤ k + i → i < j → k + j < Y.base.rank → f (f s j) i ≡ f (f s i) j
  pub powers : (s : State) (i : ℕ) → IsState Y m s → z ≤ k + i → k + i < Y.base.rank
      → push_word f s (replicate Y.base.prime i)
      ≡ add_row Y.base.prime (power_row Y (k + i)) (push_word f s (spelled (suc i) (power_side Y.base (k + i))))

module _ (Y : RowedPresentation) (m z : ℕ) (commute : (l k : ℕ) → z ≤ k → k < l → l < Y.base.rank → IsBare Y l k) where
  commuting-shifted : (k : ℕ) (f : State → ℕ → State) → CommuteAndWrap Y m z k f → CommuteAndWrap Y m z (suc k) (shifted f)
  commuting-shifted k f c = record {
    keeps = λ s i h. c.keeps s (suc i) h;
    rides = λ t s i. c.rides t s (suc i);
    swaps = λ s j i h a b d. c.swaps s (suc j) (suc i) h (omega arith) (omega arith) (omega arith);
    powers = λ s i h a b.
        let e : k + suc i ≡ suc k + i = omega arith in
        sym (push_word-shifted f s (replicate Y.base.prime i)) ∙ ap (push_word f s) (map-replicate Y.base.prime i)
        ∙ c.powers s (suc i) h (omega arith) (omega arith)
        ∙ ap (λ (j : ℕ). add_row Y.base.prime (power_row Y j) (push_word f s (spelled (suc (suc i)) (power_side Y.base j)))) e
        ∙ ap (add_row Y.base.prime (power_row Y (suc k + i)))
        (ap (push_word f s) (spelled-suc (suc i) (power_side Y.base (suc k + i)))
        ∙ push_word-shifted f s (spelled (suc i) (power_side Y.base (suc k + i))));
  }

  -- where all letters are such, the sides of each replacement act equally
  commuting-acts : (k : ℕ) (f : State → ℕ → State) → z ≤ k → CommuteAndWrap Y m z k f
      → Acts Y.base.prime f (IsState Y m) (ReplacementFrom Y k)
  commuting-acts k f l c s v _ _ _ (swap_from j i a b f' g h q) =
      c.swaps s j i v (omega arith) q (omega arith)
      ∙ sym (bare-nothing Y f m (suc j) a b (f (f s i) j) (commute a b (omega arith) (omega arith) h) (c.keeps (f s i) j (c.keeps s i v)))
  commuting-acts k f l c s v _ _ _ (power_from i a g h) =
      subst (λ (b : ℕ). push_word f s (replicate Y.base.prime i)
      ≡ add_row Y.base.prime (power_row Y b) (push_word f s (spelled (suc i) (power_side Y.base b))))
      (sym g) (c.powers s i v (omega arith) (omega arith))

  -- the first exponent of a state is pushed first
  configuration-before : (f : State → ℕ → State) (e : ℕ) (s t : State)
      → push_configuration Y f s (configuration_of (before e t))
      ≡ push_configuration Y (shifted f) (push_word f s (replicate e 0)) (configuration_of t)
  configuration-before f e s t =
      ap (add_row Y.base.prime t.row)
      (push_word-append f s (replicate e 0) (spelled 1 t.exponents)
      ∙ ap (push_word f (push_word f s (replicate e 0))) (spelled-suc 0 t.exponents)
      ∙ push_word-shifted f (push_word f s (replicate e 0)) (spelled 0 t.exponents))

  module _ (rowed : IsRowed Y) (positive : 0 < Y.base.prime) where
    pub push-followed : (n k : ℕ) (f : State → ℕ → State) → CommuteAndWrap Y m z k f → k + n ≡ Y.base.rank → (s t : State) (l : ℕ)
        → IsState Y m s
        → IsState Y n t → z ≤ k + l → l < n
        → push_configuration Y f s (configuration_of (plain Y n k t l)) ≡ f (push_configuration Y f s (configuration_of t)) l
    push-followed n k f c size s t zero v h a b =
        sym (run-acts Y f (IsState Y m) (ReplacementFrom Y k) c.rides c.keeps (commuting-acts k f (omega arith) c)
        (plain-run Y rowed positive n k size t 0 h b) s v)
        ∙ push_configuration-snoc Y f c.rides s (spelled 0 t.exponents) t.row 0
    push-followed zero k f c size s t (suc l) v h a b = absurd (omega arith)
    push-followed (suc n) k f c size s t (suc l) v h a b =
        let w = is_before Y n t h in
        let e = w.exponent in
        let r = w.rest in
        let inner : push_configuration Y (shifted f) (push_word f s (replicate e 0)) (configuration_of (plain Y n (suc k) r l))
        ≡ f (push_configuration Y (shifted f) (push_word f s (replicate e 0)) (configuration_of r)) (suc l) =
        push-followed n (suc k) (shifted f) (commuting-shifted k f c) (omega arith) (push_word f s (replicate e 0)) r l
        (push_word-keeps f (IsState Y m) c.keeps s (replicate e 0) v) w.state (omega arith) (omega arith) in
        ap (λ (x : State). push_configuration Y f s (configuration_of (plain Y (suc n) k x (suc l)))) w.same
        ∙ ap (λ (x : State). push_configuration Y f s (configuration_of x)) (plain-later Y n k e r l)
        ∙ configuration-before f e s (plain Y n (suc k) r l)
        ∙ inner
        ∙ ap (λ (x : State). f x (suc l)) (sym (configuration-before f e s r))
        ∙ ap (λ (x : State). f (push_configuration Y f s (configuration_of x)) (suc l)) (sym w.same)
