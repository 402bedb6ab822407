-- The overlaps of the generators from place k on, and their agreement. They are overlaps of the generators from the place
-- before, and chains of pushes of later letters there are chains of pushes here.
use Rattle.std.proofs.Common.{◌≡◌, ℕ, suc, pred, ◌+◌, ◌<◌, List, [], ◌∷◌, ◌++◌, map, replicate, refl, ap, sym, ◌∙◌, subst, arith}
use Rattle.std.proofs.lemmas.List.{map-append}
use Rattle.pq_base.specs.Presentation.{power_side, commutator_side}
use Rattle.pc_presentation.specs.Rowed.{RowedPresentation, IsRowed, power_row, commutator_row}
use Rattle.pc_presentation.specs.Collection.{State, IsState, identity, spelled, configuration_of, add_row, before, push_word}
use Rattle.pc_presentation.proofs.rows.RowLaws.{is_before, before-injective}
use Rattle.pc_presentation.proofs.collecting.PlainRule.{plain, spelled-suc, map-replicate}
use Rattle.pc_presentation.proofs.collecting.RunLaws.{RunFrom}
use Rattle.pc_presentation.proofs.collecting.StateProducts.{RelationsAct}
use Rattle.pc_presentation.proofs.collecting.AnyRun.{any_run}
use Rattle.pc_presentation.proofs.collecting.LaterRuns.{push-behind}

-- both ways begin with a; then the one goes on with l, and the other with r and the row t
pub data OverlapFrom (Y : RowedPresentation) (k : ℕ) : List ℕ → List ℕ → List ℕ → List ℕ → Type 0 where
  triple_from : (c j i a b : ℕ) → a ≡ k + j → b ≡ k + i → k + c < Y.base.rank → i < j → j < c
      → OverlapFrom Y k (c ∷ []) (j ∷ i ∷ []) (i ∷ j ∷ spelled (suc j) (commutator_side Y.base a b)) (commutator_row Y a b)
  left_from : (j i a b : ℕ) → a ≡ k + j → b ≡ k + i → a < Y.base.rank → i < j
      → OverlapFrom Y k (replicate (pred Y.base.prime) j) (j ∷ i ∷ []) (i ∷ j ∷ spelled (suc j) (commutator_side Y.base a b))
      (commutator_row Y a b)
  right_from : (j i b : ℕ) → b ≡ k + i → k + j < Y.base.rank → i < j
      → OverlapFrom Y k (j ∷ []) (replicate Y.base.prime i) (spelled (suc i) (power_side Y.base b)) (power_row Y b)
  own_from : (i b : ℕ) → b ≡ k + i → b < Y.base.rank
      → OverlapFrom Y k (i ∷ []) (replicate Y.base.prime i) (spelled (suc i) (power_side Y.base b)) (power_row Y b)

pub record IsPushedFrom (Y : RowedPresentation) (n k : ℕ) (s : State) (i : ℕ) (t : State) : Type 0 where
  pub run : RunFrom Y k (record { word = spelled 0 s.exponents ++ i ∷ []; row = s.row }) (configuration_of t)
  pub state : IsState Y n t

pub data PushChainFrom (Y : RowedPresentation) (n k : ℕ) : State → List ℕ → State → Type 0 where
  none_from : {s : State} → PushChainFrom Y n k s [] s
  then_from : {s t u : State} {i : ℕ} {w : List ℕ} → IsPushedFrom Y n k s i t → PushChainFrom Y n k t w u → PushChainFrom Y n k s (i ∷ w) u

pub record AgreesFrom (Y : RowedPresentation) (n k : ℕ) (a l r t : List ℕ) : Type 0 where
  pub left_end : State
  pub right_end : State
  pub left_chain : PushChainFrom Y n k (identity Y n) (a ++ l) left_end
  pub right_chain : PushChainFrom Y n k (identity Y n) (a ++ r) right_end
  pub same : left_end ≡ add_row Y.base.prime t right_end

abbrev pub AllAgreeFrom : RowedPresentation → ℕ → ℕ → Type 0
AllAgreeFrom Y n k = (a l r t : List ℕ) → OverlapFrom Y k a l r t → AgreesFrom Y n k a l r t

-- later overlaps
pub overlap-later : (Y : RowedPresentation) (k : ℕ) (a l r t : List ℕ) → OverlapFrom Y (suc k) a l r t
    → OverlapFrom Y k (map suc a) (map suc l) (map suc r) t
overlap-later Y k _ _ _ _ (triple_from c j i a b f g m q x) =
    subst (λ (w : List ℕ). OverlapFrom Y k (suc c ∷ []) (suc j ∷ suc i ∷ []) (suc i ∷ suc j ∷ w) (commutator_row Y a b))
    (spelled-suc (suc j) (commutator_side Y.base a b))
    (triple_from (suc c) (suc j) (suc i) a b (omega arith) (omega arith) (omega arith) (omega arith) (omega arith))
overlap-later Y k _ _ _ _ (left_from j i a b f g m q) =
    subst (λ (w : List ℕ). OverlapFrom Y k w (suc j ∷ suc i ∷ []) (suc i ∷ suc j ∷ map suc (spelled (suc j) (commutator_side Y.base a b)))
    (commutator_row Y a b))
    (sym (map-replicate (pred Y.base.prime) j))
    (subst (λ (w : List ℕ). OverlapFrom Y k (replicate (pred Y.base.prime) (suc j)) (suc j ∷ suc i ∷ []) (suc i ∷ suc j ∷ w)
    (commutator_row Y a b))
    (spelled-suc (suc j) (commutator_side Y.base a b))
    (left_from (suc j) (suc i) a b (omega arith) (omega arith) m (omega arith)))
overlap-later Y k _ _ _ _ (right_from j i b f m q) =
    subst (λ (w : List ℕ). OverlapFrom Y k (suc j ∷ []) w (map suc (spelled (suc i) (power_side Y.base b))) (power_row Y b))
    (sym (map-replicate Y.base.prime i))
    (subst (λ (w : List ℕ). OverlapFrom Y k (suc j ∷ []) (replicate Y.base.prime (suc i)) w (power_row Y b))
    (spelled-suc (suc i) (power_side Y.base b))
    (right_from (suc j) (suc i) b (omega arith) (omega arith) (omega arith)))
overlap-later Y k _ _ _ _ (own_from i b f m) =
    subst (λ (w : List ℕ). OverlapFrom Y k (suc i ∷ []) w (map suc (spelled (suc i) (power_side Y.base b))) (power_row Y b))
    (sym (map-replicate Y.base.prime i))
    (subst (λ (w : List ℕ). OverlapFrom Y k (suc i ∷ []) (replicate Y.base.prime (suc i)) w (power_row Y b))
    (spelled-suc (suc i) (power_side Y.base b))
    (own_from (suc i) b (omega arith) m))

-- a push of a later generator is a push on the rest of the state
pub record PushedLater (Y : RowedPresentation) (n k : ℕ) (s : State) (i : ℕ) (t : State) : Type 0 where
  pub state : State
  pub is : t ≡ before 0 state
  pub pushed : IsPushedFrom Y n (suc k) s i state

pushed-later : (Y : RowedPresentation) (n k : ℕ) (s : State) (i : ℕ) (t : State) → 0 < Y.base.prime
    → IsPushedFrom Y (suc n) k (before 0 s) (suc i) t → PushedLater Y n k s i t
pushed-later Y n k s i t h q =
    let b = is_before Y n t q.state in
    let run : RunFrom Y k (record { word = spelled 0 (0 ∷ s.exponents) ++ suc i ∷ []; row = s.row })
    (configuration_of (before b.exponent b.rest)) =
    subst (λ (z : State). RunFrom Y k (record { word = spelled 0 (0 ∷ s.exponents) ++ suc i ∷ []; row = s.row }) (configuration_of z))
    b.same q.run in
    let r = push-behind Y k 0 b.exponent s b.rest i h run in
    record {
      state = b.rest;
      is = b.same ∙ ap (λ (m : ℕ). before m b.rest) r.0;
      pushed = record { run = r.1; state = b.state };
    }

pub record ChainLater (Y : RowedPresentation) (n k : ℕ) (s : State) (u : List ℕ) (t : State) : Type 0 where
  pub state : State
  pub is : t ≡ before 0 state
  pub chain : PushChainFrom Y n (suc k) s u state

chain-later : (Y : RowedPresentation) (n k : ℕ) (s : State) (u : List ℕ) {s' t : State} {u' : List ℕ} → 0 < Y.base.prime → s' ≡ before 0 s
    → u' ≡ map suc u
    → PushChainFrom Y (suc n) k s' u' t → ChainLater Y n k s u t
chain-later Y n k s [] h e f none_from = record { state = s; is = e; chain = none_from }
chain-later Y n k s (i ∷ u) h e f none_from = cc
chain-later Y n k s [] h e f (then_from q c) = cc
chain-later Y n k s (i ∷ u) h e f (then_from {s = s'} {t = t} {i = i'} {w = w} q c) =
    let i_is : i' ≡ suc i = cc in
    let w_is : w ≡ map suc u = cc in
    let q' : IsPushedFrom Y (suc n) k (before 0 s) (suc i) t =
    subst (λ (j : ℕ). IsPushedFrom Y (suc n) k (before 0 s) j t) i_is (subst (λ (z : State). IsPushedFrom Y (suc n) k z i' t) e q) in
    let m = pushed-later Y n k s i t h q' in
    let r = chain-later Y n k m.state u h m.is w_is c in
    record { state = r.state; is = r.is; chain = then_from m.pushed r.chain }

pub agree-later : (Y : RowedPresentation) (n k : ℕ) → 0 < Y.base.prime → AllAgreeFrom Y (suc n) k → AllAgreeFrom Y n (suc k)
agree-later Y n k h agree a l r t o =
    let g = agree (map suc a) (map suc l) (map suc r) t (overlap-later Y k a l r t o) in
    let x = chain-later Y n k (identity Y n) (a ++ l) h refl (sym (map-append suc a l)) g.left_chain in
    let y = chain-later Y n k (identity Y n) (a ++ r) h refl (sym (map-append suc a r)) g.right_chain in
    record {
      left_end = x.state;
      right_end = y.state;
      left_chain = x.chain;
      right_chain = y.chain;
      same = before-injective 0 x.state (add_row Y.base.prime t y.state) (sym x.is ∙ g.same ∙ ap (add_row Y.base.prime t) y.is);
    }

-- where the relations of the later generators act, chains are the plain rule's
chain-plain : (Y : RowedPresentation) → IsRowed Y → 1 < Y.base.prime → (n k : ℕ) → RelationsAct Y n (suc k) → {s t : State} {u : List ℕ}
    → IsState Y (suc n) s → PushChainFrom Y (suc n) k s u t → t ≡ push_word (plain Y (suc n) k) s u
chain-plain Y r h n k acts v none_from = refl
chain-plain Y r h n k acts v (then_from {s = s} {t = t} {i = i} {w = w} q c) =
    chain-plain Y r h n k acts q.state c
    ∙ ap (λ (z : State). push_word (plain Y (suc n) k) z w) (any_run Y r h n k acts s t i v q.state q.run)

-- so both ways agree plainly
pub agree-plainly : (Y : RowedPresentation) → IsRowed Y → 1 < Y.base.prime → (n k : ℕ) → RelationsAct Y n (suc k)
    → IsState Y (suc n) (identity Y (suc n))
    → AllAgreeFrom Y (suc n) k → (a l r t : List ℕ) → OverlapFrom Y k a l r t
    → push_word (plain Y (suc n) k) (identity Y (suc n)) (a ++ l)
    ≡ add_row Y.base.prime t (push_word (plain Y (suc n) k) (identity Y (suc n)) (a ++ r))
agree-plainly Y rowed h n k acts v agree a l r t o =
    let g = agree a l r t o in
    sym (chain-plain Y rowed h n k acts v g.left_chain)
    ∙ g.same ∙ ap (add_row Y.base.prime t) (chain-plain Y rowed h n k acts v g.right_chain)
