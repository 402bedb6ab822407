-- Where the sides of each relation act equally on states, states with their product, the letters and the row of the one
-- pushed on the other, are a monoid, and products on the left go through pushes.
use Rattle.std.proofs.Common.{◌≡◌, ℕ, suc, ◌+◌, ◌<◌, List, [], ◌∷◌, ◌++◌, replicate, refl, ap, sym, ◌∙◌, inl, inr}
use Rattle.std.proofs.lemmas.Bool.{cases_lt}
use Rattle.pq_base.specs.Presentation.{power_side, commutator_side}
use Rattle.pc_presentation.specs.Rowed.{RowedPresentation, IsRowed, power_row, commutator_row}
use Rattle.pc_presentation.specs.Collection.{Configuration, State, IsState, identity, spelled, configuration_of, add_row, push_word}
use Rattle.pc_presentation.specs.Collection.{push_configuration, push_power, push_past}
use Rattle.pc_presentation.proofs.rows.RowLaws.{row_sum-zeros, add_row-add_row, add_row-state, identity-state}
use Rattle.pc_presentation.proofs.collecting.PushLaws.{Rides, Acts, push_word-append, push_word-keeps, run-acts}
use Rattle.pc_presentation.proofs.collecting.PlainRule.{plain, plain-rides, plain-state, plain-past_end, spelled-zeros}
use Rattle.pc_presentation.proofs.collecting.PlainRule.{push-configuration_of}
use Rattle.pc_presentation.proofs.collecting.RunLaws.{ReplacementFrom}
use Rattle.pc_presentation.proofs.collecting.PlainRuns.{plain-run}

-- the product of states of n generators from place k on
abbrev pub star : RowedPresentation → ℕ → ℕ → State → State → State
star Y n k s t = push_configuration Y (plain Y n k) s (configuration_of t)

-- the sides of each relation act equally
abbrev pub RelationsAct : RowedPresentation → ℕ → ℕ → Type 0
RelationsAct Y n k = Acts Y.base.prime (plain Y n k) (IsState Y n) (ReplacementFrom Y k)

-- the state of zeros is neutral
pub star-identity_left : (Y : RowedPresentation) (n k : ℕ) (t : State) → IsState Y n t → star Y n k (identity Y n) t ≡ t
star-identity_left Y n k t h = push-configuration_of Y n k t h

pub push_configuration-identity : (Y : RowedPresentation) (f : State → ℕ → State) (n m : ℕ) (s : State) → IsState Y n s
    → push_configuration Y f s (configuration_of (identity Y m)) ≡ s
push_configuration-identity Y f n m s h =
    ap (λ (u : List ℕ). push_configuration Y f s (record { word = u; row = replicate Y.width 0 })) (spelled-zeros 0 m)
    ∙ ap (λ (x : List ℕ). record { exponents = s.exponents; row = x }) (row_sum-zeros Y.base.prime Y.width s.row h.row)

pub star-identity_right : (Y : RowedPresentation) (n k : ℕ) (s : State) → IsState Y n s → star Y n k s (identity Y n) ≡ s
star-identity_right Y n k s h = push_configuration-identity Y (plain Y n k) n n s h

pub star-add_row : (Y : RowedPresentation) (n k : ℕ) (u : List ℕ) (s t : State)
    → star Y n k s (add_row Y.base.prime u t) ≡ add_row Y.base.prime u (star Y n k s t)
star-add_row Y n k u s t = sym (add_row-add_row Y.base.prime u t.row (push_word (plain Y n k) s (spelled 0 t.exponents)))

-- a letter behind the word of a configuration is pushed last
pub push_configuration-snoc : (Y : RowedPresentation) (f : State → ℕ → State) → Rides Y.base.prime f → (s : State) (u x : List ℕ) (i : ℕ)
    → push_configuration Y f s (record { word = u ++ i ∷ []; row = x }) ≡ f (push_configuration Y f s (record { word = u; row = x })) i
push_configuration-snoc Y f r s u x i =
    ap (add_row Y.base.prime x) (push_word-append f s u (i ∷ [])) ∙ sym (r x (push_word f s u) i)

module _ (Y : RowedPresentation) (rowed : IsRowed Y) (positive : 0 < Y.base.prime) (n k : ℕ) where
  pub push_configuration-state : (f : State → ℕ → State) → ((s : State) (i : ℕ) → IsState Y n s → IsState Y n (f s i))
      → (s t : State) → IsState Y n s → IsState Y n t → IsState Y n (push_configuration Y f s (configuration_of t))
  push_configuration-state f keeps s t h i =
      add_row-state Y n t.row (push_word f s (spelled 0 t.exponents)) positive (inr i.row)
      (push_word-keeps f (IsState Y n) keeps s (spelled 0 t.exponents) h)

  pub star-state : (s t : State) → IsState Y n s → IsState Y n t → IsState Y n (star Y n k s t)
  star-state s t h i = push_configuration-state (plain Y n k) (plain-state Y rowed positive n k) s t h i

  module _ (size : k + n ≡ Y.base.rank) (acts : RelationsAct Y n k) where
    -- a product on the left goes through a push
    pub star-push : (s t : State) (i : ℕ) → IsState Y n s → IsState Y n t → star Y n k s (plain Y n k t i) ≡ plain Y n k (star Y n k s t) i
    star-push s t i h v = elim (cases_lt i n) [
      | inl l ↦
          sym (run-acts Y (plain Y n k) (IsState Y n) (ReplacementFrom Y k) (plain-rides Y n k) (plain-state Y rowed positive n k) acts
          (plain-run Y rowed positive n k size t i v l) s h)
          ∙ push_configuration-snoc Y (plain Y n k) (plain-rides Y n k) s (spelled 0 t.exponents) t.row i
      | inr l ↦ ap (star Y n k s) (plain-past_end Y n k t i l) ∙ sym (plain-past_end Y n k (star Y n k s t) i l)
    ]

    -- and so through whatever is made of pushes
    abbrev pub Follows : (State → ℕ → State) → Type 0
    Follows f = (s t : State) (i : ℕ) → IsState Y n s → IsState Y n t → star Y n k s (f t i) ≡ f (star Y n k s t) i

    pub star-push_word : (f : State → ℕ → State) → ((s : State) (i : ℕ) → IsState Y n s → IsState Y n (f s i)) → Follows f
        → (s t : State) (u : List ℕ) → IsState Y n s → IsState Y n t → star Y n k s (push_word f t u) ≡ push_word f (star Y n k s t) u
    star-push_word f keeps follows s t [] h v = refl
    star-push_word f keeps follows s t (i ∷ u) h v =
        star-push_word f keeps follows s (f t i) u h (keeps t i v) ∙ ap (λ (z : State). push_word f z u) (follows s t i h v)

    pub star-push_configuration : (f : State → ℕ → State) → ((s : State) (i : ℕ) → IsState Y n s → IsState Y n (f s i)) → Follows f
        → (s t : State) (c : Configuration) → IsState Y n s → IsState Y n t
        → star Y n k s (push_configuration Y f t c) ≡ push_configuration Y f (star Y n k s t) c
    star-push_configuration f keeps follows s t c h v =
        star-add_row Y n k c.row s (push_word f t c.word) ∙ ap (add_row Y.base.prime c.row) (star-push_word f keeps follows s t c.word h v)

    pub star-push_power : (k' : ℕ) (s t : State) → IsState Y n s → IsState Y n t
        → star Y n k s (push_power Y (plain Y n k) k' t) ≡ push_power Y (plain Y n k) k' (star Y n k s t)
    star-push_power k' s t h v =
        star-push_configuration (plain Y n k) (plain-state Y rowed positive n k) star-push s t
        (record { word = spelled 0 (power_side Y.base k'); row = power_row Y k' }) h v

    pub star-push_past : (k' : ℕ) (s t : State) (j : ℕ) → IsState Y n s → IsState Y n t
        → star Y n k s (push_past Y (plain Y n k) k' t j) ≡ push_past Y (plain Y n k) k' (star Y n k s t) j
    star-push_past k' s t j h v =
        let c : Configuration =
        record { word = spelled (suc j) (commutator_side Y.base (suc (k' + j)) k'); row = commutator_row Y (suc (k' + j)) k' } in
        star-push_configuration (plain Y n k) (plain-state Y rowed positive n k) star-push s (plain Y n k t j) c h
        (plain-state Y rowed positive n k t j v)
        ∙ ap (λ (z : State). push_configuration Y (plain Y n k) z c) (star-push s t j h v)

    pub star-assoc : (r s t : State) → IsState Y n r → IsState Y n s → star Y n k (star Y n k r s) t ≡ star Y n k r (star Y n k s t)
    star-assoc r s t h v =
        sym (star-push_configuration (plain Y n k) (plain-state Y rowed positive n k) star-push r s (configuration_of t) h v)

    -- pushes on a state are the product with the pushes on the state of zeros
    pub push_word-star : (f : State → ℕ → State) → ((s : State) (i : ℕ) → IsState Y n s → IsState Y n (f s i)) → Follows f
        → (s : State) (u : List ℕ) → IsState Y n s → push_word f s u ≡ star Y n k s (push_word f (identity Y n) u)
    push_word-star f keeps follows s u h =
        ap (λ (z : State). push_word f z u) (sym (star-identity_right Y n k s h))
        ∙ sym (star-push_word f keeps follows s (identity Y n) u h (identity-state Y n positive))

    pub push-star : (s : State) (i : ℕ) → IsState Y n s → plain Y n k s i ≡ star Y n k s (plain Y n k (identity Y n) i)
    push-star s i h = push_word-star (plain Y n k) (plain-state Y rowed positive n k) star-push s (i ∷ []) h
