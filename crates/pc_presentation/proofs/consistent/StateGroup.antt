-- Where the relations act, the states are a group.
use Rattle.std.proofs.Common.{◌≡◌, ℕ, zero, suc, ◌+◌, ◌-◌, ◌<◌, List, [], ◌∷◌, length, replicate, refl, ap, sym, ◌∙◌, subst, arith, inl}
use Rattle.std.proofs.Common.{inr}
use Rattle.std.proofs.lemmas.Bool.{cases_lt}
use Rattle.pq_base.proofs.groups.Groups.{Group}
use Rattle.fp_rows.specs.Rows.{negative_row}
use Rattle.pc_presentation.specs.Rowed.{RowedPresentation, IsRowed}
use Rattle.pc_presentation.specs.Collection.{State, IsState, identity, spelled, add_row, before, push_word, push_configuration}
use Rattle.pc_presentation.specs.Collection.{configuration_of}
use Rattle.pc_presentation.proofs.rows.RowLaws.{identity-state, before-state, is_before, negative_row-normal, row_sum-negative_row}
use Rattle.pc_presentation.proofs.collecting.PushLaws.{push_word-append}
use Rattle.pc_presentation.proofs.collecting.PlainRule.{plain, plain-later_word, spelled-suc}
use Rattle.pc_presentation.proofs.collecting.StateProducts.{star, RelationsAct, star-identity_left, star-identity_right, star-state}
use Rattle.pc_presentation.proofs.collecting.StateProducts.{star-assoc, push_configuration-state}
use Rattle.pc_presentation.proofs.collecting.PassedStates.{past, past-state, full_power-state, passed, full_power, first-raise, first-full}
use Rattle.pc_presentation.proofs.collecting.PassedStates.{passed-state}

-- a state whose product behind s is the state of zeros
pub record RightInverse (Y : RowedPresentation) (n k : ℕ) (s : State) : Type 0 where
  pub state : State
  pub valid : IsState Y n state
  pub is : star Y n k s state ≡ identity Y n

-- c copies of the first generator take its exponent to 0
record ToZero (Y : RowedPresentation) (n k e c : ℕ) (s : State) : Type 0 where
  pub rest : State
  pub valid : IsState Y n rest
  pub is : push_word (plain Y (suc n) k) (before e s) (replicate c 0) ≡ before 0 rest

module _ (Y : RowedPresentation) (rowed : IsRowed Y) (positive : 0 < Y.base.prime) where
  raise_to_zero : (n k d e : ℕ) (s : State) → e + suc d ≡ Y.base.prime → IsState Y n s → ToZero Y n k e (suc d) s
  raise_to_zero n k zero e s q h = record {
    rest = push_configuration Y (past Y n k) (full_power Y n k) (configuration_of s);
    valid = push_configuration-state Y rowed positive n (suc k) (past Y n k) (past-state Y rowed positive n k) (full_power Y n k) s
        (full_power-state Y rowed positive n k) h;
    is = first-full Y rowed positive n k e s (omega arith) h;
  }
  raise_to_zero n k (suc d) e s q h =
      let r = raise_to_zero n k d (suc e) (passed Y n k s) (omega arith) (passed-state Y rowed positive n k s h) in
      record {
        rest = r.rest;
        valid = r.valid;
        is = ap (λ (z : State). push_word (plain Y (suc n) k) z (replicate (suc d) 0))
            (first-raise Y rowed positive n k e s (omega arith) h) ∙ r.is;
      }

  before_inverse : (n k e c : ℕ) (s : State) → c < Y.base.prime → (z : ToZero Y n k e c s) → RightInverse Y n (suc k) z.rest
      → RightInverse Y (suc n) k (before e s)
  before_inverse n k e c s l z r = record {
    state = before c r.state;
    valid = before-state Y n c r.state l r.valid;
    is =
        ap (add_row Y.base.prime r.state.row)
        (push_word-append (plain Y (suc n) k) (before e s) (replicate c 0) (spelled 1 r.state.exponents)
        ∙ ap (λ (y : State). push_word (plain Y (suc n) k) y (spelled 1 r.state.exponents)) z.is
        ∙ ap (push_word (plain Y (suc n) k) (before 0 z.rest)) (spelled-suc 0 r.state.exponents)
        ∙ plain-later_word Y n k 0 z.rest (spelled 0 r.state.exponents))
        ∙ ap (before 0) r.is;
  }

  pub right_inverse : (n k : ℕ) (s : State) → IsState Y n s → RightInverse Y n k s
  right_inverse zero k s h = record {
    state = record { exponents = []; row = negative_row Y.base.prime s.row };
    valid = record { exponents = record { count = refl; below = tt }; row = negative_row-normal Y.base.prime Y.width s.row positive h.row };
    is =
        ap (λ (x : List ℕ). record { exponents = s.exponents; row = x }) (row_sum-negative_row Y.base.prime Y.width s.row h.row)
        ∙ ap (λ (x : List ℕ). record { exponents = x; row = replicate Y.width 0 }) (nothing_left s.exponents h.exponents.count);
  }
    where
      nothing_left : (u : List ℕ) → length u ≡ 0 → u ≡ []
      nothing_left [] e = refl
      nothing_left (x ∷ u) e = absurd (omega arith)
  right_inverse (suc n) k s h =
      let b = is_before Y n s h in
      let m = b.below in
      let d : ℕ = Y.base.prime - suc b.exponent in
      let up : ToZero Y n k b.exponent (suc d) b.rest = raise_to_zero n k d b.exponent b.rest (omega arith) b.state in
      subst (λ (z : State). RightInverse Y (suc n) k z) (sym b.same)
      (elim (cases_lt 0 b.exponent) [
        | inl l ↦ before_inverse n k b.exponent (suc d) b.rest (omega arith) up (right_inverse n (suc k) up.rest up.valid)
        | inr l ↦
            let e : b.exponent ≡ 0 = omega arith in
            let z : ToZero Y n k b.exponent 0 b.rest = record { rest = b.rest; valid = b.state; is = ap (λ (m : ℕ). before m b.rest) e } in
            before_inverse n k b.exponent 0 b.rest positive z (right_inverse n (suc k) b.rest b.state)
      ])

-- the states that are valid
pub record ValidState (Y : RowedPresentation) (n : ℕ) : Type 0 where
  pub state : State
  pub valid : IsState Y n state

module _ (Y : RowedPresentation) (rowed : IsRowed Y) (positive : 0 < Y.base.prime) (n k : ℕ) where
  abbrev pub inverse_state : ValidState Y n → ValidState Y n
  inverse_state x =
      let r : RightInverse Y n k x.state = right_inverse Y rowed positive n k x.state x.valid in
      record { state = r.state; valid = r.valid }

  abbrev pub product_state : ValidState Y n → ValidState Y n → ValidState Y n
  product_state x y = record { state = star Y n k x.state y.state; valid = star-state Y rowed positive n k x.state y.state x.valid y.valid }

  pub star-inverse : (x : ValidState Y n) → star Y n k x.state (inverse_state x).state ≡ identity Y n
  star-inverse x = (right_inverse Y rowed positive n k x.state x.valid).is

  module _ (size : k + n ≡ Y.base.rank) (acts : RelationsAct Y n k) where
    -- a right inverse is a left inverse
    pub inverse-star : (x : ValidState Y n) → star Y n k (inverse_state x).state x.state ≡ identity Y n
    inverse-star x =
        let y : ValidState Y n = inverse_state x in
        let z : ValidState Y n = inverse_state y in
        let same : x.state ≡ z.state =
        sym (star-identity_right Y n k x.state x.valid)
        ∙ ap (star Y n k x.state) (sym (star-inverse y))
        ∙ sym (star-assoc Y rowed positive n k size acts x.state y.state z.state x.valid y.valid)
        ∙ ap (λ (s : State). star Y n k s z.state) (star-inverse x)
        ∙ star-identity_left Y n k z.state z.valid in
        ap (star Y n k y.state) same ∙ star-inverse y

    -- equal states have equal inverses
    pub inverse-same : (x y : ValidState Y n) → x.state ≡ y.state → (inverse_state x).state ≡ (inverse_state y).state
    inverse-same x y e =
        let x' : ValidState Y n = inverse_state x in
        let y' : ValidState Y n = inverse_state y in
        sym (star-identity_right Y n k x'.state x'.valid)
        ∙ ap (star Y n k x'.state) (sym (star-inverse y) ∙ ap (λ (s : State). star Y n k s y'.state) (sym e))
        ∙ sym (star-assoc Y rowed positive n k size acts x'.state x.state y'.state x'.valid x.valid)
        ∙ ap (λ (s : State). star Y n k s y'.state) (inverse-star x)
        ∙ star-identity_left Y n k y'.state y'.valid

    abbrev pub state_group : Group
    state_group = record {
      carrier = ValidState Y n;
      same = λ x y. x.state ≡ y.state;
      times = product_state;
      one = record { state = identity Y n; valid = identity-state Y n positive };
      inverse = inverse_state;
      reflexive = λ x. refl;
      symmetric = λ e. sym e;
      transitive = λ e h. e ∙ h;
      times-same = λ {x} {y} {u} {v} e h. ap (λ (s : State). star Y n k s u.state) e ∙ ap (star Y n k y.state) h;
      inverse-same = λ {x} {y} e. inverse-same x y e;
      associative = λ x y z. star-assoc Y rowed positive n k size acts x.state y.state z.state x.valid y.valid;
      one_left = λ x. star-identity_left Y n k x.state x.valid;
      one_right = λ x. star-identity_right Y n k x.state x.valid;
      inverse_left = inverse-star;
      inverse_right = star-inverse;
    }
