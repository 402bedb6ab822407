-- The plain rule clause by clause. Rows ride along a push, earlier exponents are final, and the letters of a state
-- pushed on the state of zeros give the state.
use Rattle.std.proofs.Common.{◌≡◌, ℕ, zero, suc, ◌+◌, ◌<◌, ◌≤◌, Bool, true, false, eqb, List, [], ◌∷◌, ◌++◌, map, replicate, refl, ap, sym}
use Rattle.std.proofs.Common.{◌∙◌, subst, arith, inl, inr}
use Rattle.std.proofs.lemmas.List.{map-append}
use Rattle.std.proofs.lemmas.Bool.{cases_lt, eq-eqb}
use Rattle.std.proofs.lemmas.Bool.Decides.{eqb_tells}
use Rattle.pq_base.specs.Presentation.{IsNormal, power_side, commutator_side}
use Rattle.pc_presentation.specs.Rowed.{RowedPresentation, IsRowed, power_row, commutator_row, row_sum}
use Rattle.pc_presentation.specs.Collection.{Configuration, State, IsState, identity, spelled, add_row, before, push_word}
use Rattle.pc_presentation.specs.Collection.{push_configuration, push_power, push_past, raise, plain_push_from}
use Rattle.pc_presentation.proofs.rows.RowLaws.{zeros-row_sum, add_row-state, before-state, zeros-normal, power_row-addable}
use Rattle.pc_presentation.proofs.rows.RowLaws.{commutator_row-addable, is_before}
use Rattle.pc_presentation.proofs.collecting.PushLaws.{Rides, push_word-append, push_word-add_row, push_configuration-add_row}
use Rattle.pc_presentation.proofs.collecting.PushLaws.{push_word-keeps}

-- the plain rule on states, with n generators from place k on
abbrev pub plain : RowedPresentation → ℕ → ℕ → State → ℕ → State
plain Y n k s i = plain_push_from Y n k s.exponents s.row i

-- its clauses
pub plain-none : (Y : RowedPresentation) (k : ℕ) (s : State) (i : ℕ) → plain Y 0 k s i ≡ s
unfolding plain_push_from
plain-none Y k s i = refl

pub plain-later : (Y : RowedPresentation) (n k e : ℕ) (s : State) (i : ℕ)
    → plain Y (suc n) k (before e s) (suc i) ≡ before e (plain Y n (suc k) s i)
unfolding plain_push_from
plain-later Y n k e s i = refl

pub plain-first : (Y : RowedPresentation) (n k e : ℕ) (s : State)
    → plain Y (suc n) k (before e s) 0
    ≡ raise (eqb (suc e) Y.base.prime) Y (plain Y n (suc k)) k e (record { exponents = replicate n 0; row = s.row }) s.exponents
unfolding plain_push_from
plain-first Y n k e s = refl

less_unequal : (a b : ℕ) → a < b → eqb a b ≡ false
less_unequal a b h = elim (eqb_tells a b) [
  | inl t ↦ let e = t.1 in absurd (omega arith)
  | inr f ↦ f.0
]

pub plain-raise : (Y : RowedPresentation) (n k e : ℕ) (s : State) → suc e < Y.base.prime
    → plain Y (suc n) k (before e s) 0
    ≡ before (suc e) (push_word (push_past Y (plain Y n (suc k)) k) (record { exponents = replicate n 0; row = s.row })
    (spelled 0 s.exponents))
plain-raise Y n k e s h =
    plain-first Y n k e s
    ∙ ap (λ (b : Bool). raise b Y (plain Y n (suc k)) k e (record { exponents = replicate n 0; row = s.row }) s.exponents)
    (less_unequal (suc e) Y.base.prime h)

pub plain-carry : (Y : RowedPresentation) (n k e : ℕ) (s : State) → suc e ≡ Y.base.prime
    → plain Y (suc n) k (before e s) 0
    ≡ before 0 (push_word (push_past Y (plain Y n (suc k)) k)
    (push_power Y (plain Y n (suc k)) k (record { exponents = replicate n 0; row = s.row })) (spelled 0 s.exponents))
plain-carry Y n k e s h =
    plain-first Y n k e s
    ∙ ap (λ (b : Bool). raise b Y (plain Y n (suc k)) k e (record { exponents = replicate n 0; row = s.row }) s.exponents)
    (eq-eqb (suc e) Y.base.prime h)

-- a letter beyond the last generator does nothing
past_end_from : (Y : RowedPresentation) (n k : ℕ) (h x : List ℕ) (i : ℕ) → n ≤ i
    → plain_push_from Y n k h x i ≡ record { exponents = h; row = x }
unfolding plain_push_from
past_end_from Y zero k h x i l = refl
past_end_from Y (suc n) k [] x i l = refl
past_end_from Y (suc n) k (e ∷ h) x zero l = absurd (omega arith)
past_end_from Y (suc n) k (e ∷ h) x (suc i) l = ap (before e) (past_end_from Y n (suc k) h x i (omega arith))

pub plain-past_end : (Y : RowedPresentation) (n k : ℕ) (s : State) (i : ℕ) → n ≤ i → plain Y n k s i ≡ s
plain-past_end Y n k s i l = past_end_from Y n k s.exponents s.row i l

-- rows ride along
pub push_past-rides : (Y : RowedPresentation) (push : State → ℕ → State) (k : ℕ) → Rides Y.base.prime push
    → Rides Y.base.prime (push_past Y push k)
push_past-rides Y push k r t s j =
    let c : Configuration =
    record { word = spelled (suc j) (commutator_side Y.base (suc (k + j)) k); row = commutator_row Y (suc (k + j)) k } in
    ap (λ (z : State). push_configuration Y push z c) (r t s j) ∙ push_configuration-add_row Y push r t (push s j) c

raise-add_row : (b : Bool) (Y : RowedPresentation) (push : State → ℕ → State) (k e : ℕ) → Rides Y.base.prime push
    → (t : List ℕ) (start : State) (h : List ℕ)
    → raise b Y push k e (add_row Y.base.prime t start) h ≡ add_row Y.base.prime t (raise b Y push k e start h)
raise-add_row true Y push k e r t start h =
    let c : Configuration = record { word = spelled 0 (power_side Y.base k); row = power_row Y k } in
    ap (λ (z : State). before 0 (push_word (push_past Y push k) z (spelled 0 h))) (push_configuration-add_row Y push r t start c)
    ∙ ap (before 0) (push_word-add_row Y.base.prime (push_past Y push k) (push_past-rides Y push k r) t (push_power Y push k start)
    (spelled 0 h))
raise-add_row false Y push k e r t start h =
    ap (before (suc e)) (push_word-add_row Y.base.prime (push_past Y push k) (push_past-rides Y push k r) t start (spelled 0 h))

rides_from : (Y : RowedPresentation) (n k : ℕ) (t h x : List ℕ) (i : ℕ)
    → plain_push_from Y n k h (row_sum Y.base.prime x t) i ≡ add_row Y.base.prime t (plain_push_from Y n k h x i)
unfolding plain_push_from
rides_from Y zero k t h x i = refl
rides_from Y (suc n) k t [] x i = refl
rides_from Y (suc n) k t (e ∷ h) x (suc i) = ap (before e) (rides_from Y n (suc k) t h x i)
rides_from Y (suc n) k t (e ∷ h) x zero =
    raise-add_row (eqb (suc e) Y.base.prime) Y (plain Y n (suc k)) k e (λ t s i. rides_from Y n (suc k) t s.exponents s.row i) t
    (record { exponents = replicate n 0; row = x }) h

pub plain-rides : (Y : RowedPresentation) (n k : ℕ) → Rides Y.base.prime (plain Y n k)
plain-rides Y n k t s i = rides_from Y n k t s.exponents s.row i

-- states stay states
module _ (Y : RowedPresentation) (rowed : IsRowed Y) (positive : 0 < Y.base.prime) where
  pub push_power-state : (n : ℕ) (push : State → ℕ → State) (k : ℕ) → ((s : State) (i : ℕ) → IsState Y n s → IsState Y n (push s i))
      → (s : State) → IsState Y n s → IsState Y n (push_power Y push k s)
  push_power-state n push k keeps s h =
      add_row-state Y n (power_row Y k) (push_word push s (spelled 0 (power_side Y.base k))) positive (power_row-addable Y rowed k)
      (push_word-keeps push (IsState Y n) keeps s (spelled 0 (power_side Y.base k)) h)

  pub push_past-state : (n : ℕ) (push : State → ℕ → State) (k : ℕ) → ((s : State) (i : ℕ) → IsState Y n s → IsState Y n (push s i))
      → (s : State) (j : ℕ) → IsState Y n s → IsState Y n (push_past Y push k s j)
  push_past-state n push k keeps s j h =
      add_row-state Y n (commutator_row Y (suc (k + j)) k)
      (push_word push (push s j) (spelled (suc j) (commutator_side Y.base (suc (k + j)) k))) positive
      (commutator_row-addable Y rowed (suc (k + j)) k)
      (push_word-keeps push (IsState Y n) keeps (push s j) (spelled (suc j) (commutator_side Y.base (suc (k + j)) k)) (keeps s j h))

  start-state : (n : ℕ) (s : State) → IsState Y n s → IsState Y n (record { exponents = replicate n 0; row = s.row })
  start-state n s h = record { exponents = zeros-normal Y.base.prime n positive; row = h.row }

  module _ (n k : ℕ) (inner : (s : State) (i : ℕ) → IsState Y n s → IsState Y n (plain Y n (suc k) s i)) where
    past-kept : (s : State) (u : List ℕ) → IsState Y n s → IsState Y n (push_word (push_past Y (plain Y n (suc k)) k) s u)
    past-kept s u h =
        push_word-keeps (push_past Y (plain Y n (suc k)) k) (IsState Y n) (push_past-state n (plain Y n (suc k)) k inner) s u h

    before-kept : (i e : ℕ) (r : State) → e < Y.base.prime → IsState Y n r → IsState Y (suc n) (plain Y (suc n) k (before e r) i)
    before-kept (suc i) e r l h =
        subst (λ (z : State). IsState Y (suc n) z) (sym (plain-later Y n k e r i))
        (before-state Y n e (plain Y n (suc k) r i) l (inner r i h))
    before-kept zero e r l h = elim (cases_lt (suc e) Y.base.prime) [
      | inl m ↦
          subst (λ (z : State). IsState Y (suc n) z) (sym (plain-raise Y n k e r m))
          (before-state Y n (suc e) _ m
          (past-kept (record { exponents = replicate n 0; row = r.row }) (spelled 0 r.exponents) (start-state n r h)))
      | inr m ↦
          subst (λ (z : State). IsState Y (suc n) z) (sym (plain-carry Y n k e r (omega arith)))
          (before-state Y n 0 _ positive
          (past-kept (push_power Y (plain Y n (suc k)) k (record { exponents = replicate n 0; row = r.row })) (spelled 0 r.exponents)
          (push_power-state n (plain Y n (suc k)) k inner (record { exponents = replicate n 0; row = r.row }) (start-state n r h))))
    ]

  pub plain-state : (n k : ℕ) (s : State) (i : ℕ) → IsState Y n s → IsState Y n (plain Y n k s i)
  plain-state zero k s i h = subst (λ (z : State). IsState Y 0 z) (sym (plain-none Y k s i)) h
  plain-state (suc n) k s i h =
      let b = is_before Y n s h in
      subst (λ (z : State). IsState Y (suc n) (plain Y (suc n) k z i)) (sym b.same)
      (before-kept n k (plain-state n (suc k)) i b.exponent b.rest b.below b.state)

-- later letters leave an exponent
pub plain-later_word : (Y : RowedPresentation) (n k e : ℕ) (s : State) (u : List ℕ)
    → push_word (plain Y (suc n) k) (before e s) (map suc u) ≡ before e (push_word (plain Y n (suc k)) s u)
plain-later_word Y n k e s [] = refl
plain-later_word Y n k e s (i ∷ u) =
    ap (λ (z : State). push_word (plain Y (suc n) k) z (map suc u)) (plain-later Y n k e s i)
    ∙ plain-later_word Y n k e (plain Y n (suc k) s i) u

-- spelled exponents
pub map-replicate : (e i : ℕ) → map suc (replicate e i) ≡ replicate e (suc i)
map-replicate zero i = refl
map-replicate (suc e) i = ap (λ (u : List ℕ). suc i ∷ u) (map-replicate e i)

pub spelled-suc : (i : ℕ) (h : List ℕ) → spelled (suc i) h ≡ map suc (spelled i h)
spelled-suc i [] = refl
spelled-suc i (e ∷ h) =
    ap (λ (u : List ℕ). replicate e (suc i) ++ u) (spelled-suc (suc i) h)
    ∙ ap (λ (u : List ℕ). u ++ map suc (spelled (suc i) h)) (sym (map-replicate e i))
    ∙ sym (map-append suc (replicate e i) (spelled (suc i) h))

pub spelled-zeros : (i n : ℕ) → spelled i (replicate n 0) ≡ []
spelled-zeros i zero = refl
spelled-zeros i (suc n) = spelled-zeros (suc i) n

-- the letters of a state pushed on the state of zeros give the state
raised : (Y : RowedPresentation) (n k a e f : ℕ) (x : List ℕ) → a + e ≡ f → f < Y.base.prime
    → push_word (plain Y (suc n) k) (before a (record { exponents = replicate n 0; row = x })) (replicate e 0)
    ≡ before f (record { exponents = replicate n 0; row = x })
raised Y n k a zero f x s l =
    let e : a ≡ f = omega arith in
    ap (λ (m : ℕ). before m (record { exponents = replicate n 0; row = x })) e
raised Y n k a (suc e) f x s l =
    ap (λ (z : State). push_word (plain Y (suc n) k) z (replicate e 0))
    (plain-raise Y n k a (record { exponents = replicate n 0; row = x }) (omega arith)
    ∙ ap (λ (u : List ℕ). before (suc a) (push_word (push_past Y (plain Y n (suc k)) k) (record { exponents = replicate n 0; row = x }) u))
    (spelled-zeros 0 n))
    ∙ raised Y n k (suc a) e f x (omega arith) l

pub plain-spelled : (Y : RowedPresentation) (n k : ℕ) (h x : List ℕ) → IsNormal Y.base.prime n h
    → push_word (plain Y n k) (record { exponents = replicate n 0; row = x }) (spelled 0 h) ≡ record { exponents = h; row = x }
plain-spelled Y zero k [] x i = refl
plain-spelled Y zero k (e ∷ h) x i = let c = i.count in absurd (omega arith)
plain-spelled Y (suc n) k [] x i = let c = i.count in absurd (omega arith)
plain-spelled Y (suc n) k (e ∷ h) x i =
    let c = i.count in
    let rest : IsNormal Y.base.prime n h = record { count = omega arith; below = i.below.1 } in
    push_word-append (plain Y (suc n) k) (record { exponents = replicate (suc n) 0; row = x }) (replicate e 0) (spelled 1 h)
    ∙ ap (λ (z : State). push_word (plain Y (suc n) k) z (spelled 1 h)) (raised Y n k 0 e e x (omega arith) i.below.0)
    ∙ ap (push_word (plain Y (suc n) k) (before e (record { exponents = replicate n 0; row = x }))) (spelled-suc 0 h)
    ∙ plain-later_word Y n k e (record { exponents = replicate n 0; row = x }) (spelled 0 h)
    ∙ ap (before e) (plain-spelled Y n (suc k) h x rest)

-- so the configuration of a state pushed on the identity gives the state
pub push-configuration_of : (Y : RowedPresentation) (n k : ℕ) (s : State) → IsState Y n s
    → push_configuration Y (plain Y n k) (identity Y n) (record { word = spelled 0 s.exponents; row = s.row }) ≡ s
push-configuration_of Y n k s h =
    ap (add_row Y.base.prime s.row) (plain-spelled Y n k s.exponents (replicate Y.width 0) h.exponents)
    ∙ ap (λ (x : List ℕ). record { exponents = s.exponents; row = x }) (zeros-row_sum Y.base.prime Y.width s.row h.row)
