-- Rows with their sum are a commutative monoid, and sums of rows of residues are rows of residues. Rows added to a
-- state are added in any order.
use Rattle.std.proofs.Common.{drop, ◌≡◌, ℕ, zero, suc, ◌+◌, ◌-◌, ◌%◌, ◌<◌, ◌≤◌, List, [], ◌∷◌, length, get_or, replicate, refl, ap, sym}
use Rattle.std.proofs.Common.{◌∙◌, subst, arith, ◌⊎◌, inl, inr, mod-eq_of_lt}
use Rattle.std.proofs.lemmas.List.{length-replicate}
use Rattle.std.proofs.lemmas.Bool.{cases_lt}
use Rattle.std.proofs.Math.Nat.{add-mod-mod, mod-add-mod, add-zero, mod_self}
use Rattle.std.proofs.Math.ListN.{get_or-eq_default}
use Rattle.pq_base.specs.Table.{AllBelow}
use Rattle.pq_base.specs.Presentation.{IsNormal}
use Rattle.fp_rows.proofs.RowLaws.{length-negative_row, negative_row-below}
use Rattle.fp_rows.specs.Rows.{negative_row}
use Rattle.pc_presentation.specs.Rowed.{RowedPresentation, IsRowed, power_row, commutator_row, row_sum}
use Rattle.pc_presentation.specs.Collection.{State, IsState, add_row, before, identity}

pub row_sum-nil : (p : ℕ) (x : List ℕ) → row_sum p x [] ≡ x
row_sum-nil p [] = refl
row_sum-nil p (a ∷ x) = refl

pub row_sum-comm : (p : ℕ) (x y : List ℕ) → row_sum p x y ≡ row_sum p y x
row_sum-comm p [] [] = refl
row_sum-comm p [] (b ∷ y) = refl
row_sum-comm p (a ∷ x) [] = refl
row_sum-comm p (a ∷ x) (b ∷ y) =
    let e : a + b ≡ b + a = omega arith in
    ap (λ (n : ℕ). n % p ∷ row_sum p x y) e ∙ ap (λ (z : List ℕ). (b + a) % p ∷ z) (row_sum-comm p x y)

entries-assoc : (p a b c : ℕ) → ((a + b) % p + c) % p ≡ (a + (b + c) % p) % p
entries-assoc p a b c =
    let e : (a + b) + c ≡ a + (b + c) = omega arith in
    mod-add-mod (a + b) p c ∙ ap (λ (n : ℕ). n % p) e ∙ sym (add-mod-mod a (b + c) p)

pub row_sum-assoc : (p : ℕ) (x y z : List ℕ) → row_sum p (row_sum p x y) z ≡ row_sum p x (row_sum p y z)
row_sum-assoc p [] y z = refl
row_sum-assoc p (a ∷ x) [] z = refl
row_sum-assoc p (a ∷ x) (b ∷ y) [] = refl
row_sum-assoc p (a ∷ x) (b ∷ y) (c ∷ z) =
    ap (λ (n : ℕ). n ∷ row_sum p (row_sum p x y) z) (entries-assoc p a b c)
    ∙ ap (λ (w : List ℕ). (a + (b + c) % p) % p ∷ w) (row_sum-assoc p x y z)

-- (x + y) + z = (x + z) + y
pub row_sum-swap : (p : ℕ) (x y z : List ℕ) → row_sum p (row_sum p x y) z ≡ row_sum p (row_sum p x z) y
row_sum-swap p x y z = row_sum-assoc p x y z ∙ ap (row_sum p x) (row_sum-comm p y z) ∙ sym (row_sum-assoc p x z y)

-- zeros
pub AllBelow-zeros : (p n : ℕ) → 0 < p → AllBelow p (replicate n 0)
AllBelow-zeros p zero h = tt
AllBelow-zeros p (suc n) h = (h, AllBelow-zeros p n h)

pub zeros-normal : (p n : ℕ) → 0 < p → IsNormal p n (replicate n 0)
zeros-normal p n h = record { count = length-replicate n 0; below = AllBelow-zeros p n h }

sum_with_zeros : (p : ℕ) (x : List ℕ) → AllBelow p x → row_sum p x (replicate (length x) 0) ≡ x
sum_with_zeros p [] h = refl
sum_with_zeros p (a ∷ x) h =
    let e : (a + 0) % p ≡ a = ap (λ (n : ℕ). n % p) (add-zero a) ∙ mod-eq_of_lt h.0 in
    ap (λ (n : ℕ). n ∷ row_sum p x (replicate (length x) 0)) e ∙ ap (λ (y : List ℕ). a ∷ y) (sum_with_zeros p x h.1)

pub row_sum-zeros : (p q : ℕ) (x : List ℕ) → IsNormal p q x → row_sum p x (replicate q 0) ≡ x
row_sum-zeros p q x h = subst (λ (n : ℕ). row_sum p x (replicate n 0) ≡ x) h.count (sum_with_zeros p x h.below)

pub zeros-row_sum : (p q : ℕ) (x : List ℕ) → IsNormal p q x → row_sum p (replicate q 0) x ≡ x
zeros-row_sum p q x h = row_sum-comm p (replicate q 0) x ∙ row_sum-zeros p q x h

-- residues
pub AllBelow-row_sum : (p : ℕ) (x y : List ℕ) → 0 < p → AllBelow p x → AllBelow p y → AllBelow p (row_sum p x y)
AllBelow-row_sum p [] y l h i = i
AllBelow-row_sum p (a ∷ x) [] l h i = h
AllBelow-row_sum p (a ∷ x) (b ∷ y) l h i =
    let e : (a + b) % p < p = omega arith in
    (e, AllBelow-row_sum p x y l h.1 i.1)

length-row_sum : (p : ℕ) (x y : List ℕ) → length x ≡ length y → length (row_sum p x y) ≡ length x
length-row_sum p [] [] e = refl
length-row_sum p [] (b ∷ y) e = cc
length-row_sum p (a ∷ x) [] e = refl
length-row_sum p (a ∷ x) (b ∷ y) e = ap suc (length-row_sum p x y (omega arith))

pub row_sum-normal : (p q : ℕ) (x y : List ℕ) → 0 < p → IsNormal p q x → IsNormal p q y → IsNormal p q (row_sum p x y)
row_sum-normal p q x y l h i = record {
  count = length-row_sum p x y (h.count ∙ sym i.count) ∙ h.count;
  below = AllBelow-row_sum p x y l h.below i.below;
}

-- a row of q residues, or no row at all
abbrev pub IsAddable : ℕ → ℕ → List ℕ → Type 0
IsAddable p q t = (t ≡ []) ⊎ IsNormal p q t

pub row_sum-addable : (p q : ℕ) (x t : List ℕ) → 0 < p → IsNormal p q x → IsAddable p q t → IsNormal p q (row_sum p x t)
row_sum-addable p q x t l h (inl e) = subst (λ (y : List ℕ). IsNormal p q y) (sym (ap (row_sum p x) e ∙ row_sum-nil p x)) h
row_sum-addable p q x t l h (inr i) = row_sum-normal p q x t l h i

pub power_row-addable : (Y : RowedPresentation) → IsRowed Y → (i : ℕ) → IsAddable Y.base.prime Y.width (power_row Y i)
power_row-addable Y r i = elim (cases_lt i Y.base.rank) [
  | inl h ↦ inr (r.power_rows i h)
  | inr h ↦ let c = r.power_count in let l : length Y.power_rows ≤ i = omega arith in inl (get_or-eq_default Y.power_rows [] l)
]

pub commutator_row-addable : (Y : RowedPresentation) → IsRowed Y → (j i : ℕ) → IsAddable Y.base.prime Y.width (commutator_row Y j i)
commutator_row-addable Y r j i = elim (cases_lt j Y.base.rank) [
  | inl h ↦ elim (cases_lt i j) [
    | inl m ↦ inr (r.commutator_rows j i h m)
    | inr m ↦
        let c = r.commutator_counts j h in
        let l : length (get_or Y.commutator_rows j []) ≤ i = omega arith in
        inl (get_or-eq_default (get_or Y.commutator_rows j []) [] l)
  ]
  | inr h ↦
      let c = r.commutator_count in
      let l : length Y.commutator_rows ≤ j = omega arith in
      let e : get_or Y.commutator_rows j [] ≡ [] = get_or-eq_default Y.commutator_rows [] l in
      inl (ap (λ (x : List (List ℕ)). get_or x i []) e)
]

-- rows added to a state
pub add_row-swap : (p : ℕ) (t u : List ℕ) (s : State) → add_row p t (add_row p u s) ≡ add_row p u (add_row p t s)
add_row-swap p t u s = ap (λ (x : List ℕ). record { exponents = s.exponents; row = x }) (row_sum-swap p s.row u t)

pub add_row-add_row : (p : ℕ) (t u : List ℕ) (s : State) → add_row p t (add_row p u s) ≡ add_row p (row_sum p u t) s
add_row-add_row p t u s = ap (λ (x : List ℕ). record { exponents = s.exponents; row = x }) (row_sum-assoc p s.row u t)

pub add_row-nil : (p : ℕ) (s : State) → add_row p [] s ≡ s
add_row-nil p s = ap (λ (x : List ℕ). record { exponents = s.exponents; row = x }) (row_sum-nil p s.row)

-- states
pub identity-state : (Y : RowedPresentation) (n : ℕ) → 0 < Y.base.prime → IsState Y n (identity Y n)
identity-state Y n h = record { exponents = zeros-normal Y.base.prime n h; row = zeros-normal Y.base.prime Y.width h }

pub add_row-state : (Y : RowedPresentation) (n : ℕ) (t : List ℕ) (s : State) → 0 < Y.base.prime
    → IsAddable Y.base.prime Y.width t → IsState Y n s → IsState Y n (add_row Y.base.prime t s)
add_row-state Y n t s l a h = record { exponents = h.exponents; row = row_sum-addable Y.base.prime Y.width s.row t l h.row a }

pub before-state : (Y : RowedPresentation) (n e : ℕ) (s : State) → e < Y.base.prime → IsState Y n s → IsState Y (suc n) (before e s)
before-state Y n e s l h = record {
  exponents = record { count = ap suc h.exponents.count; below = (l, h.exponents.below) };
  row = h.row;
}

pub before-injective : (e : ℕ) (s t : State) → before e s ≡ before e t → s ≡ t
before-injective e s t q = ap (λ (z : State). record { exponents = drop 1 z.exponents; row = z.row }) q

-- a state of at least one generator is an exponent before a state
pub record IsBefore (Y : RowedPresentation) (n : ℕ) (s : State) : Type 0 where
  pub exponent : ℕ
  pub rest : State
  pub same : s ≡ before exponent rest
  pub below : exponent < Y.base.prime
  pub state : IsState Y n rest

is_before_with : (Y : RowedPresentation) (n : ℕ) (h x : List ℕ) → IsState Y (suc n) (record { exponents = h; row = x })
    → IsBefore Y n (record { exponents = h; row = x })
is_before_with Y n [] x i = let c = i.exponents.count in absurd (omega arith)
is_before_with Y n (e ∷ h) x i =
    let c = i.exponents.count in
    record {
      exponent = e;
      rest = record { exponents = h; row = x };
      same = refl;
      below = i.exponents.below.0;
      state = record { exponents = record { count = omega arith; below = i.exponents.below.1 }; row = i.row };
    }

pub is_before : (Y : RowedPresentation) (n : ℕ) (s : State) → IsState Y (suc n) s → IsBefore Y n s
is_before Y n s i = is_before_with Y n s.exponents s.row i

-- a row and its negative
pub negative_row-normal : (p q : ℕ) (x : List ℕ) → 0 < p → IsNormal p q x → IsNormal p q (negative_row p x)
negative_row-normal p q x l h = record { count = length-negative_row p x ∙ h.count; below = negative_row-below p x l }

sum_with_negative : (p : ℕ) (x : List ℕ) → AllBelow p x → row_sum p x (negative_row p x) ≡ replicate (length x) 0
sum_with_negative p [] h = refl
sum_with_negative p (a ∷ x) h =
    let l = h.0 in
    let e : a + (p - a) ≡ p = omega arith in
    let z : (a + (p - a) % p) % p ≡ 0 = add-mod-mod a (p - a) p ∙ ap (λ (m : ℕ). m % p) e ∙ mod_self p in
    ap (λ (m : ℕ). m ∷ row_sum p x (negative_row p x)) z ∙ ap (λ (y : List ℕ). 0 ∷ y) (sum_with_negative p x h.1)

pub row_sum-negative_row : (p q : ℕ) (x : List ℕ) → IsNormal p q x → row_sum p x (negative_row p x) ≡ replicate q 0
row_sum-negative_row p q x h = sum_with_negative p x h.below ∙ ap (λ (m : ℕ). replicate m 0) h.count
