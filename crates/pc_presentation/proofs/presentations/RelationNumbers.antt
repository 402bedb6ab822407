-- The numbers of the relations of n generators are below their count, and no two relations share one.
use Rattle.std.proofs.Common.{◌≡◌, ◌≢◌, ◌⊎◌, ℕ, zero, suc, ◌+◌, ◌-◌, ◌*◌, ◌/◌, ◌<◌, ◌≤◌, refl, ap, sym, ◌∙◌, subst, arith, inl, inr}
use Rattle.std.proofs.lemmas.Bool.{cases_eq, cases_lt}
use Rattle.pq_base.specs.Limits.{max_rank}
use Rattle.pc_presentation.specs.declared.relation.Relation.{Relation}
use Rattle.pc_presentation.specs.declared.relation.Relation.TheVariants.{Power, Commutator}
use Rattle.pc_presentation.specs.Relation.{IsRelation, triangular, relation_number, relation_count}

triangular-double : (n : ℕ) → 2 * triangular (suc n) ≡ suc n * n
triangular-double zero = refl
triangular-double (suc n) = omega (arith, triangular-double n)

half_of_double : (m k : ℕ) → 2 * m ≡ k → k / 2 ≡ m
half_of_double m k e = omega arith

pub triangular_half : (n : ℕ) → n * (n - 1) / 2 ≡ triangular n
triangular_half zero = refl
triangular_half (suc n) =
    let less : suc n - 1 ≡ n = omega arith in
    ap (λ (m : ℕ). suc n * m / 2) less ∙ half_of_double (triangular (suc n)) (suc n * n) (triangular-double n)

pub triangular_mono : (m n : ℕ) → m ≤ n → triangular m ≤ triangular n
triangular_mono m zero h = let e : m ≡ 0 = omega arith in subst (λ (k : ℕ). triangular k ≤ 0) (sym e) (omega arith)
triangular_mono m (suc n) h = elim (cases_lt m (suc n)) [
  | inl below ↦ omega (arith, triangular_mono m n (omega arith))
  | inr above ↦ let e : m ≡ suc n = omega arith in subst (λ (k : ℕ). triangular k ≤ triangular (suc n)) (sym e) (omega arith)
]

-- a place in a row is before every later row
row_before : (a b i : ℕ) → a < b → i < a → triangular a + i < triangular b
row_before a b i h l = omega (arith, triangular_mono (suc a) b (omega arith))

pub relation_number-below : (n : ℕ) (r : Relation) → IsRelation n r → relation_number n r < relation_count n
relation_number-below n (Power i) h = omega arith
relation_number-below n (Commutator j i) h = omega (arith, row_before (j - 1) n (i - 1) (omega arith) (omega arith))

same_row : (a b i j : ℕ) → i < a → j < b → triangular a + i ≡ triangular b + j → a ≡ b
same_row a b i j h k e = elim (cases_lt a b) [
  | inl less ↦ absurd (omega (arith, row_before a b i less h))
  | inr not_less ↦ elim (cases_lt b a) [
    | inl more ↦ absurd (omega (arith, row_before b a j more k))
    | inr not_more ↦ omega arith
  ]
]

pub relation_number-injective : (n : ℕ) (q r : Relation) → IsRelation n q → IsRelation n r → relation_number n q ≡ relation_number n r
    → q ≡ r
relation_number-injective n (Power i) (Power k) h l e = let same : i ≡ k = omega arith in ap Power same
relation_number-injective n (Power i) (Commutator l k) h m e = absurd (omega arith)
relation_number-injective n (Commutator j i) (Power k) h l e = absurd (omega arith)
relation_number-injective n (Commutator j i) (Commutator l k) h m e =
    let row : j - 1 ≡ l - 1 = same_row (j - 1) (l - 1) (i - 1) (k - 1) (omega arith) (omega arith) (omega arith) in
    let place : triangular (j - 1) ≡ triangular (l - 1) = ap triangular row in
    let same_j : j ≡ l = omega arith in
    let same_i : i ≡ k = omega arith in
    ap (λ (x : ℕ). Commutator x i) same_j ∙ ap (Commutator l) same_i

-- two relations are one or not
pub same_or_other : (n : ℕ) (q r : Relation) → IsRelation n q → IsRelation n r → (q ≡ r) ⊎ (q ≢ r)
same_or_other n q r l h = elim (cases_eq (relation_number n q) (relation_number n r)) [
  | inl e ↦ inl (relation_number-injective n q r l h e)
  | inr ne ↦ inr (λ (e : q ≡ r). ne (ap (relation_number n) e))
]

pub triangular_limit : (n : ℕ) → n ≤ max_rank → triangular n ≤ triangular max_rank
triangular_limit n h = triangular_mono n max_rank h
