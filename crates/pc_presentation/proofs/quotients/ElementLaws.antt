-- What the calls on elements do to their lists: a tail adds a row with one 1, and a row is added place by place.
use Rattle.std.proofs.Common.{◌≡◌, ℕ, zero, suc, ◌+◌, ◌-◌, ◌%◌, ◌<◌, ◌≤◌, Bool, false, cond, eqb, List, [], ◌∷◌, ◌++◌, get_or, length}
use Rattle.std.proofs.Common.{replicate, refl, ap, ap₂, sym, ◌∙◌, subst, arith, inl, inr, add-zero, one-mul, mod-eq_of_lt}
use Rattle.std.proofs.Math.ListN.{set}
use Rattle.std.proofs.lemmas.Bool.Decides.{eqb_tells}
use Rattle.pq_base.specs.Table.{AllBelow}
use Rattle.fp_rows.specs.Rows.{add_scaled}
use Rattle.fp_rows.specs.Row.{PrimeRow, IsColumn}
use Rattle.pc_presentation.specs.Pcp.{unit_row}
use Rattle.pc_presentation.specs.Rowed.{row_sum}
use Rattle.pc_presentation.specs.Collection.{add_row}
use Rattle.pc_presentation.specs.Tailed.{Element, with_state}

-- a zero more
pub replicate_more : (n : ℕ) → replicate {A = ℕ} n 0 ++ 0 ∷ [] ≡ replicate {A = ℕ} (n + 1) 0
replicate_more zero = refl
replicate_more (suc n) =
    let more : suc (n + 1) ≡ suc n + 1 = omega arith in
    ap (λ (l : List ℕ). 0 ∷ l) (replicate_more n) ∙ ap (λ (k : ℕ). replicate {A = ℕ} k 0) more

pub add_scaled-row_sum : (p : ℕ) (xs ys : List ℕ) → length ys ≡ length xs → AllBelow p ys → add_scaled p 1 xs ys ≡ row_sum p xs ys
add_scaled-row_sum p [] [] h b = refl
add_scaled-row_sum p [] (y ∷ ys) h b = absurd (omega arith)
add_scaled-row_sum p (x ∷ xs) [] h b = absurd (omega arith)
add_scaled-row_sum p (x ∷ xs) (y ∷ ys) h b =
    ap₂ (λ (n : ℕ) (l : List ℕ). n ∷ l)
    (ap (λ (n : ℕ). (x + n) % p) (ap (λ (n : ℕ). n % p) (one-mul y) ∙ mod-eq_of_lt b.0))
    (add_scaled-row_sum p xs ys (omega arith) b.1)

row_sum-no_unit : (p : ℕ) (xs : List ℕ) → AllBelow p xs → row_sum p xs (unit_row (length xs) 0) ≡ xs
row_sum-no_unit p [] b = refl
row_sum-no_unit p (x ∷ xs) b =
    ap₂ (λ (n : ℕ) (l : List ℕ). n ∷ l) (ap (λ (n : ℕ). n % p) (add-zero x) ∙ mod-eq_of_lt b.0) (row_sum-no_unit p xs b.1)

no_unit_here : (k : ℕ) → eqb (suc (suc k)) 1 ≡ false
no_unit_here k = elim (eqb_tells (suc (suc k)) 1) [
  | inl t ↦ let e = t.1 in absurd (omega arith)
  | inr f ↦ f.0
]

pub row_sum-unit_row : (p : ℕ) (xs : List ℕ) (k : ℕ) → k < length xs → AllBelow p xs
    → row_sum p xs (unit_row (length xs) (suc k)) ≡ set xs k ((get_or xs k 0 + 1) % p)
row_sum-unit_row p [] k h b = absurd (omega arith)
row_sum-unit_row p (x ∷ xs) zero h b = ap (λ (l : List ℕ). (x + 1) % p ∷ l) (row_sum-no_unit p xs b.1)
row_sum-unit_row p (x ∷ xs) (suc k) h b =
    let less : suc (suc k) - 1 ≡ suc k = omega arith in
    ap (λ (c : Bool). row_sum p (x ∷ xs) (cond c 1 0 ∷ unit_row (length xs) (suc (suc k) - 1))) (no_unit_here k)
    ∙ ap₂ (λ (n : ℕ) (l : List ℕ). n ∷ l) (ap (λ (n : ℕ). n % p) (add-zero x) ∙ mod-eq_of_lt b.0)
    (ap (λ (m : ℕ). row_sum p xs (unit_row (length xs) m)) less ∙ row_sum-unit_row p xs k (omega arith) b.1)

-- an element of its parts
abbrev pub element_with : List ℕ → PrimeRow → Element
element_with e r = record { prime = r.prime; state = record { exponents = e; row = r.entries } }

abbrev pub row_with : ℕ → List ℕ → PrimeRow
row_with p l = record { prime = p; entries = l }

pub add_tails-is : (e : List ℕ) (tails row new : PrimeRow) (s : Element) → element_with e tails ≡ s
    → new ≡ row_with tails.prime (add_scaled tails.prime 1 tails.entries row.entries)
    → row.prime ≡ s.prime → length row.entries ≡ length s.state.row → AllBelow row.prime row.entries
    → element_with e new ≡ with_state s (add_row s.prime row.entries s.state)
add_tails-is e tails row new s v n p w b =
    subst (λ (z : Element). row.prime ≡ z.prime → length row.entries ≡ length z.state.row
    → element_with e new ≡ with_state z (add_row z.prime row.entries z.state)) v
    (λ q x. ap (element_with e) (n ∙ ap (row_with tails.prime)
    (add_scaled-row_sum tails.prime tails.entries row.entries x (subst (λ (m : ℕ). AllBelow m row.entries) q b))))
    p w

pub add_tail-is : (e : List ℕ) (tails new : PrimeRow) (s : Element) (column sum : ℕ) → element_with e tails ≡ s
    → new ≡ row_with tails.prime (set tails.entries (column - 1) sum)
    → sum ≡ (get_or tails.entries (column - 1) 0 + 1) % tails.prime
    → IsColumn s.state.row column → AllBelow tails.prime tails.entries
    → element_with e new ≡ with_state s (add_row s.prime (unit_row (length s.state.row) column) s.state)
add_tail-is e tails new s column sum v n q c b =
    subst (λ (z : Element). IsColumn z.state.row column
    → element_with e new ≡ with_state z (add_row z.prime (unit_row (length z.state.row) column) z.state)) v
    (λ d.
    let first : 1 ≤ column = d.first in
    let last : column ≤ length tails.entries = d.last in
    let more : suc (column - 1) ≡ column = omega arith in
    ap (element_with e)
    (n ∙ ap (row_with tails.prime)
    (ap (set tails.entries (column - 1)) q
    ∙ sym (row_sum-unit_row tails.prime tails.entries (column - 1) (omega arith) b)
    ∙ ap (λ (k : ℕ). row_sum tails.prime tails.entries (unit_row (length tails.entries) k)) more)))
    c
