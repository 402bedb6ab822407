-- What a call of a row leaves in its memory: residues again, of which there are as many.
use Rattle.std.proofs.Common.{◌≡◌, ◌≢◌, ◌↔◌, ℕ, suc, ◌-◌, ◌<◌, ◌≤◌, Bool, true, false, ◌&&◌, eqb, IsTrue, List, [], ◌∷◌, ◌++◌, length}
use Rattle.std.proofs.Common.{get_or, take, refl, ap, subst, sym, ◌∙◌, arith, eq-eqb}
use borrow.Author.Tests.{eqb-true}
use Rattle.std.specs.List.{list_all}
use Rattle.std.proofs.Math.ListN.{set, length-set}
use Rattle.std.proofs.lemmas.List.{take_at, length-replicate}
use Rattle.pq_base.specs.Table.{AllBelow}
use Rattle.pq_base.specs.Prime.{prime_value}
use Rattle.pq_base.specs.declared.prime.Prime.{Prime}
use Rattle.pq_base.specs.declared.prime.Prime.TheVariants.{P2, P3, P5, P7}
use Rattle.pq_base.specs.Elementary.{zeros}
use Rattle.pq_base.proofs.ElementarySides.{zeros-below}
use Rattle.fp_rows.specs.Row.{at_column, IsColumn, IsZeroRow, IsLastNonzero}
use Rattle.fp_rows.proofs.BelowLaws.{AllBelow-set}
use Rattle.fp_rows.proofs.EntryLaws.{IsZeroRow-from_entries}

pub prime_value-pos : (q : Prime) → 0 < prime_value q
prime_value-pos P2 = omega arith
prime_value-pos P3 = omega arith
prime_value-pos P5 = omega arith
prime_value-pos P7 = omega arith

pub prime_value-two : (q : Prime) → 2 ≤ prime_value q
prime_value-two P2 = omega arith
prime_value-two P3 = omega arith
prime_value-two P5 = omega arith
prime_value-two P7 = omega arith

-- the invariant of a row
abbrev pub Holds : Prime → List ℕ → Type 0
Holds q xs = AllBelow (prime_value q) xs × (length xs ≤ 65535)

pub Holds-stored : (q : Prime) (n : ℕ) (new rest : List ℕ) → length new ≡ n → n ≤ 65535 → AllBelow (prime_value q) new
    → Holds q (take n (new ++ rest))
Holds-stored q n new rest long few below =
    rw (take_at new rest n long) (below, omega arith)

pub Holds-zeros : (q : Prime) (n : ℕ) → n ≤ 65535 → Holds q (zeros n)
Holds-zeros q n few = (zeros-below (prime_value q) n (prime_value-pos q), omega (arith, length-replicate {A = ℕ} n 0))

pub Holds-set : (q : Prime) (xs : List ℕ) (i x : ℕ) → x < prime_value q → Holds q xs → Holds q (set xs i x)
Holds-set q xs i x h holds = (AllBelow-set (prime_value q) xs i x h holds.0, omega (arith, length-set xs i x, holds.1))

-- a row is zero where each column is, and where the test of each entry says so
pub IsZeroRow-from_columns : (xs : List ℕ) → ((c : ℕ) → 0 < c → at_column xs c ≡ 0) → IsZeroRow xs
IsZeroRow-from_columns xs h =
    IsZeroRow-from_entries xs (λ i l.
    let same : suc i - 1 ≡ i = omega arith in
    ap (λ (j : ℕ). get_or xs j 0) (sym same) ∙ h (suc i) (omega arith))

both : (a b : Bool) → IsTrue (a && b) → IsTrue a × IsTrue b
both true b h = (refl, h)
both false b h = cc

list_all-IsZeroRow : (xs : List ℕ) → IsTrue (list_all (λ x. eqb x 0) xs) → IsZeroRow xs
list_all-IsZeroRow [] h = tt
list_all-IsZeroRow (x ∷ xs) h =
    let t = both (eqb x 0) (list_all (λ y. eqb y 0) xs) h in
    (eqb-true x 0 t.0, list_all-IsZeroRow xs t.1)

IsZeroRow-list_all : (xs : List ℕ) → IsZeroRow xs → IsTrue (list_all (λ x. eqb x 0) xs)
IsZeroRow-list_all [] h = refl
IsZeroRow-list_all (x ∷ xs) h =
    ap (λ (b : Bool). b && list_all (λ y. eqb y 0) xs) (eq-eqb x 0 h.0) ∙ IsZeroRow-list_all xs h.1

pub IsZeroRow-tested : (xs : List ℕ) (b : Bool) → b ≡ list_all (λ x. eqb x 0) xs → IsTrue b ↔ IsZeroRow xs
IsZeroRow-tested xs b e =
    (λ h. list_all-IsZeroRow xs (subst IsTrue e h), λ h. subst IsTrue (sym e) (IsZeroRow-list_all xs h))

-- the last column that isn't 0 is the one found from behind
pub IsLastNonzero-found : (xs : List ℕ) (c x : ℕ) → IsColumn xs c → x ≡ at_column xs c → x ≢ 0
    → ((d : ℕ) → c < d → at_column xs d ≡ 0) → IsLastNonzero xs c
IsLastNonzero-found xs c x column is nonzero after = record {
  column = column;
  nonzero = λ zero. nonzero (is ∙ zero);
  zero_after = after;
}
