-- Rows of the iterated relators and matrices of the endomorphisms, found one after the other.
use Rattle.std.proofs.Common.{◌≡◌, ◌⊎◌, ℕ, zero, suc, ◌+◌, ◌<◌, ℤ, List, [], ◌∷◌, ◌++◌, length, map, get_or, refl, ap, sym, ◌∙◌, subst}
use Rattle.std.proofs.Common.{arith, inl, inr, eq-or-lt_of_le}
use Rattle.std.specs.List.{All}
use Rattle.std.proofs.lemmas.List.{length_push, length-map}
use Rattle.std.proofs.lemmas.List.Elements.{All-push}
use Rattle.pq_base.specs.LPresentation.{LPresentation}
use Rattle.fp_rows.specs.Row.{PrimeRow}
use Rattle.fp_echelon.specs.Matrix.{PrimeMatrix, entries_of}
use Rattle.p_cover.specs.Covers.{CoverOf}
use Rattle.endo_lift.specs.Lifts.{HasRow, CarriesRows, IsMatrixOver}
use Rattle.relator_spin.specs.Closure.{matrix_at}
use Rattle.tower.specs.SpunParts.{IsRowOver}

-- a list of values, one longer
mapped-old : {X Y : Type 0} (f : X → Y) (xs : List X) (x : X) (i : ℕ) (d : Y) → i < length xs
    → get_or (map f (xs ++ x ∷ [])) i d ≡ get_or (map f xs) i d
mapped-old f [] x i d h = absurd (omega arith)
mapped-old f (y ∷ xs) x zero d h = refl
mapped-old f (y ∷ xs) x (suc i) d h = mapped-old f xs x i d (omega arith)

mapped-new : {X Y : Type 0} (f : X → Y) (xs : List X) (x : X) (i : ℕ) (d : Y) → i ≡ length xs → get_or (map f (xs ++ x ∷ [])) i d ≡ f x
mapped-new f [] x zero d h = refl
mapped-new f [] x (suc i) d h = absurd (omega arith)
mapped-new f (y ∷ xs) x zero d h = absurd (omega arith)
mapped-new f (y ∷ xs) x (suc i) d h = mapped-new f xs x i d (omega arith)

-- a list has as many values as members
pub counted : {X Y : Type 0} (f : X → Y) (xs : List X) (ys : List Y) → map f xs ≡ ys → length xs ≡ length ys
counted f xs ys e = sym (length-map xs f) ∙ ap length e

-- the last place, or one before it
last-or_before : (i n : ℕ) → i < n + 1 → (i ≡ n) ⊎ (i < n)
last-or_before i n l = eq-or-lt_of_le (omega (arith, l))

-- the rows of the first n iterated relators
pub record AreGivenSoFar (L : LPresentation) (C : CoverOf) (n : ℕ) (xs : List PrimeRow) : Type 0 where
  pub count : length xs ≡ n
  pub over : All (IsRowOver C) xs
  pub rows : (i : ℕ) → i < n → HasRow C (get_or L.iterated i []) (get_or (entries_of xs) i [])

pub given-more : (L : LPresentation) (C : CoverOf) (n : ℕ) (xs ys : List PrimeRow) (x : PrimeRow) (w : List ℤ) → AreGivenSoFar L C n xs
    → IsRowOver C x → get_or L.iterated n [] ≡ w → HasRow C w x.entries → ys ≡ xs ++ x ∷ [] → AreGivenSoFar L C (n + 1) ys
given-more L C n xs ys x w given over word row pushed =
    let count = given.count in
    subst (AreGivenSoFar L C (n + 1)) (sym pushed)
    (record {
      count = length_push xs x ∙ ap (λ (k : ℕ). k + 1) count;
      over = All-push (IsRowOver C) xs x given.over over;
      rows = λ i l.
          elim (last-or_before i n l) [
            | inl e ↦
                let here : i ≡ length xs = omega arith in
                subst (λ (y : List ℕ). HasRow C (get_or L.iterated i []) y) (sym (mapped-new (λ (r : PrimeRow). r.entries) xs x i [] here))
                (subst (λ (v : List ℤ). HasRow C v x.entries) (sym (ap (λ (k : ℕ). get_or L.iterated k []) e ∙ word)) row)
            | inr before ↦
                subst (λ (y : List ℕ). HasRow C (get_or L.iterated i []) y)
                (sym (mapped-old (λ (r : PrimeRow). r.entries) xs x i [] (omega arith))) (given.rows i before)
          ];
    })

-- the matrices of the first n endomorphisms
pub record AreLiftsSoFar (C : CoverOf) (endos : List (List (List ℤ))) (n : ℕ) (ms : List PrimeMatrix) : Type 0 where
  pub count : length ms ≡ n
  pub matrices : All (IsMatrixOver C) ms
  pub carry : (e : ℕ) → e < n → CarriesRows C (get_or endos e []) (matrix_at ms (suc e))

pub lifts-more : (C : CoverOf) (endos : List (List (List ℤ))) (n : ℕ) (ms ns : List PrimeMatrix) (m : PrimeMatrix)
    → AreLiftsSoFar C endos n ms
    → IsMatrixOver C m → CarriesRows C (get_or endos n []) m.rows → ns ≡ ms ++ m ∷ [] → AreLiftsSoFar C endos (n + 1) ns
lifts-more C endos n ms ns m lifts over carries pushed =
    let count = lifts.count in
    subst (AreLiftsSoFar C endos (n + 1)) (sym pushed)
    (record {
      count = length_push ms m ∙ ap (λ (k : ℕ). k + 1) count;
      matrices = All-push (IsMatrixOver C) ms m lifts.matrices over;
      carry = λ e l.
          elim (last-or_before e n l) [
            | inl same ↦
                let here : e ≡ length ms = omega arith in
                subst (λ (rows : List (List ℕ)). CarriesRows C (get_or endos e []) rows)
                (sym (mapped-new (λ (k : PrimeMatrix). k.rows) ms m e [] here))
                (subst (λ (k : ℕ). CarriesRows C (get_or endos k []) m.rows) (sym same) carries)
            | inr before ↦
                subst (λ (rows : List (List ℕ)). CarriesRows C (get_or endos e []) rows)
                (sym (mapped-old (λ (k : PrimeMatrix). k.rows) ms m e [] (omega arith))) (lifts.carry e before)
          ];
    })
