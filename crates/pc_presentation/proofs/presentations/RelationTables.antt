-- The table of a function of the relations of n generators: its entries are the function's values, and a table with one
-- entry replaced is that of the function with one value replaced.
use Rattle.std.proofs.Common.{◌≡◌, ◌≢◌, ℕ, zero, suc, ◌+◌, ◌-◌, ◌<◌, ◌≤◌, List, [], ◌∷◌, ◌++◌, get_or, length, refl, ap, sym, ◌∙◌, arith}
use Rattle.std.proofs.Math.ListN.{set}
use Rattle.pc_presentation.specs.declared.relation.Relation.{Relation}
use Rattle.pc_presentation.specs.declared.relation.Relation.TheVariants.{Power, Commutator}
use Rattle.pc_presentation.specs.Relation.{IsRelation, PerRelation, entry_at, with_entry, tabulate, per_relation}
use Rattle.pc_presentation.specs.Pcp.{HasShape}

pub length-tabulate : {X : Type 0} (n : ℕ) (f : ℕ → X) → length (tabulate n f) ≡ n
length-tabulate zero f = refl
length-tabulate {X} (suc n) f = ap suc (length-tabulate {X = X} n (λ i. f (suc i)))

pub get_or-tabulate : {X : Type 0} (n : ℕ) (f : ℕ → X) (i : ℕ) (d : X) → i < n → get_or (tabulate n f) i d ≡ f i
get_or-tabulate zero f i d h = absurd (omega arith)
get_or-tabulate (suc n) f zero d h = refl
get_or-tabulate {X} (suc n) f (suc i) d h = get_or-tabulate {X = X} n (λ k. f (suc k)) i d (omega arith)

-- two functions that agree below n have one list
pub tabulate_agree : {X : Type 0} (n : ℕ) (f g : ℕ → X) → ((i : ℕ) → i < n → f i ≡ g i) → tabulate n f ≡ tabulate n g
tabulate_agree zero f g h = refl
tabulate_agree {X} (suc n) f g h =
    ap (λ (x : X). x ∷ tabulate n (λ i. f (suc i))) (h 0 (omega arith))
    ∙ ap (λ (xs : List X). g 0 ∷ xs) (tabulate_agree {X = X} n (λ i. f (suc i)) (λ i. g (suc i)) (λ i l. h (suc i) (omega arith)))

-- one value more
pub tabulate_more : {X : Type 0} (n : ℕ) (f : ℕ → X) → tabulate n f ++ f n ∷ [] ≡ tabulate (n + 1) f
tabulate_more zero f = refl
tabulate_more {X} (suc n) f =
    let more : suc (n + 1) ≡ suc n + 1 = omega arith in
    ap (λ (xs : List X). f 0 ∷ xs) (tabulate_more {X = X} n (λ i. f (suc i))) ∙ ap (λ (m : ℕ). tabulate m f) more

pub set-tabulate : {X : Type 0} (n : ℕ) (f g : ℕ → X) (k : ℕ) (x : X) → k < n → g k ≡ x
    → ((i : ℕ) → i < n → i ≢ k → g i ≡ f i) → set (tabulate n f) k x ≡ tabulate n g
set-tabulate zero f g k x l e h = absurd (omega arith)
set-tabulate {X} (suc n) f g zero x l e h =
    ap (λ (y : X). y ∷ tabulate n (λ i. f (suc i))) (sym e)
    ∙ ap (λ (xs : List X). g 0 ∷ xs) (tabulate_agree {X = X} n (λ i. f (suc i)) (λ i. g (suc i))
    (λ i m. sym (h (suc i) (omega arith) (λ (z : suc i ≡ 0). absurd (omega arith)))))
set-tabulate {X} (suc n) f g (suc k) x l e h =
    ap (λ (y : X). y ∷ set (tabulate n (λ i. f (suc i))) k x) (sym (h 0 (omega arith) (λ (z : 0 ≡ suc k). absurd (omega arith))))
    ∙ ap (λ (xs : List X). g 0 ∷ xs) (set-tabulate {X = X} n (λ i. f (suc i)) (λ i. g (suc i)) k x (omega arith) e
    (λ i m ne. h (suc i) (omega arith) (λ (z : suc i ≡ suc k). ne (omega arith))))

after_less : (i : ℕ) → 1 ≤ i → suc (i - 1) ≡ i
after_less i h = omega arith

power_number : (i k : ℕ) → Power i ≡ Power k → i ≡ k
power_number i k e = cc

first_number : (j i l k : ℕ) → Commutator j i ≡ Commutator l k → j ≡ l
first_number j i l k e = cc

second_number : (j i l k : ℕ) → Commutator j i ≡ Commutator l k → i ≡ k
second_number j i l k e = cc

power_no_commutator : (i j k : ℕ) → Power i ≢ Commutator j k
power_no_commutator i j k e = cc

module _ {X : Type 0} where
  pub entry_at-per_relation : (n : ℕ) (f : Relation → X) (d : X) (r : Relation) → IsRelation n r → entry_at d (per_relation n f) r ≡ f r
  entry_at-per_relation n f d (Power i) h =
      get_or-tabulate n (λ k. f (Power (suc k))) (i - 1) d (omega arith) ∙ ap (λ (k : ℕ). f (Power k)) (after_less i h.0)
  entry_at-per_relation n f d (Commutator j i) h =
      ap (λ (row : List X). get_or row (i - 1) d)
      (get_or-tabulate n (λ l. tabulate l (λ k. f (Commutator (suc l) (suc k)))) (j - 1) [] (omega arith))
      ∙ get_or-tabulate (j - 1) (λ k. f (Commutator (suc (j - 1)) (suc k))) (i - 1) d (omega arith)
      ∙ ap (λ (k : ℕ). f (Commutator k (suc (i - 1)))) (after_less j (omega arith))
      ∙ ap (λ (k : ℕ). f (Commutator j k)) (after_less i h.0)

  pub per_relation-shape : (n : ℕ) (f : Relation → X) → HasShape n (per_relation n f)
  per_relation-shape n f = record {
    power_count = length-tabulate n (λ i. f (Power (suc i)));
    row_count = length-tabulate n (λ j. tabulate j (λ i. f (Commutator (suc j) (suc i))));
    row_lengths = λ j h.
        ap (length {A = X}) (get_or-tabulate n (λ l. tabulate l (λ k. f (Commutator (suc l) (suc k)))) j [] h)
        ∙ length-tabulate j (λ k. f (Commutator (suc j) (suc k)));
  }

  -- two functions that agree on the relations of n generators have one table
  pub per_relation_agree : (n : ℕ) (f g : Relation → X) → ((q : Relation) → IsRelation n q → f q ≡ g q)
      → per_relation n f ≡ per_relation n g
  per_relation_agree n f g h =
      ap (λ (ps : List X). let t : PerRelation X =
      record { powers = ps; commutators = tabulate n (λ j. tabulate j (λ i. f (Commutator (suc j) (suc i)))) } in t)
      (tabulate_agree n (λ i. f (Power (suc i))) (λ i. g (Power (suc i))) (λ i l. h (Power (suc i)) (omega arith, omega arith)))
      ∙ ap (λ (cs : List (List X)). let t : PerRelation X = record { powers = tabulate n (λ i. g (Power (suc i))); commutators = cs } in t)
      (tabulate_agree n (λ j. tabulate j (λ i. f (Commutator (suc j) (suc i)))) (λ j. tabulate j (λ i. g (Commutator (suc j) (suc i))))
      (λ j l. tabulate_agree j (λ i. f (Commutator (suc j) (suc i))) (λ i. g (Commutator (suc j) (suc i)))
      (λ i m. h (Commutator (suc j) (suc i)) (omega arith, omega arith, omega arith))))

  -- g is f with the value x at r
  pub record Replaces (n : ℕ) (f g : Relation → X) (r : Relation) (x : X) : Type 0 where
    pub relation : IsRelation n r
    pub here : g r ≡ x
    pub elsewhere : (q : Relation) → IsRelation n q → q ≢ r → g q ≡ f q

  powers_replaced : (n : ℕ) (f g : Relation → X) (i : ℕ) (x : X) → Replaces n f g (Power (suc i)) x
      → with_entry (per_relation n f) (Power (suc i)) x ≡ per_relation n g
  powers_replaced n f g i x p =
      let place : suc i - 1 ≡ i = omega arith in
      let inside : i < n = omega (arith, p.relation) in
      ap (λ (ps : List X). let t : PerRelation X =
      record { powers = ps; commutators = tabulate n (λ j. tabulate j (λ k. f (Commutator (suc j) (suc k)))) } in t)
      (ap (λ (k : ℕ). set (tabulate n (λ l. f (Power (suc l)))) k x) place
      ∙ set-tabulate n (λ l. f (Power (suc l))) (λ l. g (Power (suc l))) i x inside p.here
      (λ k l ne. p.elsewhere (Power (suc k)) (omega arith, omega arith)
      (λ (e : Power (suc k) ≡ Power (suc i)). let same : suc k ≡ suc i = power_number (suc k) (suc i) e in ne (omega arith))))
      ∙ ap (λ (cs : List (List X)). let t : PerRelation X = record { powers = tabulate n (λ k. g (Power (suc k))); commutators = cs } in t)
      (tabulate_agree n (λ j. tabulate j (λ k. f (Commutator (suc j) (suc k)))) (λ j. tabulate j (λ k. g (Commutator (suc j) (suc k))))
      (λ j l. tabulate_agree j (λ k. f (Commutator (suc j) (suc k))) (λ k. g (Commutator (suc j) (suc k)))
      (λ k m. sym (p.elsewhere (Commutator (suc j) (suc k)) (omega arith, omega arith, omega arith)
      (λ (e : Commutator (suc j) (suc k) ≡ Power (suc i)). power_no_commutator (suc i) (suc j) (suc k) (sym e))))))

  commutators_replaced : (n : ℕ) (f g : Relation → X) (j i : ℕ) (x : X) → Replaces n f g (Commutator (suc j) (suc i)) x
      → with_entry (per_relation n f) (Commutator (suc j) (suc i)) x ≡ per_relation n g
  commutators_replaced n f g j i x p =
      let place : suc i - 1 ≡ i = omega arith in
      let row_place : suc j - 1 ≡ j = omega arith in
      let row : j < n = omega (arith, p.relation) in
      let inside : i < j = omega (arith, p.relation) in
      let old : ℕ → List X = λ l. tabulate l (λ k. f (Commutator (suc l) (suc k))) in
      let new : ℕ → List X = λ l. tabulate l (λ k. g (Commutator (suc l) (suc k))) in
      let replaced : set (old j) i x ≡ new j =
      set-tabulate j (λ k. f (Commutator (suc j) (suc k))) (λ k. g (Commutator (suc j) (suc k))) i x inside p.here
      (λ k m ne. p.elsewhere (Commutator (suc j) (suc k)) (omega arith, omega arith, omega arith)
      (λ (e : Commutator (suc j) (suc k) ≡ Commutator (suc j) (suc i)). let same : suc k ≡ suc i =
      second_number (suc j) (suc k) (suc j) (suc i) e in ne (omega arith))) in
      let others : (l : ℕ) → l < n → l ≢ j → new l ≡ old l =
      λ l m ne. tabulate_agree l (λ k. g (Commutator (suc l) (suc k))) (λ k. f (Commutator (suc l) (suc k)))
      (λ k b. p.elsewhere (Commutator (suc l) (suc k)) (omega arith, omega arith, omega arith)
      (λ (e : Commutator (suc l) (suc k) ≡ Commutator (suc j) (suc i)). let same : suc l ≡ suc j =
      first_number (suc l) (suc k) (suc j) (suc i) e in ne (omega arith))) in
      ap (λ (ps : List X). let t : PerRelation X =
      record { powers = ps; commutators = set (tabulate n old) (suc j - 1) (set (get_or (tabulate n old) (suc j - 1) []) (suc i - 1) x) } in
      t)
      (tabulate_agree n (λ k. f (Power (suc k))) (λ k. g (Power (suc k)))
      (λ k l. sym (p.elsewhere (Power (suc k)) (omega arith, omega arith)
      (λ (e : Power (suc k) ≡ Commutator (suc j) (suc i)). power_no_commutator (suc k) (suc j) (suc i) e))))
      ∙ ap (λ (cs : List (List X)). let t : PerRelation X = record { powers = tabulate n (λ k. g (Power (suc k))); commutators = cs } in t)
      (ap (λ (k : ℕ). set (tabulate n old) (suc j - 1) (set (get_or (tabulate n old) (suc j - 1) []) k x)) place
      ∙ ap (λ (l : ℕ). set (tabulate n old) l (set (get_or (tabulate n old) l []) i x)) row_place
      ∙ ap (λ (xs : List X). set (tabulate n old) j (set xs i x)) (get_or-tabulate n old j [] row)
      ∙ ap (λ (xs : List X). set (tabulate n old) j xs) replaced
      ∙ set-tabulate n old new j (new j) row refl others)

  pub with_entry-per_relation : (n : ℕ) (f g : Relation → X) (r : Relation) (x : X) → Replaces n f g r x
      → with_entry (per_relation n f) r x ≡ per_relation n g
  with_entry-per_relation n f g (Power zero) x p = absurd (omega (arith, p.relation))
  with_entry-per_relation n f g (Power (suc i)) x p = powers_replaced n f g i x p
  with_entry-per_relation n f g (Commutator zero i) x p = absurd (omega (arith, p.relation))
  with_entry-per_relation n f g (Commutator (suc j) zero) x p = absurd (omega (arith, p.relation))
  with_entry-per_relation n f g (Commutator (suc j) (suc i)) x p = commutators_replaced n f g j i x p
