-- Over any collector each state is the product behind s of exactly one state: its exponents are found one after the
-- other, since a push changes no earlier exponent and adds one to its own.
use Rattle.std.proofs.Common.{◌≡◌, ℕ, zero, suc, ◌+◌, ◌-◌, ◌%◌, ◌<◌, List, [], ◌∷◌, get_or, length, replicate, refl, ap, sym, ◌∙◌, subst}
use Rattle.std.proofs.Common.{arith, inl, inr, mod-eq_of_lt}
use Rattle.std.proofs.lemmas.List.{ext_get_or}
use Rattle.std.proofs.lemmas.Bool.{cases_lt}
use Rattle.std.proofs.Math.Nat.{add-mod-mod, mod-add-mod, add-mod_left, add-zero}
use Rattle.pq_base.specs.Table.{AllBelow}
use Rattle.pq_base.specs.Presentation.{IsNormal}
use Rattle.pq_base.proofs.tables.TableLaws.{get_or-below}
use Rattle.fp_rows.specs.Rows.{negative_row}
use Rattle.pc_presentation.specs.Rowed.{RowedPresentation, IsRowed, row_sum}
use Rattle.pc_presentation.specs.Collection.{State, IsState, spelled, push_word}
use Rattle.pc_presentation.specs.Arithmetic.{IsMeaning, product_by, IsQuotient}
use Rattle.pc_presentation.proofs.rows.RowLaws.{row_sum-comm, row_sum-assoc, row_sum-zeros, row_sum-normal, negative_row-normal}
use Rattle.pc_presentation.proofs.rows.RowLaws.{row_sum-negative_row}
use Rattle.pc_presentation.proofs.collecting.PushLaws.{push_word-append}
use Rattle.pc_presentation.proofs.collecting.FinalExponents.{earlier_exponents_are_final}

-- residues
add-then_subtract : (p a c : ℕ) → a < p → c < p → ((p - a) + (a + c) % p) % p ≡ c
add-then_subtract p a c l m =
    let e : (p - a) + (a + c) ≡ p + c = omega arith in
    add-mod-mod (p - a) (a + c) p ∙ ap (λ (x : ℕ). x % p) e ∙ add-mod_left p c ∙ mod-eq_of_lt m

difference-added : (p a t : ℕ) → a < p → t < p → (a + (t + (p - a)) % p) % p ≡ t
difference-added p a t l m =
    let e : a + (t + (p - a)) ≡ p + t = omega arith in
    add-mod-mod a (t + (p - a)) p ∙ ap (λ (x : ℕ). x % p) e ∙ add-mod_left p t ∙ mod-eq_of_lt m

-- rows
pub row_difference : (p q : ℕ) (x y : List ℕ) → IsNormal p q x → IsNormal p q y → row_sum p x (row_sum p y (negative_row p x)) ≡ y
row_difference p q x y h i =
    row_sum-comm p x (row_sum p y (negative_row p x))
    ∙ row_sum-assoc p y (negative_row p x) x
    ∙ ap (row_sum p y) (row_sum-comm p (negative_row p x) x ∙ row_sum-negative_row p q x h)
    ∙ row_sum-zeros p q y i

row_sum-cancel : (p q : ℕ) (x y z : List ℕ) → IsNormal p q x → IsNormal p q y → IsNormal p q z → row_sum p x y ≡ row_sum p x z → y ≡ z
row_sum-cancel p q x y z h i j e =
    let back : (w : List ℕ) → IsNormal p q w → row_sum p (negative_row p x) (row_sum p x w) ≡ w = λ w n.
    sym (row_sum-assoc p (negative_row p x) x w)
    ∙ ap (λ (v : List ℕ). row_sum p v w) (row_sum-comm p (negative_row p x) x ∙ row_sum-negative_row p q x h)
    ∙ row_sum-comm p (replicate q 0) w ∙ row_sum-zeros p q w n in
    sym (back y i) ∙ ap (row_sum p (negative_row p x)) e ∙ back z j

module _ (Y : RowedPresentation) (rowed : IsRowed Y) (big : 1 < Y.base.prime) (push : State → ℕ → State) (meaning : IsMeaning Y push) where
  -- copies of one generator
  pub record AfterCopies (s : State) (i c : ℕ) (t : State) : Type 0 where
    pub state : IsState Y Y.base.rank t
    pub earlier : (j : ℕ) → j < i → get_or t.exponents j 0 ≡ get_or s.exponents j 0
    pub own : get_or t.exponents i 0 ≡ (get_or s.exponents i 0 + c) % Y.base.prime

  exponent-below : (s : State) (i : ℕ) → IsState Y Y.base.rank s → get_or s.exponents i 0 < Y.base.prime
  exponent-below s i h = get_or-below Y.base.prime s.exponents i (omega arith) h.exponents.below

  pub push-copies : (c i : ℕ) (s : State) → IsState Y Y.base.rank s → i < Y.base.rank → AfterCopies s i c (push_word push s (replicate c i))
  push-copies zero i s h l =
      let b = exponent-below s i h in
      record {
        state = h;
        earlier = λ j m. refl;
        own = sym (ap (λ (x : ℕ). x % Y.base.prime) (add-zero (get_or s.exponents i 0)) ∙ mod-eq_of_lt b);
      }
  push-copies (suc c) i s h l =
      let q = meaning.pushed s i h l in
      let e = earlier_exponents_are_final Y rowed s (push s i) i h l q in
      let r = push-copies c i (push s i) q.state l in
      let x : ℕ = get_or s.exponents i 0 in
      let sum : (x + 1) + c ≡ x + suc c = omega arith in
      record {
        state = r.state;
        earlier = λ j m. r.earlier j m ∙ e.earlier j m;
        own =
            r.own
            ∙ ap (λ (y : ℕ). (y + c) % Y.base.prime) e.own
            ∙ mod-add-mod (x + 1) Y.base.prime c
            ∙ ap (λ (y : ℕ). y % Y.base.prime) sum;
      }

  -- the letters of exponents from place k on
  pub record AfterSpelled (k : ℕ) (s t : State) : Type 0 where
    pub state : IsState Y Y.base.rank t
    pub earlier : (j : ℕ) → j < k → get_or t.exponents j 0 ≡ get_or s.exponents j 0

  pub push-spelled : (k : ℕ) (e : List ℕ) (s : State) → k + length e ≡ Y.base.rank → IsState Y Y.base.rank s
      → AfterSpelled k s (push_word push s (spelled k e))
  push-spelled k [] s c h = record { state = h; earlier = λ j m. refl }
  push-spelled k (x ∷ e) s c h =
      let r = push-copies x k s h (omega arith) in
      let z = push-spelled (suc k) e (push_word push s (replicate x k)) (omega arith) r.state in
      subst (λ (t : State). AfterSpelled k s t) (sym (push_word-append push s (replicate x k) (spelled (suc k) e))) (record {
        state = z.state;
        earlier = λ j m. z.earlier j (omega arith) ∙ r.earlier j m;
      })

  pub same_exponents : (s t : State) → IsState Y Y.base.rank s → IsState Y Y.base.rank t
      → ((j : ℕ) → j < Y.base.rank → get_or s.exponents j 0 ≡ get_or t.exponents j 0) → s.exponents ≡ t.exponents
  same_exponents s t h i e =
      let c = h.exponents.count in
      let d = i.exponents.count in
      ext_get_or 0 s.exponents t.exponents (c ∙ sym d) (λ j l. e j (omega arith))

  -- exponents from place i on whose letters lead from s to the exponents of t
  pub record Leads (i : ℕ) (s t : State) : Type 0 where
    pub exponents : List ℕ
    pub count : i + length exponents ≡ Y.base.rank
    pub below : AllBelow Y.base.prime exponents
    pub reaches : (push_word push s (spelled i exponents)).exponents ≡ t.exponents

  leads : (d i : ℕ) (s t : State) → i + d ≡ Y.base.rank → IsState Y Y.base.rank s → IsState Y Y.base.rank t
      → ((j : ℕ) → j < i → get_or s.exponents j 0 ≡ get_or t.exponents j 0) → Leads i s t
  leads zero i s t c h v agree =
      record { exponents = []; count = c; below = tt; reaches = same_exponents s t h v (λ j l. agree j (omega arith)) }
  leads (suc d) i s t c h v agree =
      let p : ℕ = Y.base.prime in
      let a : ℕ = get_or s.exponents i 0 in
      let b : ℕ = get_or t.exponents i 0 in
      let al : get_or s.exponents i 0 < Y.base.prime = exponent-below s i h in
      let bl : get_or t.exponents i 0 < Y.base.prime = exponent-below t i v in
      let x : ℕ = (b + (p - a)) % p in
      let xl : x < Y.base.prime = omega arith in
      let r = push-copies x i s h (omega arith) in
      let own : get_or (push_word push s (replicate x i)).exponents i 0 ≡ get_or t.exponents i 0 = r.own ∙ difference-added p a b al bl in
      let agree' : (j : ℕ) → j < suc i → get_or (push_word push s (replicate x i)).exponents j 0 ≡ get_or t.exponents j 0 =
      λ j m. elim (cases_lt j i) [
        | inl l ↦ r.earlier j l ∙ agree j l
        | inr l ↦ let e : i ≡ j = omega arith in
            subst (λ (k : ℕ). get_or (push_word push s (replicate x i)).exponents k 0 ≡ get_or t.exponents k 0) e own
      ] in
      let z = leads d (suc i) (push_word push s (replicate x i)) t (omega arith) r.state v agree' in
      let zc = z.count in
      record {
        exponents = x ∷ z.exponents;
        count = omega arith;
        below = (xl, z.below);
        reaches = ap (λ (y : State). y.exponents) (push_word-append push s (replicate x i) (spelled (suc i) z.exponents)) ∙ z.reaches;
      }

  -- there is a quotient
  pub record Quotient (s t : State) : Type 0 where
    pub quotient : State
    pub state : IsState Y Y.base.rank quotient
    pub product : product_by Y push s quotient ≡ t

  pub some_quotient : (s t : State) → IsState Y Y.base.rank s → IsState Y Y.base.rank t → Quotient s t
  some_quotient s t h v =
      let z = leads Y.base.rank 0 s t (omega arith) h v (λ j l. absurd (omega arith)) in
      let zc = z.count in
      let end : State = push_word push s (spelled 0 z.exponents) in
      let ends : IsState Y Y.base.rank (push_word push s (spelled 0 z.exponents)) = (push-spelled 0 z.exponents s (omega arith) h).state in
      let row : List ℕ = row_sum Y.base.prime t.row (negative_row Y.base.prime end.row) in
      record {
        quotient = record { exponents = z.exponents; row = row };
        state = record {
          exponents = record { count = omega arith; below = z.below };
          row = row_sum-normal Y.base.prime Y.width t.row (negative_row Y.base.prime end.row) (omega arith) v.row
              (negative_row-normal Y.base.prime Y.width end.row (omega arith) ends.row);
        };
        product =
            ap (λ (e : List ℕ). record { exponents = e; row = row_sum Y.base.prime end.row row }) z.reaches
            ∙ ap (λ (x : List ℕ). record { exponents = t.exponents; row = x })
            (row_difference Y.base.prime Y.width end.row t.row ends.row v.row);
      }

  -- and only one
  same_leads : (i : ℕ) (e f : List ℕ) (s : State) → i + length e ≡ Y.base.rank → i + length f ≡ Y.base.rank → AllBelow Y.base.prime e
      → AllBelow Y.base.prime f
      → IsState Y Y.base.rank s → (push_word push s (spelled i e)).exponents ≡ (push_word push s (spelled i f)).exponents → e ≡ f
  same_leads i [] [] s c d a b h q = refl
  same_leads i [] (y ∷ f) s c d a b h q = absurd (omega arith)
  same_leads i (x ∷ e) [] s c d a b h q = absurd (omega arith)
  same_leads i (x ∷ e) (y ∷ f) s c d a b h q =
      let p : ℕ = Y.base.prime in
      let g : ℕ = get_or s.exponents i 0 in
      let gl : get_or s.exponents i 0 < Y.base.prime = exponent-below s i h in
      let u = push-copies x i s h (omega arith) in
      let v = push-copies y i s h (omega arith) in
      let su : State = push_word push s (replicate x i) in
      let sv : State = push_word push s (replicate y i) in
      let au = push-spelled (suc i) e su (omega arith) u.state in
      let av = push-spelled (suc i) f sv (omega arith) v.state in
      let ends : (push_word push su (spelled (suc i) e)).exponents ≡ (push_word push sv (spelled (suc i) f)).exponents =
      ap (λ (z : State). z.exponents) (sym (push_word-append push s (replicate x i) (spelled (suc i) e)))
      ∙ q ∙ ap (λ (z : State). z.exponents) (push_word-append push s (replicate y i) (spelled (suc i) f)) in
      let sums : (get_or s.exponents i 0 + x) % Y.base.prime ≡ (get_or s.exponents i 0 + y) % Y.base.prime =
      sym u.own ∙ sym (au.earlier i (omega arith)) ∙ ap (λ (z : List ℕ). get_or z i 0) ends ∙ av.earlier i (omega arith) ∙ v.own in
      let same : x ≡ y = sym (add-then_subtract p g x gl a.0) ∙ ap (λ (m : ℕ). ((p - g) + m) % p) sums ∙ add-then_subtract p g y gl b.0 in
      let q' : (push_word push su (spelled (suc i) e)).exponents ≡ (push_word push su (spelled (suc i) f)).exponents =
      ends ∙ ap (λ (m : ℕ). (push_word push (push_word push s (replicate m i)) (spelled (suc i) f)).exponents) (sym same) in
      ap (λ (m : ℕ). m ∷ e) same ∙ ap (λ (z : List ℕ). y ∷ z) (same_leads (suc i) e f su (omega arith) (omega arith) a.1 b.1 u.state q')

  pub quotient-only : (s e f : State) → IsState Y Y.base.rank s → IsState Y Y.base.rank e → IsState Y Y.base.rank f
      → product_by Y push s e ≡ product_by Y push s f → e ≡ f
  quotient-only s e f h v w q =
      let ec = v.exponents.count in
      let fc = w.exponents.count in
      let exponents_are : e.exponents ≡ f.exponents =
      same_leads 0 e.exponents f.exponents s (omega arith) (omega arith) v.exponents.below w.exponents.below h
      (ap (λ (z : State). z.exponents) q) in
      let end : State = push_word push s (spelled 0 e.exponents) in
      let ends : IsState Y Y.base.rank (push_word push s (spelled 0 e.exponents)) = (push-spelled 0 e.exponents s (omega arith) h).state in
      let rows : row_sum Y.base.prime end.row e.row ≡ row_sum Y.base.prime end.row f.row =
      ap (λ (z : State). z.row) q
      ∙ ap (λ (u : List ℕ). row_sum Y.base.prime (push_word push s (spelled 0 u)).row f.row) (sym exponents_are) in
      ap (λ (u : List ℕ). record { exponents = u; row = e.row }) exponents_are
      ∙ ap (λ (x : List ℕ). record { exponents = f.exponents; row = x })
      (row_sum-cancel Y.base.prime Y.width end.row e.row f.row ends.row v.row w.row rows)

  pub product-state : (s t : State) → IsState Y Y.base.rank s → IsState Y Y.base.rank t → IsState Y Y.base.rank (product_by Y push s t)
  product-state s t h v =
      let c = v.exponents.count in
      let ends = (push-spelled 0 t.exponents s (omega arith) h).state in
      record {
        exponents = ends.exponents;
        row = row_sum-normal Y.base.prime Y.width (push_word push s (spelled 0 t.exponents)).row t.row (omega arith) ends.row v.row;
      }

  pub is_quotient : (s t : State) → IsState Y Y.base.rank s → IsState Y Y.base.rank t → (e : State) × IsQuotient Y push s t e
  is_quotient s t h v =
      let z = some_quotient s t h v in (
        z.quotient,
        record {
          state = z.state;
          product = z.product;
          only = λ f w q. quotient-only s f z.quotient h w z.state (q ∙ sym z.product);
        },
      )
