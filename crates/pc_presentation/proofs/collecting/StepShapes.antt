-- A replacement in a word of later letters is one between them, also behind copies of the first generator, where no full
-- power of it stands. So no replacement is possible in the letters of exponents below the prime.
use Rattle.std.proofs.Common.{◌≡◌, ℕ, zero, suc, ◌+◌, ◌<◌, ◌≤◌, List, [], ◌∷◌, ◌++◌, map, replicate, refl, ap, sym, ◌∙◌, subst, arith, inl}
use Rattle.std.proofs.Common.{inr}
use Rattle.std.proofs.lemmas.List.{map-append}
use Rattle.pq_base.specs.Table.{AllBelow}
use Rattle.pq_base.specs.Presentation.{power_side, commutator_side}
use Rattle.pc_presentation.specs.Rowed.{RowedPresentation, power_row, commutator_row}
use Rattle.pc_presentation.specs.Collection.{spelled}
use Rattle.pc_presentation.proofs.collecting.PlainRule.{spelled-suc, map-replicate}
use Rattle.pc_presentation.proofs.collecting.RunLaws.{ReplacementFrom}
use Rattle.pc_presentation.proofs.collecting.RunLaws.ReplacementFrom.{swap_from, power_from}
use Rattle.pc_presentation.proofs.collecting.StepPlaces.{StepAt, IsIrreducible, first_letter}

-- words of later letters
pub record MapSplit (u a b : List ℕ) : Type 0 where
  pub front : List ℕ
  pub back : List ℕ
  pub whole : u ≡ front ++ back
  pub front_is : a ≡ map suc front
  pub back_is : b ≡ map suc back

pub map-split : (u a b : List ℕ) → map suc u ≡ a ++ b → MapSplit u a b
map-split u [] b e = record { front = []; back = u; whole = refl; front_is = refl; back_is = sym e }
map-split [] (x ∷ a) b e = cc
map-split (i ∷ u) (x ∷ a) b e =
    let h : suc i ≡ x = cc in
    let g : map suc u ≡ a ++ b = cc in
    let m = map-split u a b g in
    record {
      front = i ∷ m.front;
      back = m.back;
      whole = ap (λ (w : List ℕ). i ∷ w) m.whole;
      front_is = ap (λ (y : ℕ). y ∷ a) (sym h) ∙ ap (λ (w : List ℕ). suc i ∷ w) m.front_is;
      back_is = m.back_is;
    }

pub map-injective : (u v : List ℕ) → map suc u ≡ map suc v → u ≡ v
map-injective [] [] e = refl
map-injective [] (y ∷ v) e = cc
map-injective (x ∷ u) [] e = cc
map-injective (x ∷ u) (y ∷ v) e =
    let h : suc x ≡ suc y = cc in
    let g : map suc u ≡ map suc v = cc in
    let h' : x ≡ y = omega arith in
    ap (λ (z : ℕ). z ∷ u) h' ∙ ap (λ (w : List ℕ). y ∷ w) (map-injective u v g)

repeated_later : (p i : ℕ) (l : List ℕ) → 0 < p → replicate p i ≡ map suc l → (x : ℕ) × (i ≡ suc x)
repeated_later zero i l h e = absurd (omega arith)
repeated_later (suc p) i [] h e = cc
repeated_later (suc p) i (x ∷ l) h e = (x, cc)

-- a replacement in a word of later letters is one between them
pub record LaterReplacement (Y : RowedPresentation) (k : ℕ) (l r t : List ℕ) : Type 0 where
  pub right : List ℕ
  pub right_is : r ≡ map suc right
  pub replaced : ReplacementFrom Y (suc k) l right t

later_swap : (Y : RowedPresentation) (k j i a b : ℕ) (l : List ℕ) → a ≡ k + j → b ≡ k + i → a < Y.base.rank → i < j → j ∷ i ∷ [] ≡ map suc l
    → LaterReplacement Y k l (i ∷ j ∷ spelled (suc j) (commutator_side Y.base a b)) (commutator_row Y a b)
later_swap Y k j i a b [] f g m q e = cc
later_swap Y k j i a b (x ∷ []) f g m q e = cc
later_swap Y k j i a b (x ∷ y ∷ z ∷ l) f g m q e = cc
later_swap Y k j i a b (x ∷ y ∷ []) f g m q e =
    let h : j ≡ suc x = cc in
    let h' : i ≡ suc y = cc in
    record {
      right = y ∷ x ∷ spelled (suc x) (commutator_side Y.base a b);
      right_is =
          ap (λ (z : ℕ). z ∷ j ∷ spelled (suc j) (commutator_side Y.base a b)) h'
          ∙ ap (λ (z : ℕ). suc y ∷ z ∷ spelled (suc z) (commutator_side Y.base a b)) h
          ∙ ap (λ (w : List ℕ). suc y ∷ suc x ∷ w) (spelled-suc (suc x) (commutator_side Y.base a b));
      replaced = swap_from x y a b (omega arith) (omega arith) m (omega arith);
    }

later_power : (Y : RowedPresentation) (k i a : ℕ) (l : List ℕ) → 0 < Y.base.prime → a ≡ k + i → a < Y.base.rank
    → replicate Y.base.prime i ≡ map suc l
    → LaterReplacement Y k l (spelled (suc i) (power_side Y.base a)) (power_row Y a)
later_power Y k i a l h f m e =
    let x = repeated_later Y.base.prime i l h e in
    let y : i ≡ suc x.0 = x.1 in
    let same : replicate Y.base.prime x.0 ≡ l =
    map-injective (replicate Y.base.prime x.0) l
    (map-replicate Y.base.prime x.0 ∙ ap (replicate Y.base.prime) (sym y) ∙ e) in
    record {
      right = spelled (suc x.0) (power_side Y.base a);
      right_is = ap (λ (z : ℕ). spelled (suc z) (power_side Y.base a)) y ∙ spelled-suc (suc x.0) (power_side Y.base a);
      replaced =
          subst (λ (w : List ℕ). ReplacementFrom Y (suc k) w (spelled (suc x.0) (power_side Y.base a)) (power_row Y a)) same
          (power_from x.0 a (omega arith) m);
    }

pub later_replacement : (Y : RowedPresentation) (k : ℕ) (l l' r t : List ℕ) → 0 < Y.base.prime → l' ≡ map suc l → ReplacementFrom Y k l' r t
    → LaterReplacement Y k l r t
later_replacement Y k l _ _ _ h e (swap_from j i a b f g m q) = later_swap Y k j i a b l f g m q e
later_replacement Y k l _ _ _ h e (power_from i a f m) = later_power Y k i a l h f m e

-- a word of later letters behind e copies of the first generator
pub record LaterStep (Y : RowedPresentation) (k e : ℕ) (u v t : List ℕ) : Type 0 where
  pub word : List ℕ
  pub word_is : v ≡ replicate e 0 ++ map suc word
  pub step : StepAt Y (suc k) u word t

pub step-later : (Y : RowedPresentation) (k : ℕ) (u v t : List ℕ) → 0 < Y.base.prime → StepAt Y k (map suc u) v t → LaterStep Y k 0 u v t
step-later Y k u v t h s =
    let m = map-split u s.front (s.left ++ s.back) s.start in
    let n = map-split m.back s.left s.back (sym m.back_is) in
    let r = later_replacement Y k n.front s.left s.right t h n.front_is s.replaced in
    record {
      word = m.front ++ (r.right ++ n.back);
      word_is =
          s.end
          ∙ ap (λ (w : List ℕ). w ++ (s.right ++ s.back)) m.front_is
          ∙ ap (λ (w : List ℕ). map suc m.front ++ (w ++ s.back)) r.right_is
          ∙ ap (λ (w : List ℕ). map suc m.front ++ (map suc r.right ++ w)) n.back_is
          ∙ ap (λ (w : List ℕ). map suc m.front ++ w) (sym (map-append suc r.right n.back))
          ∙ sym (map-append suc m.front (r.right ++ n.back));
      step = record {
        front = m.front;
        left = n.front;
        right = r.right;
        back = n.back;
        start = m.whole ∙ ap (λ (w : List ℕ). m.front ++ w) n.whole;
        end = refl;
        replaced = r.replaced;
      };
    }

-- at the front of a word that begins with the first generator only its power can be replaced
pub front_zero : (Y : RowedPresentation) (k : ℕ) (w l b r t : List ℕ) → 0 < Y.base.prime → 0 ∷ w ≡ l ++ b → ReplacementFrom Y k l r t
    → (l ≡ replicate Y.base.prime 0) × (r ≡ spelled 1 (power_side Y.base k)) × (t ≡ power_row Y k)
front_zero Y k w _ b _ _ h e (swap_from j i a c f g m q) = let z : 0 ≡ j = cc in absurd (omega arith)
front_zero Y k w _ b _ _ h e (power_from i a f m) =
    let z : 0 ≡ i = first_of_repeated Y.base.prime i h e in
    let y : a ≡ k = omega arith in (
      ap (replicate Y.base.prime) (sym z),
      ap (λ (x : ℕ). spelled (suc x) (power_side Y.base a)) (sym z) ∙ ap (λ (x : ℕ). spelled 1 (power_side Y.base x)) y,
      ap (power_row Y) y,
    )
  where
    first_of_repeated : (p i : ℕ) → 0 < p → 0 ∷ w ≡ replicate p i ++ b → 0 ≡ i
    first_of_repeated zero i h e = absurd (omega arith)
    first_of_repeated (suc p) i h e = cc

zeros_fit : (p e : ℕ) (u b : List ℕ) → replicate p 0 ++ b ≡ replicate e 0 ++ map suc u → p ≤ e
zeros_fit zero e u b q = omega arith
zeros_fit (suc p) zero [] b q = cc
zeros_fit (suc p) zero (x ∷ u) b q = cc
zeros_fit (suc p) (suc e) u b q = let h : replicate p 0 ++ b ≡ replicate e 0 ++ map suc u = cc in let i = zeros_fit p e u b h in omega arith

pub step-behind : (Y : RowedPresentation) (k e : ℕ) (u v t : List ℕ) → 0 < Y.base.prime → e < Y.base.prime
    → StepAt Y k (replicate e 0 ++ map suc u) v t → LaterStep Y k e u v t
step-behind Y k zero u v t h l s = step-later Y k u v t h s
step-behind Y k (suc e) u v t h l s = elim (first_letter Y k 0 (replicate e 0 ++ map suc u) v t s) [
  | inl a ↦
      let z = front_zero Y k (replicate e 0 ++ map suc u) a.left a.back a.right t h a.start a.replaced in
      let q : replicate Y.base.prime 0 ++ a.back ≡ replicate (suc e) 0 ++ map suc u =
      ap (λ (w : List ℕ). w ++ a.back) (sym z.0) ∙ sym a.start in
      let i = zeros_fit Y.base.prime (suc e) u a.back q in
      absurd (omega arith)
  | inr b ↦
      let r = step-behind Y k e u b.rest t h (omega arith) b.step in
      record { word = r.word; word_is = b.end ∙ ap (λ (w : List ℕ). 0 ∷ w) r.word_is; step = r.step }
]

-- so the letters of exponents below the prime are irreducible
left_nonempty : (Y : RowedPresentation) (k : ℕ) (l r t b : List ℕ) → 0 < Y.base.prime → ReplacementFrom Y k l r t → [] ≡ l ++ b → ⊥
left_nonempty Y k _ _ _ b h (swap_from j i a c f g m q) e = cc
left_nonempty Y k _ _ _ b h (power_from i a f m) e = repeated_nonempty Y.base.prime i h e
  where
    repeated_nonempty : (p i : ℕ) → 0 < p → [] ≡ replicate p i ++ b → ⊥
    repeated_nonempty zero i h e = absurd (omega arith)
    repeated_nonempty (suc p) i h e = cc

nothing_in_nil : (Y : RowedPresentation) (k : ℕ) (v t : List ℕ) → 0 < Y.base.prime → StepAt Y k [] v t → ⊥
nothing_in_nil Y k v t h s = by_front s.front s.start
  where
    by_front : (a : List ℕ) → [] ≡ a ++ (s.left ++ s.back) → ⊥
    by_front [] e = left_nonempty Y k s.left s.right t s.back h s.replaced e
    by_front (x ∷ a) e = cc

pub spelled-irreducible : (Y : RowedPresentation) (k : ℕ) (h : List ℕ) → 0 < Y.base.prime → AllBelow Y.base.prime h
    → IsIrreducible Y k (spelled 0 h)
spelled-irreducible Y k [] l b v t s = nothing_in_nil Y k v t l s
spelled-irreducible Y k (e ∷ h) l b v t s =
    let s' : StepAt Y k (replicate e 0 ++ map suc (spelled 0 h)) v t =
    subst (λ (w : List ℕ). StepAt Y k (replicate e 0 ++ w) v t) (spelled-suc 0 h) s in
    let r = step-behind Y k e (spelled 0 h) v t l b.0 s' in
    spelled-irreducible Y (suc k) h l b.1 r.word t r.step
