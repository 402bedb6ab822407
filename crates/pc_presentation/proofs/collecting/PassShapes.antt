-- The replacements in a word that has one late copy of the first generator: between the letters behind it, of the pair
-- that the letter before it makes with it, or of the full power that it completes.
use Rattle.std.proofs.Common.{◌≡◌, ℕ, zero, suc, ◌+◌, ◌<◌, List, [], ◌∷◌, ◌++◌, map, replicate, refl, ap, sym, ◌∙◌, arith, inl, inr}
use Rattle.std.proofs.lemmas.List.{map-append}
use Rattle.pq_base.specs.Presentation.{power_side, commutator_side}
use Rattle.pc_presentation.specs.Rowed.{RowedPresentation, power_row, commutator_row}
use Rattle.pc_presentation.specs.Collection.{spelled}
use Rattle.pc_presentation.proofs.collecting.PlainRule.{spelled-suc}
use Rattle.pc_presentation.proofs.collecting.RunLaws.{ReplacementFrom}
use Rattle.pc_presentation.proofs.collecting.RunLaws.ReplacementFrom.{swap_from, power_from}
use Rattle.pc_presentation.proofs.collecting.StepPlaces.{StepAt, IsIrreducible, AtFront, first_letter, step-prefix}
use Rattle.pc_presentation.proofs.collecting.StepShapes.{step-later, front_zero}

-- e copies of the first generator, the later letters v, the first generator, the later letters u
abbrev pub late : ℕ → List ℕ → List ℕ → List ℕ
late e v u = replicate e 0 ++ (map suc v ++ 0 ∷ map suc u)

-- what a replacement makes of such a word
pub data LateStep (Y : RowedPresentation) (k e : ℕ) (v u : List ℕ) : List ℕ → List ℕ → Type 0 where
  inside : (u' w t : List ℕ) → StepAt Y (suc k) u u' t → w ≡ late e v u' → LateStep Y k e v u w t
  passes : (v' : List ℕ) (j : ℕ) (w t : List ℕ) → v ≡ v' ++ j ∷ []
      → w ≡ late e v' (j ∷ (spelled (suc j) (commutator_side Y.base (suc (k + j)) k) ++ u)) → t ≡ commutator_row Y (suc (k + j)) k
      → LateStep Y k e v u w t
  full : (w t : List ℕ) → v ≡ [] → suc e ≡ Y.base.prime → w ≡ map suc (spelled 0 (power_side Y.base k) ++ u) → t ≡ power_row Y k
      → LateStep Y k e v u w t

-- one copy fewer at the front, and one letter fewer there
more_copies : (Y : RowedPresentation) (k e : ℕ) (v u w w' t : List ℕ) → suc e < Y.base.prime → w' ≡ 0 ∷ w → LateStep Y k e v u w t
    → LateStep Y k (suc e) v u w' t
more_copies Y k e v u w w' t l q (inside u' _ _ s f) = inside u' w' t s (q ∙ ap (λ (z : List ℕ). 0 ∷ z) f)
more_copies Y k e v u w w' t l q (passes v' j _ _ g f h) = passes v' j w' t g (q ∙ ap (λ (z : List ℕ). 0 ∷ z) f) h
more_copies Y k e v u w w' t l q (full _ _ g m f h) = absurd (omega arith)

more_letters : (Y : RowedPresentation) (k j : ℕ) (v u w w' t : List ℕ) → 1 < Y.base.prime → w' ≡ suc j ∷ w → LateStep Y k 0 v u w t
    → LateStep Y k 0 (j ∷ v) u w' t
more_letters Y k j v u w w' t l q (inside u' _ _ s f) = inside u' w' t s (q ∙ ap (λ (z : List ℕ). suc j ∷ z) f)
more_letters Y k j v u w w' t l q (passes v' i _ _ g f h) =
    passes (j ∷ v') i w' t (ap (λ (z : List ℕ). j ∷ z) g) (q ∙ ap (λ (z : List ℕ). suc j ∷ z) f) h
more_letters Y k j v u w w' t l q (full _ _ g m f h) = absurd (omega arith)

-- a run of one later letter at the front lies before the first generator
pub record Prefix (b v : List ℕ) : Type 0 where
  pub rest : List ℕ
  pub is : v ≡ b ++ rest

repeated_front : (p j : ℕ) (v w b : List ℕ) → map suc v ++ 0 ∷ w ≡ replicate p (suc j) ++ b → Prefix (replicate p j) v
repeated_front zero j v w b e = record { rest = v; is = refl }
repeated_front (suc p) j [] w b e = cc
repeated_front (suc p) j (x ∷ v) w b e =
    let h : suc x ≡ suc j = cc in
    let h' : x ≡ j = omega arith in
    let g : map suc v ++ 0 ∷ w ≡ replicate p (suc j) ++ b = cc in
    let r = repeated_front p j v w b g in
    record { rest = r.rest; is = ap (λ (z : ℕ). z ∷ v) h' ∙ ap (λ (z : List ℕ). j ∷ z) r.is }

-- a replacement at the front of a word that begins with a later letter
front_later : (Y : RowedPresentation) (k j : ℕ) (v u w l b r t : List ℕ) → 0 < Y.base.prime → IsIrreducible Y (suc k) (j ∷ v)
    → suc j ∷ (map suc v ++ 0 ∷ map suc u) ≡ l ++ b → w ≡ r ++ b → ReplacementFrom Y k l r t → LateStep Y k 0 (j ∷ v) u w t
front_later Y k j [] u w _ b _ _ h irreducible e f (swap_from j' i a c g g' m q) =
    let x : j' ≡ suc j = cc in
    let y : i ≡ 0 = cc in
    let z : b ≡ map suc u = cc in
    let a_is : a ≡ suc (k + j) = omega arith in
    let c_is : c ≡ k = omega arith in
    let side : List ℕ = commutator_side Y.base (suc (k + j)) k in
    passes [] j w (commutator_row Y a c) refl
    (f
    ∙ ap (λ (n : ℕ). n ∷ j' ∷ (spelled (suc j') (commutator_side Y.base a c) ++ b)) y
    ∙ ap (λ (n : ℕ). 0 ∷ n ∷ (spelled (suc n) (commutator_side Y.base a c) ++ b)) x
    ∙ ap (λ (n : ℕ). 0 ∷ suc j ∷ (spelled (suc (suc j)) (commutator_side Y.base n c) ++ b)) a_is
    ∙ ap (λ (n : ℕ). 0 ∷ suc j ∷ (spelled (suc (suc j)) (commutator_side Y.base (suc (k + j)) n) ++ b)) c_is
    ∙ ap (λ (n : List ℕ). 0 ∷ suc j ∷ (n ++ b)) (spelled-suc (suc j) (commutator_side Y.base (suc (k + j)) k))
    ∙ ap (λ (n : List ℕ). 0 ∷ suc j ∷ (map suc (spelled (suc j) (commutator_side Y.base (suc (k + j)) k)) ++ n)) z
    ∙ ap (λ (n : List ℕ). 0 ∷ suc j ∷ n) (sym (map-append suc (spelled (suc j) (commutator_side Y.base (suc (k + j)) k)) u)))
    (ap (λ (n : ℕ). commutator_row Y n c) a_is ∙ ap (commutator_row Y (suc (k + j))) c_is)
front_later Y k j (x ∷ v) u w _ b _ _ h irreducible e f (swap_from j' i a c g g' m q) =
    let y : j' ≡ suc j = cc in
    let z : i ≡ suc x = cc in
    absurd (irreducible (x ∷ j ∷ (spelled (suc j) (commutator_side Y.base a c) ++ v)) (commutator_row Y a c) (record {
      front = [];
      left = j ∷ x ∷ [];
      right = x ∷ j ∷ spelled (suc j) (commutator_side Y.base a c);
      back = v;
      start = refl;
      end = refl;
      replaced = swap_from j x a c (omega arith) (omega arith) m (omega arith);
    }))
front_later Y k j v u w _ b _ _ h irreducible e f (power_from i a g m) =
    let i_is : i ≡ suc j = first_of_repeated Y.base.prime h e in
    let r = repeated_front Y.base.prime j (j ∷ v) (map suc u) b (e ∙ ap (λ (n : ℕ). replicate Y.base.prime n ++ b) i_is) in
    absurd (irreducible (spelled (suc j) (power_side Y.base a) ++ r.rest) (power_row Y a) (record {
      front = [];
      left = replicate Y.base.prime j;
      right = spelled (suc j) (power_side Y.base a);
      back = r.rest;
      start = r.is;
      end = refl;
      replaced = power_from j a (omega arith) m;
    }))
  where
    first_of_repeated : (p : ℕ) → 0 < p → suc j ∷ (map suc v ++ 0 ∷ map suc u) ≡ replicate p i ++ b → i ≡ suc j
    first_of_repeated zero h e = absurd (omega arith)
    first_of_repeated (suc p) h e = cc

tail_irreducible : (Y : RowedPresentation) (k j : ℕ) (v : List ℕ) → IsIrreducible Y k (j ∷ v) → IsIrreducible Y k v
tail_irreducible Y k j v h w t s = h (j ∷ w) t (step-prefix Y k j v w t s)

-- full powers of the first generator at the front
pub record ZerosFull (p e : ℕ) (v u b : List ℕ) : Type 0 where
  pub none : v ≡ []
  pub count : suc e ≡ p
  pub back : b ≡ map suc u

zeros_full : (p e : ℕ) (v u b : List ℕ) → e < p → replicate p 0 ++ b ≡ late e v u → ZerosFull p e v u b
zeros_full zero e v u b l q = absurd (omega arith)
zeros_full (suc zero) zero [] u b l q = record { none = refl; count = refl; back = cc }
zeros_full (suc (suc p)) zero [] [] b l q = cc
zeros_full (suc (suc p)) zero [] (x ∷ u) b l q = cc
zeros_full (suc p) zero (x ∷ v) u b l q = cc
zeros_full (suc p) (suc e) v u b l q =
    let h : replicate p 0 ++ b ≡ late e v u = cc in
    let r = zeros_full p e v u b (omega arith) h in
    let c = r.count in
    record { none = r.none; count = omega arith; back = r.back }

late_front : (Y : RowedPresentation) (k e : ℕ) (v u w z : List ℕ) (t : List ℕ) → 1 < Y.base.prime → e < Y.base.prime → late e v u ≡ 0 ∷ z
    → AtFront Y k (late e v u) w t → LateStep Y k e v u w t
late_front Y k e v u w z t h l q a =
    let x = front_zero Y k z a.left a.back a.right t (omega arith) (sym q ∙ a.start) a.replaced in
    let y : replicate Y.base.prime 0 ++ a.back ≡ late e v u = ap (λ (n : List ℕ). n ++ a.back) (sym x.0) ∙ sym a.start in
    let r = zeros_full Y.base.prime e v u a.back l y in
    full w t r.none r.count
    (a.end
    ∙ ap (λ (n : List ℕ). n ++ a.back) (x.1 ∙ spelled-suc 0 (power_side Y.base k))
    ∙ ap (λ (n : List ℕ). map suc (spelled 0 (power_side Y.base k)) ++ n) r.back
    ∙ sym (map-append suc (spelled 0 (power_side Y.base k)) u))
    x.2

pub late_step : (Y : RowedPresentation) (k e : ℕ) (v u w t : List ℕ) → 1 < Y.base.prime → e < Y.base.prime → IsIrreducible Y (suc k) v
    → StepAt Y k (late e v u) w t → LateStep Y k e v u w t
late_step Y k zero [] u w t h l irreducible s = elim (first_letter Y k 0 (map suc u) w t s) [
  | inl a ↦ late_front Y k 0 [] u w (map suc u) t h l refl a
  | inr b ↦
      let r = step-later Y k u b.rest t (omega arith) b.step in
      inside r.word w t r.step (b.end ∙ ap (λ (n : List ℕ). 0 ∷ n) r.word_is)
]
late_step Y k zero (j ∷ v) u w t h l irreducible s = elim (first_letter Y k (suc j) (map suc v ++ 0 ∷ map suc u) w t s) [
  | inl a ↦ front_later Y k j v u w a.left a.back a.right t (omega arith) irreducible a.start a.end a.replaced
  | inr b ↦
      more_letters Y k j v u b.rest w t h b.end
      (late_step Y k zero v u b.rest t h l (tail_irreducible Y (suc k) j v irreducible) b.step)
]
late_step Y k (suc e) v u w t h l irreducible s = elim (first_letter Y k 0 (late e v u) w t s) [
  | inl a ↦ late_front Y k (suc e) v u w (late e v u) t h l refl a
  | inr b ↦ more_copies Y k e v u b.rest w t l b.end (late_step Y k e v u b.rest t h (omega arith) irreducible b.step)
]
