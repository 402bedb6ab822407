-- The images under an endomorphism by its number, and the numbers of a part of a list.
use Rattle.std.proofs.Common.{◌≡◌, ◌<◌, ◌-◌, ℕ, zero, suc, ℤ, List, [], ◌∷◌, ◌++◌, get_or, map, length, ap, sym, ◌∙◌, arith}
use Rattle.std.specs.Global.{Vec}
use Rattle.std.proofs.lemmas.List.{get_or-map, length-map}
use Rattle.pq_base.specs.LPresentation.{endo_at, AreEndoNumbers, AreEndos}
use Rattle.lpres_reader.proofs.items.KeptWords.{AreEndos-get_or}

pub AreEndoNumbers-append_left : (n : ℕ) (s t : List ℕ) → AreEndoNumbers n (s ++ t) → AreEndoNumbers n s
AreEndoNumbers-append_left n [] t h = tt
AreEndoNumbers-append_left n (zero ∷ s) t h = h
AreEndoNumbers-append_left n (suc e ∷ s) t h = (h.0, AreEndoNumbers-append_left n s t h.1)

pub AreEndoNumbers-append_right : (n : ℕ) (s t : List ℕ) → AreEndoNumbers n (s ++ t) → AreEndoNumbers n t
AreEndoNumbers-append_right n [] t h = h
AreEndoNumbers-append_right n (zero ∷ s) t h = absurd h
AreEndoNumbers-append_right n (suc e ∷ s) t h = AreEndoNumbers-append_right n s t h.1

pub length-endo_at : (n : ℕ) (endos : List (List (List ℤ))) (e : ℕ) → AreEndos n endos → AreEndoNumbers (length endos) (e ∷ [])
    → length (endo_at endos e) ≡ n
length-endo_at n endos zero h k = absurd k
length-endo_at n endos (suc i) h k = (AreEndos-get_or n endos i h k.0).0

-- a list of images, in the list that holds it
pub items_at : (endos : List (Vec (List ℤ))) (f : Vec (List ℤ)) (i : ℕ) → i < length endos → f ≡ get_or endos i f
    → get_or (map (λ g. g.items) endos) i [] ≡ f.items
items_at endos f i l is = get_or-map (λ (g : Vec (List ℤ)). g.items) endos i f [] l ∙ ap (λ (g : Vec (List ℤ)). g.items) (sym is)

pub items_within : (endos : List (Vec (List ℤ))) (i : ℕ) → i < length endos → i < length (map (λ g. g.items) endos)
items_within endos i l = omega (arith, length-map endos (λ (g : Vec (List ℤ)). g.items))

-- the list at the place below the number
pub endo_at-place : (endos : List (Vec (List ℤ))) (f : Vec (List ℤ)) (e : ℕ) → AreEndoNumbers (length (map (λ g. g.items) endos)) (e ∷ [])
    → f ≡ get_or endos (e - 1) f → f.items ≡ endo_at (map (λ g. g.items) endos) e
endo_at-place endos f zero h is = absurd h
endo_at-place endos f (suc i) h is =
    let place : suc i - 1 ≡ i = omega arith in
    let known = h.0 in
    let within : i < length endos = omega (arith, length-map endos (λ (g : Vec (List ℤ)). g.items)) in
    sym (items_at endos f i within (is ∙ ap (λ (k : ℕ). get_or endos k f) place))
