-- One entry more of a list whose entries are made one by one.
use Rattle.std.proofs.Common.{◌≡◌, ℕ, ◌+◌, ◌<◌, List, [], ◌∷◌, ◌++◌, length, map, get_or, take, ap, ap₂, sym, ◌∙◌, append_assoc, arith}
use Rattle.std.proofs.Common.{add-one}
use Rattle.std.proofs.Math.Seq.{take-suc}
use Rattle.std.proofs.lemmas.List.{length-map, get_or-map, map_push}

pub take-more : {X : Type 0} → (xs : List X) (k : ℕ) (d : X) → k < length xs → take (k + 1) xs ≡ take k xs ++ get_or xs k d ∷ []
take-more xs k d l = ap (λ (m : ℕ). take m xs) (add-one k) ∙ take-suc xs k d l

-- of a list that is mapped
pub mapped-more : {X Y : Type 0} → (f : X → Y) (xs : List X) (k : ℕ) (d : X) (ys : List Y) (y : Y) → k < length xs
    → ys ≡ take k (map f xs) → y ≡ f (get_or xs k d) → ys ++ y ∷ [] ≡ take (k + 1) (map f xs)
mapped-more {X} {Y} f xs k d ys y l h e =
    let long = length-map xs f in
    ap₂ (λ (l : List Y) (z : Y). l ++ z ∷ []) h (e ∙ sym (get_or-map f xs k d (f d) l)) ∙ sym (take-more (map f xs) k (f d) (omega arith))

-- behind others
pub mapped-behind : {X Y : Type 0} → (f : X → Y) (front : List Y) (xs : List X) (k : ℕ) (d : X) (ys : List Y) (y : Y) → k < length xs
    → ys ≡ front ++ map f (take k xs) → y ≡ f (get_or xs k d) → ys ++ y ∷ [] ≡ front ++ map f (take (k + 1) xs)
mapped-behind {X} {Y} f front xs k d ys y l h e =
    ap₂ (λ (l : List Y) (z : Y). l ++ z ∷ []) h e ∙ append_assoc front (map f (take k xs)) (f (get_or xs k d) ∷ [])
    ∙ ap (λ (l : List Y). front ++ l) (sym (map_push f (take k xs) (get_or xs k d)) ∙ ap (map f) (sym (take-more xs k d l)))
