-- Lists of which each two entries, in their order, stand in a relation; and entries of lists that are put together or filtered.
use Rattle.std.proofs.Common.{◌≡◌, ◌⊎◌, ◌<◌, ◌+◌, ℕ, zero, suc, Bool, true, false, cond, List, [], ◌∷◌, ◌++◌, get_or, length, map, ap, sym}
use Rattle.std.proofs.Common.{◌∙◌, subst, inl, inr, arith}
use Rattle.std.specs.Prelude.{All, filter}
use Rattle.std.specs.List.{AllPairs, Contains}
use Rattle.std.proofs.lemmas.Bool.{cond-true}
use Rattle.std.proofs.lemmas.List.Elements.{All-head, All-tail, All-append}
use Rattle.std.proofs.lemmas.List.Kept.{AllPairs-cons}
use Rattle.pq_base.specs.Answer.{Definition as Source}
use Rattle.pq_base.specs.Canonical.{numbers_from}
use Rattle.p_cover.specs.Sources.{IsPartOf}
use Rattle.p_cover.specs.Sources.IsPartOf.{nothing, left_out, taken}
use Rattle.p_cover.proofs.PartLaws.{All-part}

module _ {X : Type 0} (R : X → X → Type 0) where
  pub AllPairs-nil : AllPairs R []
  AllPairs-nil i j d l m = absurd (omega arith)

  pub AllPairs-head : (x : X) (xs : List X) → AllPairs R (x ∷ xs) → All (R x) xs
  AllPairs-head x xs h k d l = h 0 (suc k) d (omega arith) (omega arith)

  pub AllPairs-tail : (x : X) (xs : List X) → AllPairs R (x ∷ xs) → AllPairs R xs
  AllPairs-tail x xs h i j d l m = h (suc i) (suc j) d (omega arith) (omega arith)

  pub AllPairs-append : (xs ys : List X) → AllPairs R xs → AllPairs R ys → All (λ x. All (R x) ys) xs → AllPairs R (xs ++ ys)
  AllPairs-append [] ys a b c = b
  AllPairs-append (x ∷ xs) ys a b c =
      AllPairs-cons R x (xs ++ ys) (All-append (R x) xs ys (AllPairs-head x xs a) (All-head (λ z. All (R z) ys) x xs c))
      (AllPairs-append xs ys (AllPairs-tail x xs a) b (All-tail (λ z. All (R z) ys) x xs c))

  pub AllPairs-weaker : (S : X → X → Type 0) → ((x y : X) → R x y → S x y) → (xs : List X) → AllPairs R xs → AllPairs S xs
  AllPairs-weaker S f xs h = λ i j d l m. f _ _ (h i j d l m)

pub AllPairs-part : (R : Source → Source → Type 0) {ds es : List Source} → IsPartOf ds es → AllPairs R es → AllPairs R ds
AllPairs-part R nothing h = AllPairs-nil R
AllPairs-part R (left_out {ds} {es} e p) h = AllPairs-part R p (AllPairs-tail R e es h)
AllPairs-part R (taken {ds} {es} e p) h =
    AllPairs-cons R e ds (All-part (R e) p (AllPairs-head R e es h)) (AllPairs-part R p (AllPairs-tail R e es h))

-- entries
module _ {X : Type 0} where
  pub Contains-here : (y x : X) (ys : List X) → y ≡ x → Contains (y ∷ ys) x
  Contains-here y x ys e = (0, omega arith, e)

  pub Contains-there : (y x : X) (ys : List X) → Contains ys x → Contains (y ∷ ys) x
  Contains-there y x ys c =
      let inside : c.0 < length ys = c.1 in
      (suc c.0, omega arith, c.2)

  first_or_later : (y x : X) (ys : List X) (k : ℕ) → k < length (y ∷ ys) → get_or (y ∷ ys) k x ≡ x → (y ≡ x) ⊎ Contains ys x
  first_or_later y x ys zero l e = inl e
  first_or_later y x ys (suc k) l e = inr (k, omega arith, e)

  Contains-cond : (b : Bool) (y x : X) (ys : List X) → Contains ys x → Contains (cond b (y ∷ ys) ys) x
  Contains-cond true y x ys c = Contains-there y x ys c
  Contains-cond false y x ys c = c

  pub Contains-filter : (p : X → Bool) (xs : List X) (x : X) → Contains xs x → p x ≡ true → Contains (filter p xs) x
  Contains-filter p [] x c h = let inside : c.0 < length {A = X} [] = c.1 in absurd (omega arith)
  Contains-filter p (y ∷ ys) x c h = elim (first_or_later y x ys c.0 c.1 c.2) [
    | inl e ↦
        subst (λ (l : List X). Contains l x) (sym (cond-true (p y) (y ∷ filter p ys) (filter p ys) (ap p e ∙ h)))
        (Contains-here y x (filter p ys) e)
    | inr later ↦ Contains-cond (p y) y x (filter p ys) (Contains-filter p ys x later h)
  ]

  pub Contains-map_numbers : (f : ℕ → X) (a n i : ℕ) → i < n → Contains (map f (numbers_from a n)) (f (a + i))
  Contains-map_numbers f a (suc n) zero h =
      let here : a ≡ a + 0 = omega arith in
      Contains-here (f a) (f (a + 0)) (map f (numbers_from (suc a) n)) (ap f here)
  Contains-map_numbers f a (suc n) (suc i) h =
      let there : suc a + i ≡ a + suc i = omega arith in
      Contains-there (f a) (f (a + suc i)) (map f (numbers_from (suc a) n))
      (subst (λ (k : ℕ). Contains (map f (numbers_from (suc a) n)) (f k)) there (Contains-map_numbers f (suc a) n i (omega arith)))
  Contains-map_numbers f a zero i h = absurd (omega arith)
