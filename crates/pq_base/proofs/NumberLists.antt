-- Lists of successive numbers: their length, their entries, and what holds of each.
use Rattle.std.proofs.Common.{◌≡◌, ◌<◌, ◌≤◌, ◌+◌, ◌-◌, ℕ, zero, suc, List, [], ◌∷◌, ◌++◌, get_or, length, map, refl, ap, ap₂, ◌∙◌, arith}
use Rattle.std.proofs.Common.{add-one}
use Rattle.std.specs.Prelude.{All}
use Rattle.std.specs.List.{Contains}
use Rattle.std.proofs.lemmas.List.{get_or-map, map_push}
use Rattle.std.proofs.lemmas.List.Elements.{All-nil, All-cons}
use Rattle.pq_base.specs.Canonical.{numbers_from}

pub length-numbers_from : (a n : ℕ) → length (numbers_from a n) ≡ n
length-numbers_from a zero = refl
length-numbers_from a (suc n) = ap suc (length-numbers_from (suc a) n)

pub get_or-numbers_from : (a n i d : ℕ) → i < n → get_or (numbers_from a n) i d ≡ a + i
get_or-numbers_from a zero i d h = absurd (omega arith)
get_or-numbers_from a (suc n) zero d h = omega arith
get_or-numbers_from a (suc n) (suc i) d h = omega (arith, get_or-numbers_from (suc a) n i d (omega arith))

pub get_or-map_numbers : {X : Type 0} → (f : ℕ → X) (a n i : ℕ) (d : X) → i < n → get_or (map f (numbers_from a n)) i d ≡ f (a + i)
get_or-map_numbers f a n i d h =
    let long : length (numbers_from a n) ≡ n = length-numbers_from a n in
    get_or-map f (numbers_from a n) i 0 d (omega arith) ∙ ap f (get_or-numbers_from a n i 0 h)

pub numbers_from-push : (a n : ℕ) → numbers_from a (suc n) ≡ numbers_from a n ++ (a + n) ∷ []
numbers_from-push a zero = let place : a ≡ a + 0 = omega arith in ap (λ (k : ℕ). k ∷ []) place
numbers_from-push a (suc n) =
    let place : suc a + n ≡ a + suc n = omega arith in
    ap (λ (l : List ℕ). a ∷ l) (numbers_from-push (suc a) n ∙ ap (λ (k : ℕ). numbers_from (suc a) n ++ k ∷ []) place)

pub map_numbers-push : {X : Type 0} → (f : ℕ → X) (a n : ℕ) → map f (numbers_from a (suc n)) ≡ map f (numbers_from a n) ++ f (a + n) ∷ []
map_numbers-push f a n = ap (map f) (numbers_from-push a n) ∙ map_push f (numbers_from a n) (a + n)

-- one number more, where numbers count from 1
pub numbers-more : (n : ℕ) → numbers_from 1 (n + 1) ≡ numbers_from 1 n ++ (n + 1) ∷ []
numbers-more n =
    let place : 1 + n ≡ n + 1 = omega arith in
    ap (numbers_from 1) (add-one n) ∙ numbers_from-push 1 n ∙ ap (λ (k : ℕ). numbers_from 1 n ++ k ∷ []) place

pub map_numbers-more : {X : Type 0} → (f : ℕ → X) (n : ℕ) → map f (numbers_from 1 (n + 1)) ≡ map f (numbers_from 1 n) ++ f (n + 1) ∷ []
map_numbers-more f n = ap (map f) (numbers-more n) ∙ map_push f (numbers_from 1 n) (n + 1)

-- functions that agree on a range
pub map_numbers-agree : {X : Type 0} → (f g : ℕ → X) (n a : ℕ) → ((t : ℕ) → a ≤ t → t < a + n → f t ≡ g t)
    → map f (numbers_from a n) ≡ map g (numbers_from a n)
map_numbers-agree f g zero a same = refl
map_numbers-agree {X} f g (suc n) a same =
    ap₂ (λ (x : X) (xs : List X). x ∷ xs) (same a (omega arith) (omega arith))
    (map_numbers-agree f g n (suc a) (λ t l m. same t (omega arith) (omega arith)))

pub All-numbers : (P : ℕ → Type 0) (a n : ℕ) → ((k : ℕ) → a ≤ k → k < a + n → P k) → All P (numbers_from a n)
All-numbers P a zero h = All-nil P
All-numbers P a (suc n) h =
    All-cons P a (numbers_from (suc a) n) (h a (omega arith) (omega arith))
    (All-numbers P (suc a) n (λ k l m. h k (omega arith) (omega arith)))

-- the numbers of a list of successive ones
pub Contains-numbers_from : (a n c : ℕ) → a ≤ c → c < a + n → Contains (numbers_from a n) c
Contains-numbers_from a n c h l =
    let long = length-numbers_from a n in
    let entry = get_or-numbers_from a n (c - a) c (omega arith) in (
      c - a,
      (let within : c - a < length (numbers_from a n) = omega arith in within),
      (let same : get_or (numbers_from a n) (c - a) c ≡ c = omega arith in same),
    )
