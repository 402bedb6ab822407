-- Members of lists by recursion, and lists in which no member stands twice: under concatenation, under maps that tell
-- members apart, and in ranges of numbers.
use Rattle.std.proofs.Common.{◌≡◌, ◌≢◌, ◌⊎◌, inl, inr, ℕ, zero, suc, ◌+◌, ◌<◌, ◌≤◌, List, [], ◌∷◌, ◌++◌, get_or, length, map, refl, ap, sym}
use Rattle.std.proofs.Common.{subst, arith, eq-or-lt_of_le}
use Rattle.std.specs.List.{Contains, flat_map}
use Rattle.pq_base.specs.Canonical.{numbers_from}

-- x stands in a list
abbrev pub In : {A : Type 0} → A → List A → Type 0
In x [] = ⊥
In x (y ∷ ys) = (y ≡ x) ⊎ In x ys

-- no member stands twice
abbrev pub Apart : {A : Type 0} → List A → Type 0
Apart [] = Unit {0}
Apart (x ∷ xs) = (In x xs → ⊥) × Apart xs

-- what a member of a map is made of
pub record IsMade {A B : Type 0} (f : A → B) (xs : List A) (y : B) : Type 0 where
  pub source : A
  pub member : In source xs
  pub made : f source ≡ y

-- the list among several in which a member stands
pub record IsWithin {A B : Type 0} (f : A → List B) (xs : List A) (y : B) : Type 0 where
  pub source : A
  pub member : In source xs
  pub inside : In y (f source)

module _ {A : Type 0} where
  pub In-append_left : (x : A) (xs ys : List A) → In x xs → In x (xs ++ ys)
  In-append_left x [] ys h = absurd h
  In-append_left x (z ∷ xs) ys (inl e) = inl e
  In-append_left x (z ∷ xs) ys (inr h) = inr (In-append_left x xs ys h)

  pub In-append_right : (x : A) (xs ys : List A) → In x ys → In x (xs ++ ys)
  In-append_right x [] ys h = h
  In-append_right x (z ∷ xs) ys h = inr (In-append_right x xs ys h)

  pub In-append_cases : (x : A) (xs ys : List A) → In x (xs ++ ys) → In x xs ⊎ In x ys
  In-append_cases x [] ys h = inr h
  In-append_cases x (z ∷ xs) ys (inl e) = inl (inl e)
  In-append_cases x (z ∷ xs) ys (inr h) = elim (In-append_cases x xs ys h) [
    | inl m ↦ inl (inr m)
    | inr m ↦ inr m
  ]

  -- members by places
  pub In-get_or : (xs : List A) (k : ℕ) (d : A) → k < length xs → In (get_or xs k d) xs
  In-get_or [] k d h = absurd (omega arith)
  In-get_or (x ∷ xs) zero d h = inl refl
  In-get_or (x ∷ xs) (suc k) d h = inr (In-get_or xs k d (omega arith))

  pub Contains-from_In : (x : A) (xs : List A) → In x xs → Contains xs x
  Contains-from_In x [] h = absurd h
  Contains-from_In x (y ∷ xs) (inl e) = (0, omega arith, e)
  Contains-from_In x (y ∷ xs) (inr h) =
      let c = Contains-from_In x xs h in
      let l = c.1 in
      (suc c.0, omega arith, c.2)

  pub In-from_Contains : (x : A) (xs : List A) → Contains xs x → In x xs
  In-from_Contains x xs c = subst (λ (y : A). In y xs) c.2 (In-get_or xs c.0 x c.1)

  pub Apart-append : (xs ys : List A) → Apart xs → Apart ys → ((x : A) → In x xs → In x ys → ⊥) → Apart (xs ++ ys)
  Apart-append [] ys h i apart = i
  Apart-append (x ∷ xs) ys h i apart = (
    λ m. elim (In-append_cases x xs ys m) [
      | inl l ↦ h.0 l
      | inr r ↦ apart x (inl refl) r
    ],
    Apart-append xs ys h.1 i (λ y m n. apart y (inr m) n),
  )

  -- two places never hold one member
  pub Apart-places : (xs : List A) (k l : ℕ) (d : A) → Apart xs → k < l → l < length xs → get_or xs k d ≢ get_or xs l d
  Apart-places [] k l d h i j = absurd (omega arith)
  Apart-places (x ∷ xs) k zero d h i j = absurd (omega arith)
  Apart-places (x ∷ xs) zero (suc l) d h i j = λ e. h.0 (subst (λ (y : A). In y xs) (sym e) (In-get_or xs l d (omega arith)))
  Apart-places (x ∷ xs) (suc k) (suc l) d h i j = Apart-places xs k l d h.1 (omega arith) (omega arith)

module _ {A B : Type 0} where
  pub In-map : (f : A → B) (x : A) (xs : List A) → In x xs → In (f x) (map f xs)
  In-map f x [] h = absurd h
  In-map f x (z ∷ xs) (inl e) = inl (ap f e)
  In-map f x (z ∷ xs) (inr h) = inr (In-map f x xs h)

  pub In-map_cases : (f : A → B) (y : B) (xs : List A) → In y (map f xs) → IsMade f xs y
  In-map_cases f y [] h = absurd h
  In-map_cases f y (z ∷ xs) (inl e) = record { source = z; member = inl refl; made = e }
  In-map_cases f y (z ∷ xs) (inr h) =
      let m = In-map_cases f y xs h in
      record { source = m.source; member = inr m.member; made = m.made }

  pub In-flat_map : (f : A → List B) (x : A) (y : B) (xs : List A) → In x xs → In y (f x) → In y (flat_map f xs)
  In-flat_map f x y [] m h = absurd m
  In-flat_map f x y (z ∷ xs) (inl e) h = In-append_left y (f z) (flat_map f xs) (subst (λ (w : A). In y (f w)) (sym e) h)
  In-flat_map f x y (z ∷ xs) (inr m) h = In-append_right y (f z) (flat_map f xs) (In-flat_map f x y xs m h)

  pub In-flat_map_cases : (f : A → List B) (y : B) (xs : List A) → In y (flat_map f xs) → IsWithin f xs y
  In-flat_map_cases f y [] h = absurd h
  In-flat_map_cases f y (z ∷ xs) h = elim (In-append_cases y (f z) (flat_map f xs) h) [
    | inl i ↦ record { source = z; member = inl refl; inside = i }
    | inr i ↦
        let m = In-flat_map_cases f y xs i in
        record { source = m.source; member = inr m.member; inside = m.inside }
  ]

  pub Apart-map : (f : A → B) (xs : List A) → ((x y : A) → f x ≡ f y → x ≡ y) → Apart xs → Apart (map f xs)
  Apart-map f [] inj h = tt
  Apart-map f (x ∷ xs) inj h = (
    λ m. let c = In-map_cases f (f x) xs m in
        h.0 (subst (λ (y : A). In y xs) (inj c.source x c.made) c.member),
    Apart-map f xs inj h.1,
  )

  pub Apart-flat_map : (f : A → List B) (xs : List A) → ((x : A) → Apart (f x)) → ((x y : A) (z : B) → In z (f x) → In z (f y) → x ≡ y)
      → Apart xs → Apart (flat_map f xs)
  Apart-flat_map f [] each inj h = tt
  Apart-flat_map f (x ∷ xs) each inj h =
      Apart-append (f x) (flat_map f xs) (each x) (Apart-flat_map f xs each inj h.1)
      (λ z m n. let c = In-flat_map_cases f z xs n in
      h.0 (subst (λ (y : A). In y xs) (inj c.source x z c.inside m) c.member))

-- ranges of numbers
pub In-numbers : (a n i : ℕ) → a ≤ i → i < a + n → In i (numbers_from a n)
In-numbers a zero i h l = absurd (omega arith)
In-numbers a (suc n) i h l = elim (eq-or-lt_of_le h) [
  | inl e ↦ inl e
  | inr m ↦ inr (In-numbers (suc a) n i m (omega arith))
]

pub numbers-range : (a n i : ℕ) → In i (numbers_from a n) → (a ≤ i) × (i < a + n)
numbers-range a zero i h = absurd h
numbers-range a (suc n) i (inl e) = (omega arith, omega arith)
numbers-range a (suc n) i (inr h) =
    let r = numbers-range (suc a) n i h in
    let low = r.0 in
    let high = r.1 in
    (omega arith, omega arith)

pub Apart-numbers : (a n : ℕ) → Apart (numbers_from a n)
Apart-numbers a zero = tt
Apart-numbers a (suc n) = (λ m. let low = (numbers-range (suc a) n a m).0 in omega arith, Apart-numbers (suc a) n)
