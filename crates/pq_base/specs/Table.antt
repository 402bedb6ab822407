-- Finite groups as multiplication tables, values of words in them, and their lower exponent-p series.
-- From: the definition of a finite group; the series is that of Newman and O'Brien's p-quotient method.
-- In a finite group the products of lists of commutators and powers are the subgroup that they generate.
use Rattle.std.specs.Prelude.{◌≡◌, ◌<◌, ℕ, zero, suc, ℤ, pos, negsuc, List, [], ◌∷◌, get_or, length}

-- elements are the numbers below the size; row a holds the products of a with 0, 1, ..
pub record Table : Type 0 where
  pub size : ℕ
  pub rows : List (List ℕ)

abbrev pub times : Table → ℕ → ℕ → ℕ
times T a b = get_or (get_or T.rows a []) b 0

-- the place of the first 0, or the length
abbrev pub place_of_zero : List ℕ → ℕ
place_of_zero [] = 0
place_of_zero (zero ∷ xs) = 0
place_of_zero (suc x ∷ xs) = suc (place_of_zero xs)

-- the first element whose product with a is 0
abbrev pub inverse : Table → ℕ → ℕ
inverse T a = place_of_zero (get_or T.rows a [])

-- a group with neutral element 0; rows have exact lengths, so that one table is one value
pub record IsGroup (T : Table) : Type 0 where
  pub nonempty : 0 < T.size
  pub row_count : length T.rows ≡ T.size
  pub widths : (a : ℕ) → a < T.size → length (get_or T.rows a []) ≡ T.size
  pub closed : (a b : ℕ) → a < T.size → b < T.size → times T a b < T.size
  pub associative : (a b c : ℕ) → a < T.size → b < T.size → c < T.size → times T (times T a b) c ≡ times T a (times T b c)
  pub neutral_left : (a : ℕ) → a < T.size → times T 0 a ≡ a
  pub neutral_right : (a : ℕ) → a < T.size → times T a 0 ≡ a
  pub inverses : (a : ℕ) → a < T.size → (b : ℕ) × (b < T.size) × (times T a b ≡ 0) × (times T b a ≡ 0)

-- every entry is below a bound
abbrev pub AllBelow : ℕ → List ℕ → Type 0
AllBelow n [] = Unit {0}
AllBelow n (x ∷ xs) = (x < n) × AllBelow n xs

-- the element that a letter stands for under a list of elements, the first for generator 1
abbrev pub element_of : Table → List ℕ → ℤ → ℕ
element_of T f (pos zero) = 0
element_of T f (pos (suc n)) = get_or f n 0
element_of T f (negsuc n) = inverse T (get_or f n 0)

-- the product along a word
abbrev pub value : Table → List ℕ → List ℤ → ℕ
value T f [] = 0
value T f (k ∷ w) = times T (element_of T f k) (value T f w)

abbrev pub power : Table → ℕ → ℕ → ℕ
power T a zero = 0
power T a (suc n) = times T a (power T a n)

-- a⁻¹ b⁻¹ a b
abbrev pub commutator : Table → ℕ → ℕ → ℕ
commutator T a b = times T (inverse T a) (times T (inverse T b) (times T a b))

-- the products of lists of commutators [u,v] and powers u^p, with u in S and v any element
pub data NextElement (T : Table) (p : ℕ) (S : ℕ → Type 0) : ℕ → Type 0 where
  no_element : NextElement T p S 0
  times_commutator : (u v x : ℕ) → S u → v < T.size → NextElement T p S x → NextElement T p S (times T (commutator T u v) x)
  times_power : (u x : ℕ) → S u → NextElement T p S x → NextElement T p S (times T (power T u p) x)

-- level k of the lower exponent-p series of a table
abbrev pub InLevel : Table → ℕ → ℕ → ℕ → Type 0
InLevel T p zero x = x < T.size
InLevel T p (suc k) x = NextElement T p (InLevel T p k) x

-- p-class at most c: level c is trivial
abbrev pub HasTableClass : Table → ℕ → ℕ → Type 0
HasTableClass T p c = (x : ℕ) → InLevel T p c x → x ≡ 0
