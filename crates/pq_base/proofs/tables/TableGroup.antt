-- The elements of a group table, each with the proof that it is below the size, are a group, in which the value of a word
-- is its value in the table. So values in a table keep products, inverses, powers and commutators, and joined words have
-- equal values where each relator has value 0.
use Rattle.std.proofs.Common.{◌≡◌, ℕ, zero, suc, ◌<◌, ℤ, pos, negsuc, List, [], ◌∷◌, ◌++◌, get_or, map, refl, ap, sym, ◌∙◌}
use Rattle.std.proofs.Math.ListN.{get_or-map}
use Rattle.pq_base.specs.SignedWord.{inv, copies, comm, image_of, sub, HasLetters}
use Rattle.pq_base.specs.Table.{Table, IsGroup, AllBelow, times, inverse, element_of, value, power, commutator}
use Rattle.pq_base.specs.Presentation.{Presentation, IsRelatorOf, letter}
use Rattle.pq_base.specs.Joined.{Chain, Joined}
use Rattle.pq_base.specs.Laws.{JoinedWordsHaveEqualValues}
use Rattle.pq_base.proofs.groups.Groups.{Group, element_in, value_in, power_in, value_in-append, value_in-inv, value_in-copies}
use Rattle.pq_base.proofs.groups.Groups.{value_in-comm, value_in-chain, value_in-joined}
use Rattle.pq_base.proofs.tables.TableLaws.{times-inverse, inverse-times, inverse-below, get_or-below}

-- an element of a table
pub record Element (T : Table) : Type 0 where
  pub number : ℕ
  pub below : number < T.size

abbrev pub table_group : (T : Table) → IsGroup T → Group
table_group T g = record {
  carrier = Element T;
  same = λ x y. x.number ≡ y.number;
  times = λ x y. record { number = times T x.number y.number; below = g.closed x.number y.number x.below y.below };
  one = record { number = 0; below = g.nonempty };
  inverse = λ x. record { number = inverse T x.number; below = inverse-below T g x.number x.below };
  reflexive = λ x. refl;
  symmetric = λ e. sym e;
  transitive = λ e h. e ∙ h;
  times-same = λ {x} {y} {u} {v} e h. ap (λ (n : ℕ). times T n u.number) e ∙ ap (times T y.number) h;
  inverse-same = λ e. ap (inverse T) e;
  associative = λ x y z. g.associative x.number y.number z.number x.below y.below z.below;
  one_left = λ x. g.neutral_left x.number x.below;
  one_right = λ x. g.neutral_right x.number x.below;
  inverse_left = λ x. inverse-times T g x.number x.below;
  inverse_right = λ x. times-inverse T x.number;
}

-- a list of numbers below the size as elements
abbrev pub elements : (T : Table) (f : List ℕ) → AllBelow T.size f → List (Element T)
elements T [] h = []
elements T (x ∷ f) h = record { number = x; below = h.0 } ∷ elements T f h.1

module _ (T : Table) (g : IsGroup T) where
  pub get_or-elements : (f : List ℕ) (h : AllBelow T.size f) (i : ℕ)
      → (get_or (elements T f h) i (record { number = 0; below = g.nonempty })).number ≡ get_or f i 0
  get_or-elements [] h i = refl
  get_or-elements (x ∷ f) h zero = refl
  get_or-elements (x ∷ f) h (suc i) = get_or-elements f h.1 i

  pub element_in-table_group : (f : List ℕ) (h : AllBelow T.size f) (k : ℤ)
      → (element_in (table_group T g) (elements T f h) k).number ≡ element_of T f k
  element_in-table_group f h (pos zero) = refl
  element_in-table_group f h (pos (suc n)) = get_or-elements f h n
  element_in-table_group f h (negsuc n) = ap (inverse T) (get_or-elements f h n)

  -- the value in this group is the value in the table
  pub value_in-table_group : (f : List ℕ) (h : AllBelow T.size f) (w : List ℤ)
      → (value_in (table_group T g) (elements T f h) w).number ≡ value T f w
  value_in-table_group f h [] = refl
  value_in-table_group f h (k ∷ w) = rw (element_in-table_group f h k, value_in-table_group f h w)

  pub power_in-table_group : (x : Element T) (n : ℕ) → (power_in (table_group T g) x n).number ≡ power T x.number n
  power_in-table_group x zero = refl
  power_in-table_group x (suc n) = ap (times T x.number) (power_in-table_group x n)

  -- values of words
  module _ (f : List ℕ) (h : AllBelow T.size f) where
    pub value-append : (u v : List ℤ) → value T f (u ++ v) ≡ times T (value T f u) (value T f v)
    value-append u v =
        rw (← value_in-table_group f h (u ++ v), ← value_in-table_group f h u, ← value_in-table_group f h v)
        (value_in-append (table_group T g) (elements T f h) u v)

    pub value-inv : (u : List ℤ) → value T f (inv u) ≡ inverse T (value T f u)
    value-inv u =
        rw (← value_in-table_group f h (inv u), ← value_in-table_group f h u)
        (value_in-inv (table_group T g) (elements T f h) u)

    pub value-copies : (u : List ℤ) (n : ℕ) → value T f (copies u n) ≡ power T (value T f u) n
    value-copies u n =
        sym (value_in-table_group f h (copies u n)) ∙ value_in-copies (table_group T g) (elements T f h) u n
        ∙ power_in-table_group (value_in (table_group T g) (elements T f h) u) n
        ∙ ap (λ (x : ℕ). power T x n) (value_in-table_group f h u)

    pub value-comm : (u v : List ℤ) → value T f (comm u v) ≡ commutator T (value T f u) (value T f v)
    value-comm u v =
        rw (← value_in-table_group f h (comm u v), ← value_in-table_group f h u, ← value_in-table_group f h v)
        (value_in-comm (table_group T g) (elements T f h) u v)

    pub value-letter : (i : ℕ) → value T f (letter i) ≡ get_or f i 0
    value-letter i = g.neutral_right (get_or f i 0) (get_or-below T.size f i g.nonempty h)

    -- the value of a substituted word
    pub value-image_of : (s : List (List ℤ)) (k : ℤ) → value T f (image_of s k) ≡ element_of T (map (value T f) s) k
    value-image_of s (pos zero) = refl
    value-image_of s (pos (suc n)) = sym (get_or-map (value T f) s n [])
    value-image_of s (negsuc n) = value-inv (get_or s n []) ∙ ap (inverse T) (sym (get_or-map (value T f) s n []))

    pub value-sub : (w : List ℤ) (s : List (List ℤ)) → value T f (sub w s) ≡ value T (map (value T f) s) w
    value-sub [] s = refl
    value-sub (k ∷ w) s =
        value-append (image_of s k) (sub w s)
        ∙ ap (λ (x : ℕ). times T x (value T f (sub w s))) (value-image_of s k)
        ∙ ap (times T (element_of T (map (value T f) s) k)) (value-sub w s)

    -- chains and joined words
    pub value-chain : (E : List ℤ → Type 0) → ((x : List ℤ) → E x → value T f x ≡ 0) → {u v : List ℤ} → Chain E u v
        → value T f u ≡ value T f v
    value-chain E kills {u} {v} c =
        sym (value_in-table_group f h u)
        ∙ value_in-chain (table_group T g) E (elements T f h) (λ x e. value_in-table_group f h x ∙ kills x e) c
        ∙ value_in-table_group f h v

    pub value-joined : (P : Presentation) → ((r : List ℤ) → IsRelatorOf P r → value T f r ≡ 0)
        → {u v : List ℤ} → Joined P u v → value T f u ≡ value T f v
    value-joined P kills {u} {v} c =
        sym (value_in-table_group f h u)
        ∙ value_in-joined (table_group T g) P (elements T f h) (λ r e. value_in-table_group f h r ∙ kills r e) c
        ∙ value_in-table_group f h v

-- lists of elements that agree at the first n generators
pub value-agree : (T : Table) (n : ℕ) (f g : List ℕ) → ((i : ℕ) → i < n → get_or f i 0 ≡ get_or g i 0)
    → (w : List ℤ) → HasLetters n w → value T f w ≡ value T g w
value-agree T n f g e [] h = refl
value-agree T n f g e (pos zero ∷ w) h = absurd h.0
value-agree T n f g e (pos (suc i) ∷ w) h = rw (e i h.0, value-agree T n f g e w h.1)
value-agree T n f g e (negsuc i ∷ w) h = rw (e i h.0, value-agree T n f g e w h.1)

pub joined_words_have_equal_values : JoinedWordsHaveEqualValues
joined_words_have_equal_values P T f g h kills u v c = value-joined T g f h P kills c
