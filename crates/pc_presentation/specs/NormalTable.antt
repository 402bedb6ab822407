-- The normal words of a presentation as the elements of a table: exponents are numbered as digits to the base p, the
-- first one the lowest, and the product is that of the plain rule's pushes.
-- From: the multiplication table of a finite group, on the normal forms of a polycyclic presentation.
use Rattle.std.specs.Prelude.{◌≡◌, ◌<◌, ◌+◌, ◌*◌, ◌/◌, ◌%◌, ◌^◌, ◌↔◌, ℕ, zero, suc, ℤ, List, [], ◌∷◌, replicate}
use Rattle.pq_base.specs.SignedWord.{HasLetters}
use Rattle.pq_base.specs.Table.{Table, IsGroup, AllBelow, times, value}
use Rattle.pq_base.specs.Presentation.{Presentation, IsRelatorOf, IsNormal, normal_word}
use Rattle.pq_base.specs.Joined.{Joined}
use Rattle.pc_presentation.specs.Rowed.{without_rows}
use Rattle.pc_presentation.specs.Collection.{spelled, push_word, plain_push}

-- f at d places from i on
abbrev pub list_from : {A : Type 0} → (ℕ → A) → ℕ → ℕ → List A
list_from f i zero = []
list_from f i (suc d) = f i ∷ list_from f (suc i) d

-- n numbers, c at place t and 0 at the others
abbrev pub single : ℕ → ℕ → ℕ → List ℕ
single zero t c = []
single (suc n) zero c = c ∷ replicate n 0
single (suc n) (suc t) c = 0 ∷ single n t c

-- the number of a list of digits to the base p, and the n digits of a number
abbrev pub number_of : ℕ → List ℕ → ℕ
number_of p [] = 0
number_of p (e ∷ es) = number_of p es * p + e

abbrev pub digits : ℕ → ℕ → ℕ → List ℕ
digits p zero m = []
digits p (suc n) m = m % p ∷ digits p n (m / p)

-- the exponents that the letters of f lead to where they are pushed on e
abbrev pub product_of : Presentation → List ℕ → List ℕ → List ℕ
product_of P e f = (push_word (plain_push (without_rows P)) (record { exponents = e; row = [] }) (spelled 0 f)).exponents

unfoldable pub normal_table : Presentation → Table
normal_table P = record {
  size = P.prime ^ P.rank;
  rows = list_from (λ (a : ℕ).
      list_from (λ (b : ℕ). number_of P.prime (product_of P (digits P.prime P.rank a) (digits P.prime P.rank b))) 0 (P.prime ^ P.rank)) 0
      (P.prime ^ P.rank);
}

-- the numbers of the generators
abbrev pub generator_numbers : Presentation → List ℕ
generator_numbers P = list_from (λ (i : ℕ). number_of P.prime (single P.rank i 1)) 0 P.rank

pub record NormalWordsAreATable (P : Presentation) : Type 0 where
  pub group : IsGroup (normal_table P)
  pub size : (normal_table P).size ≡ P.prime ^ P.rank
  -- each element is the number of exactly one normal word
  pub elements : (a : ℕ) → a < (normal_table P).size → (e : List ℕ) × IsNormal P.prime P.rank e × (number_of P.prime e ≡ a)
  pub distinct : (e f : List ℕ) → IsNormal P.prime P.rank e → IsNormal P.prime P.rank f → number_of P.prime e ≡ number_of P.prime f → e ≡ f
  pub products : (e f : List ℕ) → IsNormal P.prime P.rank e → IsNormal P.prime P.rank f
      → times (normal_table P) (number_of P.prime e) (number_of P.prime f) ≡ number_of P.prime (product_of P e f)
  pub generators : AllBelow (normal_table P).size (generator_numbers P)
  pub relators : (r : List ℤ) → IsRelatorOf P r → value (normal_table P) (generator_numbers P) r ≡ 0
  pub normal_words : (e : List ℕ) → IsNormal P.prime P.rank e
      → value (normal_table P) (generator_numbers P) (normal_word e) ≡ number_of P.prime e
  pub joined : (u v : List ℤ) → HasLetters P.rank u → HasLetters P.rank v
      → Joined P u v ↔ (value (normal_table P) (generator_numbers P) u ≡ value (normal_table P) (generator_numbers P) v)
