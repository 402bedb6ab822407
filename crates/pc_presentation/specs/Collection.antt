-- Collection: directed steps on words of generators with a row, and the plain rule, the simplest way of choosing them.
-- Letters of these words are the places of generators, counted from 0; the tails stand in the row alone.
-- From: collection from the left in P. Hall's sense, as in C. C. Sims, Computation with finitely presented groups, chapter 9.
use Rattle.std.specs.Prelude.{◌<◌, ◌+◌, ℕ, zero, suc, Bool, true, false, eqb, ℤ, List, [], ◌∷◌, ◌++◌, replicate}
use Rattle.pq_base.specs.Presentation.{IsNormal, letter, word_from, power_side, commutator_side}
use Rattle.pc_presentation.specs.Rowed.{RowedPresentation, power_row, commutator_row, row_sum}

-- a word with a row
pub record Configuration : Type 0 where
  pub word : List ℕ
  pub row : List ℕ

-- exponents of generators from some place on, and a row
pub record State : Type 0 where
  pub exponents : List ℕ
  pub row : List ℕ

-- a state of n generators
pub record IsState (Y : RowedPresentation) (n : ℕ) (s : State) : Type 0 where
  pub exponents : IsNormal Y.base.prime n s.exponents
  pub row : IsNormal Y.base.prime Y.width s.row

-- the state of zeros
abbrev pub identity : RowedPresentation → ℕ → State
identity Y n = record { exponents = replicate n 0; row = replicate Y.width 0 }

-- the letters of exponents of the generators from place i on
abbrev pub spelled : ℕ → List ℕ → List ℕ
spelled i [] = []
spelled i (e ∷ es) = replicate e i ++ spelled (suc i) es

abbrev pub configuration_of : State → Configuration
configuration_of s = record { word = spelled 0 s.exponents; row = s.row }

-- the signed word of letters
abbrev pub letters : List ℕ → List ℤ
letters [] = []
letters (i ∷ u) = letter i ++ letters u

-- the signed word of a configuration in the flat reading, where the tails follow n generators
abbrev pub signed_word : ℕ → Configuration → List ℤ
signed_word n c = letters c.word ++ word_from n c.row

-- the left side l of a relation may be replaced by r, where the row t is added
pub data Replacement (Y : RowedPresentation) : List ℕ → List ℕ → List ℕ → Type 0 where
  swap : (j i : ℕ) → j < Y.base.rank → i < j
      → Replacement Y (j ∷ i ∷ []) (i ∷ j ∷ spelled (suc j) (commutator_side Y.base j i)) (commutator_row Y j i)
  power : (i : ℕ) → i < Y.base.rank
      → Replacement Y (replicate Y.base.prime i) (spelled (suc i) (power_side Y.base i)) (power_row Y i)

-- one replacement that R allows, at any place of the word
pub data Step (p : ℕ) (R : List ℕ → List ℕ → List ℕ → Type 0) : Configuration → Configuration → Type 0 where
  replace : (a l r b t x : List ℕ) → R l r t
      → Step p R (record { word = a ++ (l ++ b); row = x }) (record { word = a ++ (r ++ b); row = row_sum p x t })

-- steps one after the other
pub data Run (p : ℕ) (R : List ℕ → List ℕ → List ℕ → Type 0) : Configuration → Configuration → Type 0 where
  stop : {c : Configuration} → Run p R c c
  move : {c d e : Configuration} → Step p R c d → Run p R d e → Run p R c e

abbrev pub DirectedRun : RowedPresentation → Configuration → Configuration → Type 0
DirectedRun Y c d = Run Y.base.prime (Replacement Y) c d

-- a row added to a state, and an exponent before it
abbrev pub add_row : ℕ → List ℕ → State → State
add_row p t s = record { exponents = s.exponents; row = row_sum p s.row t }

abbrev pub before : ℕ → State → State
before e s = record { exponents = e ∷ s.exponents; row = s.row }

-- the letters of a word pushed one after the other
abbrev pub push_word : (State → ℕ → State) → State → List ℕ → State
push_word push s [] = s
push_word push s (i ∷ u) = push_word push (push s i) u

-- the letters of a configuration pushed, and then its row added
abbrev pub push_configuration : RowedPresentation → (State → ℕ → State) → State → Configuration → State
push_configuration Y push s c = add_row Y.base.prime c.row (push_word push s c.word)

-- The plain rule. Below, push pushes the generators after place k, counted from 0 there.

-- the right side of the power of the generator at place k
abbrev pub push_power : RowedPresentation → (State → ℕ → State) → ℕ → State → State
push_power Y push k s = push_configuration Y push s (record { word = spelled 0 (power_side Y.base k); row = power_row Y k })

-- a letter that the generator at place k has passed: the letter and the right side of its commutator
abbrev pub push_past : RowedPresentation → (State → ℕ → State) → ℕ → State → ℕ → State
push_past Y push k s j =
    push_configuration Y push (push s j)
    (record { word = spelled (suc j) (commutator_side Y.base (suc (k + j)) k); row = commutator_row Y (suc (k + j)) k })

-- exponent e of the generator at place k raised, where it becomes the prime (true) and where it does not: the letters of
-- the later exponents h are pushed again, passed, on the state of zeros start
abbrev pub raise : Bool → RowedPresentation → (State → ℕ → State) → ℕ → ℕ → State → List ℕ → State
raise true Y push k e start h = before 0 (push_word (push_past Y push k) (push_power Y push k start) (spelled 0 h))
raise false Y push k e start h = before (suc e) (push_word (push_past Y push k) start (spelled 0 h))

-- generator i pushed on exponents h and the row x, with n generators from place k on; i is counted from place k too
unfoldable pub plain_push_from : RowedPresentation → ℕ → ℕ → List ℕ → List ℕ → ℕ → State
plain_push_from Y zero k h x i = record { exponents = h; row = x }
plain_push_from Y (suc n) k [] x i = record { exponents = []; row = x }
plain_push_from Y (suc n) k (e ∷ h) x (suc i) = before e (plain_push_from Y n (suc k) h x i)
plain_push_from Y (suc n) k (e ∷ h) x zero =
    raise (eqb (suc e) Y.base.prime) Y (λ (s : State) (j : ℕ). plain_push_from Y n (suc k) s.exponents s.row j) k e
    (record { exponents = replicate n 0; row = x }) h

abbrev pub plain_push : RowedPresentation → State → ℕ → State
plain_push Y s i = plain_push_from Y Y.base.rank 0 s.exponents s.row i
