-- Arithmetic over any collector. Its meaning is a function of a state and a generator, each value of which some directed
-- run reaches. Products, quotients and values of words are made from it, also where the presentation is not consistent.
use Rattle.std.specs.Prelude.{◌≡◌, ◌<◌, ℕ, zero, suc, ℤ, pos, negsuc, List, [], ◌∷◌, ◌++◌, get_or, length, map}
use Rattle.pq_base.specs.SignedWord.{inv, comm, sub, HasLetters}
use Rattle.pq_base.specs.Joined.{Joined}
use Rattle.pc_presentation.specs.Rowed.{RowedPresentation, flat}
use Rattle.pc_presentation.specs.Collection.{State, IsState, identity, configuration_of, signed_word, push_configuration}
use Rattle.pc_presentation.specs.Overlaps.{IsPushed}

pub record IsMeaning (Y : RowedPresentation) (push : State → ℕ → State) : Type 0 where
  pub pushed : (s : State) (i : ℕ) → IsState Y Y.base.rank s → i < Y.base.rank → IsPushed Y s i (push s i)

-- the letters of v pushed on u, and the row of v added
abbrev pub product_by : RowedPresentation → (State → ℕ → State) → State → State → State
product_by Y push u v = push_configuration Y push u (configuration_of v)

-- the signed word of a state in the flat reading
abbrev pub word_of : RowedPresentation → State → List ℤ
word_of Y s = signed_word Y.base.rank (configuration_of s)

-- the one state whose product behind s is t
pub record IsQuotient (Y : RowedPresentation) (push : State → ℕ → State) (s t e : State) : Type 0 where
  pub state : IsState Y Y.base.rank e
  pub product : product_by Y push s e ≡ t
  pub only : (f : State) → IsState Y Y.base.rank f → product_by Y push s f ≡ t → f ≡ e

-- the product of s and the images f of the letters of a word; g are the inverses of the images
abbrev pub evaluate_from : RowedPresentation → (State → ℕ → State) → List State → List State → State → List ℤ → State
evaluate_from Y push f g s [] = s
evaluate_from Y push f g s (pos zero ∷ w) = evaluate_from Y push f g s w
evaluate_from Y push f g s (pos (suc i) ∷ w) = evaluate_from Y push f g (product_by Y push s (get_or f i (identity Y Y.base.rank))) w
evaluate_from Y push f g s (negsuc i ∷ w) = evaluate_from Y push f g (product_by Y push s (get_or g i (identity Y Y.base.rank))) w

-- images, and their inverses
pub record AreImages (Y : RowedPresentation) (push : State → ℕ → State) (f g : List State) : Type 0 where
  pub states : (i : ℕ) → i < length f → IsState Y Y.base.rank (get_or f i (identity Y Y.base.rank))
  pub inverse_states : (i : ℕ) → i < length f → IsState Y Y.base.rank (get_or g i (identity Y Y.base.rank))
  pub inverses : (i : ℕ) → i < length f
      → product_by Y push (get_or f i (identity Y Y.base.rank)) (get_or g i (identity Y Y.base.rank)) ≡ identity Y Y.base.rank

-- what holds of the arithmetic of each collector
pub record HasArithmetic (Y : RowedPresentation) (push : State → ℕ → State) : Type 0 where
  -- products are states, and the identity is neutral
  pub product_states : (u v : State) → IsState Y Y.base.rank u → IsState Y Y.base.rank v → IsState Y Y.base.rank (product_by Y push u v)
  pub neutral_left : (u : State) → IsState Y Y.base.rank u → product_by Y push (identity Y Y.base.rank) u ≡ u
  pub neutral_right : (u : State) → IsState Y Y.base.rank u → product_by Y push u (identity Y Y.base.rank) ≡ u
  -- each quotient is there, once
  pub quotients : (s t : State) → IsState Y Y.base.rank s → IsState Y Y.base.rank t → (e : State) × IsQuotient Y push s t e
  -- a product, an inverse, a commutator and a value are joined to the words of these names
  pub products : (u v : State) → IsState Y Y.base.rank u → IsState Y Y.base.rank v
      → Joined (flat Y) (word_of Y (product_by Y push u v)) (word_of Y u ++ word_of Y v)
  pub inverses : (u e : State) → IsState Y Y.base.rank u → IsState Y Y.base.rank e → product_by Y push u e ≡ identity Y Y.base.rank
      → Joined (flat Y) (word_of Y e) (inv (word_of Y u))
  pub commutators : (u v e : State) → IsState Y Y.base.rank u → IsState Y Y.base.rank v → IsState Y Y.base.rank e
      → product_by Y push (product_by Y push v u) e ≡ product_by Y push u v
      → Joined (flat Y) (word_of Y e) (comm (word_of Y u) (word_of Y v))
  pub values : (f g : List State) (s : State) (w : List ℤ) → AreImages Y push f g → IsState Y Y.base.rank s → HasLetters (length f) w
      → Joined (flat Y) (word_of Y (evaluate_from Y push f g s w)) (word_of Y s ++ sub w (map (word_of Y) f))
