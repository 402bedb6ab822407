-- Values of words in an answer by the plain rule, with a letter for each of some elements, and maps of one answer into another that
-- are found by the words that the generators spell. An element is a list of exponents.
-- From: homomorphisms of groups that are presented by consistent power-commutator presentations.
use Rattle.std.specs.Prelude.{◌≡◌, ◌<◌, ◌-◌, ℕ, zero, suc, ℤ, List, [], get_or, length, map}
use Rattle.pq_base.specs.SignedWord.{copies, comm}
use Rattle.pq_base.specs.Presentation.{Presentation, letter, power_word, commutator_word}
use Rattle.pq_base.specs.Answer.{Answer, Definition, definition_at, image_words}
use Rattle.pq_base.specs.Answer.Definition.{image, commutator, power}
use Rattle.pc_presentation.specs.Rowed.{without_rows}
use Rattle.pc_presentation.specs.Collection.{State, IsState, identity, plain_push}
use Rattle.pc_presentation.specs.Arithmetic.{product_by, evaluate_from, AreImages}

-- an element as a state without a row
abbrev pub bare_state : List ℕ → State
bare_state e = record { exponents = e; row = [] }

-- the identity of an answer's group
abbrev pub identity_of : Answer → State
identity_of A = identity (without_rows A.presentation) A.presentation.rank

-- the product by the plain rule
abbrev pub plain_product : Answer → State → State → State
plain_product A u v = product_by (without_rows A.presentation) (plain_push (without_rows A.presentation)) u v

-- the value of a word under elements f: a letter k multiplies by f_k, and a letter -k by its inverse
pub record IsValue (A : Answer) (f : List State) (w : List ℤ) (v : State) : Type 0 where
  pub inverses : List State
  pub images : AreImages (without_rows A.presentation) (plain_push (without_rows A.presentation)) f inverses
  pub value : evaluate_from (without_rows A.presentation) (plain_push (without_rows A.presentation)) f inverses (identity_of A) w ≡ v

-- both words have one value
pub record HaveOneValue (A : Answer) (f : List State) (u w : List ℤ) : Type 0 where
  pub value : State
  pub left : IsValue A f u value
  pub right : IsValue A f w value

-- the commutator of u and v: the element whose product behind v u is u v
pub record IsCommutator (A : Answer) (u v e : State) : Type 0 where
  pub state : IsState (without_rows A.presentation) A.presentation.rank e
  pub product : plain_product A (plain_product A v u) e ≡ plain_product A u v

-- the product of n copies of u
abbrev pub plain_power : Answer → State → ℕ → State
plain_power A u zero = identity_of A
plain_power A u (suc n) = plain_product A (plain_power A u n) u

-- element k of a list, counted from 1
abbrev pub element_at : Answer → List State → ℕ → State
element_at A g k = get_or g (k - 1) (identity_of A)

-- the value of a definition under elements f for the given generators, where g are those of the generators before
abbrev pub IsDefinedValue : Answer → List State → List State → Definition → State → Type 0
IsDefinedValue A f g (image i) v = element_at A f i ≡ v
IsDefinedValue A f g (commutator j i) v = IsCommutator A (element_at A g j) (element_at A g i) v
IsDefinedValue A f g (power j) v = plain_power A (element_at A g j) A.presentation.prime ≡ v

-- g are the values in A of the definitions of the generators of B, under elements f of A
pub record AreDefinedValues (B A : Answer) (f g : List State) : Type 0 where
  pub count : length g ≡ B.presentation.rank
  pub values : (k : ℕ) → k < B.presentation.rank → IsDefinedValue A f g (definition_at B k) (get_or g k (identity_of A))

-- both sides of each relation of P have equal values in A under g
pub record AreSatisfied (P : Presentation) (A : Answer) (g : List State) : Type 0 where
  pub powers : (i : ℕ) → i < P.rank → HaveOneValue A g (copies (letter i) P.prime) (power_word P i)
  pub commutators : (j i : ℕ) → j < P.rank → i < j → HaveOneValue A g (comm (letter j) (letter i)) (commutator_word P j i)

-- elements f of A, one for each given generator, make a map of B into A: with the values of its definitions the relations of B
-- are satisfied, and each image of B has the value of its given generator
pub record MakeMap (B A : Answer) (f : List State) : Type 0 where
  pub elements : List State
  pub defined : AreDefinedValues B A f elements
  pub satisfied : AreSatisfied B.presentation A elements
  pub images : (i : ℕ) → i < length B.names → IsValue A elements (get_or (image_words B) i []) (get_or f i (identity_of A))

-- the images of an answer as elements
abbrev pub images_of : Answer → List State
images_of A = map bare_state A.images

-- f are the values of words under the images of an answer
pub record AreValues (A : Answer) (words : List (List ℤ)) (f : List State) : Type 0 where
  pub count : length f ≡ length words
  pub values : (i : ℕ) → i < length words → IsValue A (images_of A) (get_or words i []) (get_or f i (identity_of A))

-- the images of an answer carry a word to the identity
abbrev pub IsCarriedToIdentity : Answer → List ℤ → Type 0
IsCarriedToIdentity A w = IsValue A (images_of A) w (identity_of A)

-- an endomorphism of the given generators makes a map of an answer into itself
pub record InducesPlainly (A : Answer) (endo : List (List ℤ)) : Type 0 where
  pub values : List State
  pub under : AreValues A endo values
  pub made : MakeMap A A values
