-- The words of the elements that make a map: what the generators of an answer are defined by, and what their relations and images say.
-- From: homomorphisms of groups that are presented by consistent power-commutator presentations.
use Rattle.std.specs.Prelude.{◌<◌, ◌≤◌, ◌+◌, ◌-◌, ℕ, ℤ, List, [], get_or, length, map}
use Rattle.pq_base.specs.SignedWord.{copies, comm, sub}
use Rattle.pq_base.specs.Joined.{Joined}
use Rattle.pq_base.specs.Presentation.{Presentation, letter, power_word, commutator_word}
use Rattle.pq_base.specs.Answer.{Answer, Definition, definition_at, image_words, word_at}
use Rattle.pq_base.specs.Answer.Definition.{image, commutator, power}
use Rattle.pc_presentation.specs.Rowed.{RowedPresentation, flat}
use Rattle.pc_presentation.specs.Arithmetic.{word_of}
use Rattle.pc_presentation.specs.Pcp.{TailedPresentation}
use Rattle.pc_presentation.specs.Tailed.{Element, rowed_presentation, IsElement}
use Rattle.pc_presentation.specs.ImageElements.{states_of}
use Rattle.pc_presentation.specs.Scratch.{Workspace, IsScratch}
use Rattle.pc_presentation.specs.declared.relation.Relation.{Relation}
use Rattle.pc_presentation.specs.declared.relation.Relation.TheVariants.{Power, Commutator}

-- the words of elements
abbrev pub words_of : TailedPresentation → List Element → List (List ℤ)
words_of T es = map (word_of (rowed_presentation T)) (states_of es)

-- an element whose word is joined to this one
pub record StandsFor (T : TailedPresentation) (w : List ℤ) (e : Element) : Type 0 where
  pub element : IsElement T e
  pub joined : Joined (flat (rowed_presentation T)) (word_of (rowed_presentation T) e.state) w

-- the word of a definition, by the words f for the given generators and g for the generators
abbrev pub definition_word : ℕ → List (List ℤ) → List (List ℤ) → Definition → List ℤ
definition_word p f g (image i) = word_at f i
definition_word p f g (commutator j i) = comm (word_at g j) (word_at g i)
definition_word p f g (power j) = copies (word_at g j) p

-- the numbers of a definition are those of m given generators and of n generators
abbrev pub RefersWithin : ℕ → ℕ → Definition → Type 0
RefersWithin m n (image i) = (1 ≤ i) × (i ≤ m)
RefersWithin m n (commutator j i) = (1 ≤ j) × (j ≤ n) × (1 ≤ i) × (i ≤ n)
RefersWithin m n (power j) = (1 ≤ j) × (j ≤ n)

-- of the words g the first n are joined to those of the definitions of an answer's generators
abbrev pub AreDefinedWords : RowedPresentation → Answer → List (List ℤ) → List (List ℤ) → ℕ → Type 0
AreDefinedWords Y B f g n = (k : ℕ) → k < n → Joined (flat Y) (get_or g k []) (definition_word Y.base.prime f g (definition_at B k))

-- the two sides of a relation of P
abbrev pub left_word : Presentation → Relation → List ℤ
left_word P (Power i) = copies (letter (i - 1)) P.prime
left_word P (Commutator j i) = comm (letter (j - 1)) (letter (i - 1))

abbrev pub right_word : Presentation → Relation → List ℤ
right_word P (Power i) = power_word P (i - 1)
right_word P (Commutator j i) = commutator_word P (j - 1) (i - 1)

-- the words g satisfy a relation of P
abbrev pub Satisfy : RowedPresentation → Presentation → List (List ℤ) → Relation → Type 0
Satisfy Y P g r = Joined (flat Y) (sub (left_word P r) g) (sub (right_word P r) g)

-- under the words g, image i of an answer, counted from 0, is joined to word i of f
abbrev pub CarriesImage : RowedPresentation → Answer → List (List ℤ) → List (List ℤ) → ℕ → Type 0
CarriesImage Y B f g i = Joined (flat Y) (sub (get_or (image_words B) i []) g) (get_or f i [])

-- what contracts see of a bench
pub record BenchOf : Type 0 where
  pub scratch : Workspace
  pub left : Element
  pub right : Element
  pub factor : Element
  pub next : Element

-- a bench that was made for a presentation
pub record IsBench (T : TailedPresentation) (b : BenchOf) : Type 0 where
  pub scratch : IsScratch T b.scratch
  pub left : IsElement T b.left
  pub right : IsElement T b.right
  pub factor : IsElement T b.factor
  pub next : IsElement T b.next

-- the words g satisfy the relations of an answer, and carry its images to the words f
pub record MakeMapOfWords (Y : RowedPresentation) (B : Answer) (f g : List (List ℤ)) : Type 0 where
  pub powers : (i : ℕ) → i < B.presentation.rank → Satisfy Y B.presentation g (Power (i + 1))
  pub commutators : (j i : ℕ) → j < B.presentation.rank → i < j → Satisfy Y B.presentation g (Commutator (j + 1) (i + 1))
  pub images : (i : ℕ) → i < length B.names → CarriesImage Y B f g i
