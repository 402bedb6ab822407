-- What is claimed of an answer: that it is the largest quotient of p-class at most c of an L-presented group.
-- From: the universal property of a group modulo a term of its lower exponent-p series.
use Rattle.std.specs.Prelude.{◌≡◌, ◌<◌, ◌≤◌, ◌^◌, ℕ, ℤ, List, [], get_or, length}
use Rattle.pq_base.specs.SignedWord.{sub, HasLetters}
use Rattle.pq_base.specs.LPresentation.{LPresentation, IsRelator, Obeys}
use Rattle.pq_base.specs.Table.{Table, IsGroup, HasTableClass, AllBelow, times, value}
use Rattle.pq_base.specs.Presentation.{IsRelatorOf, letter}
use Rattle.pq_base.specs.Joined.{Joined, IsConsistent}
use Rattle.pq_base.specs.Series.{HasClass}
use Rattle.pq_base.specs.Answer.{Answer, IsAnswer, class_of, image_words, spell}

-- each relator, under the images, is trivial in the answer
abbrev pub Kills : LPresentation → Answer → Type 0
Kills L A = (r : List ℤ) → IsRelator L r → Joined A.presentation (sub r (image_words A)) []

-- each generator of the answer is its spelling under the images
abbrev pub IsGenerated : Answer → Type 0
IsGenerated A = (k : ℕ) → k < A.presentation.rank → Joined A.presentation (letter k) (sub (spell A k) (image_words A))

-- elements of a table for the generators of the answer, at which its relators have value 0 and its images the values f
pub record Factors (T : Table) (f : List ℕ) (A : Answer) (g : List ℕ) : Type 0 where
  pub count : length g ≡ A.presentation.rank
  pub elements : AllBelow T.size g
  pub relators : (r : List ℤ) → IsRelatorOf A.presentation r → value T g r ≡ 0
  pub images : (i : ℕ) → i < length A.images → value T g (get_or (image_words A) i []) ≡ get_or f i 0

-- exactly one list of elements does so
pub record FactorsOnce (T : Table) (f : List ℕ) (A : Answer) : Type 0 where
  pub through : List ℕ
  pub factors : Factors T f A through
  pub only : (h : List ℕ) → Factors T f A h → h ≡ through

-- every map of the generators into a finite group of p-class at most c that obeys the relators factors exactly once
abbrev pub IsUniversal : LPresentation → ℕ → ℕ → Answer → Type 0
IsUniversal L p c A = (T : Table) (f : List ℕ) → IsGroup T → HasTableClass T p c → Obeys T f L → FactorsOnce T f A

pub record IsLargest (L : LPresentation) (p c : ℕ) (A : Answer) : Type 0 where
  pub answer : IsAnswer A
  pub prime : A.presentation.prime ≡ p
  pub names : A.names ≡ L.names
  pub class_limit : class_of A ≤ c
  pub consistent : IsConsistent A.presentation
  pub class : HasClass A.presentation c
  pub kills : Kills L A
  pub generated : IsGenerated A
  pub universal : IsUniversal L p c A

-- a map between tables, as the list of the images of 0, 1, .., that keeps products
pub record IsHomomorphism (T U : Table) (h : List ℕ) : Type 0 where
  pub count : length h ≡ T.size
  pub elements : AllBelow U.size h
  pub products : (a b : ℕ) → a < T.size → b < T.size → get_or h (times T a b) 0 ≡ times U (get_or h a 0) (get_or h b 0)

-- a homomorphism that carries the one list of elements to the other
pub record Carries (T : Table) (f : List ℕ) (U : Table) (g : List ℕ) : Type 0 where
  pub map : List ℕ
  pub homomorphism : IsHomomorphism T U map
  pub carries : (i : ℕ) → i < length f → get_or map (get_or f i 0) 0 ≡ get_or g i 0

-- a word over n generators of the given value
pub record HasValue (T : Table) (f : List ℕ) (n x : ℕ) : Type 0 where
  pub word : List ℤ
  pub letters : HasLetters n word
  pub is : value T f word ≡ x

-- the largest quotient of p-class at most k, as a table of p^r elements
pub record HasOrder (L : LPresentation) (p k r : ℕ) : Type 0 where
  pub table : Table
  pub images : List ℕ
  pub group : IsGroup table
  pub size : table.size ≡ p ^ r
  pub class : HasTableClass table p k
  pub obeys : Obeys table images L
  pub generated : (x : ℕ) → x < table.size → HasValue table images (length L.names) x
  pub universal : (U : Table) (g : List ℕ) → IsGroup U → HasTableClass U p k → Obeys U g L → Carries table images U g
