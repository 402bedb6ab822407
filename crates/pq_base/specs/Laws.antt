-- What is proved of the definitions alone. Each statement is the contract of a function of `laws`.
-- From: the elementary theory of groups given by generators and relators.
use Rattle.std.specs.Prelude.{◌≡◌, ◌↔◌, ◌<◌, ◌≤◌, ◌+◌, ℕ, suc, ℤ, neg_ℤ, List, [], ◌∷◌, ◌++◌}
use Rattle.pq_base.specs.SignedWord.{inv, copies, comm, conj, sub, HasLetters}
use Rattle.pq_base.specs.LPresentation.{LPresentation, AreWords}
use Rattle.pq_base.specs.Relators.{HasSameRelators}
use Rattle.pq_base.specs.Table.{Table, IsGroup, AllBelow, InLevel, HasTableClass, value}
use Rattle.pq_base.specs.Presentation.{Presentation, IsPresentation, IsRelatorOf}
use Rattle.pq_base.specs.Joined.{IsTrivial, Move, Joined}
use Rattle.pq_base.specs.Series.{InSeries, HasClass}
use Rattle.pq_base.specs.Answer.{Answer, IsAnswer, class_of}
use Rattle.pq_base.specs.Canonical.{up_to_class}
use Rattle.pq_base.specs.Largest.{IsLargest, HasValue, HasOrder}

-- joined words are an equivalence that concatenation and inverses keep, in which relators and cancelling pairs are empty
pub record JoinedIsCongruence (P : Presentation) : Type 0 where
  pub reflexive : (u : List ℤ) → Joined P u u
  pub symmetric : (u v : List ℤ) → Joined P u v → Joined P v u
  pub transitive : (u v w : List ℤ) → Joined P u v → Joined P v w → Joined P u w
  pub products : (u v x y : List ℤ) → Joined P u v → Joined P x y → Joined P (u ++ x) (v ++ y)
  pub inverses : (u v : List ℤ) → Joined P u v → Joined P (inv u) (inv v)
  pub relators : (r : List ℤ) → IsRelatorOf P r → Joined P r []
  pub pairs : (k : ℤ) → Joined P (k ∷ neg_ℤ k ∷ []) []

abbrev pub JoinedWordsAreACongruence : Type 0
JoinedWordsAreACongruence = (P : Presentation) → JoinedIsCongruence P

-- images that carry the relators of P to words joined to the empty word in Q carry joined words to joined words
abbrev pub SubstitutionsCarryJoinedWords : Type 0
SubstitutionsCarryJoinedWords = (P Q : Presentation) (f : List (List ℤ)) → ((r : List ℤ) → IsRelatorOf P r → Joined Q (sub r f) [])
    → (u v : List ℤ) → Joined P u v → Joined Q (sub u f) (sub v f)

-- elements of a group table at which each relator has value 0 give joined words equal values
abbrev pub JoinedWordsHaveEqualValues : Type 0
JoinedWordsHaveEqualValues = (P : Presentation) (T : Table) (f : List ℕ) → IsGroup T → AllBelow T.size f
    → ((r : List ℤ) → IsRelatorOf P r → value T f r ≡ 0) → (u v : List ℤ) → Joined P u v → value T f u ≡ value T f v

-- a chain each word of which is over n generators
pub data ChainWithin (n : ℕ) (E : List ℤ → Type 0) : List ℤ → List ℤ → Type 0 where
  stop : {u : List ℤ} → HasLetters n u → ChainWithin n E u u
  move : {u v w : List ℤ} → HasLetters n u → Move E u v → ChainWithin n E v w → ChainWithin n E u w

-- words over the generators of a presentation are joined exactly where a chain of such words leads from one to the other
abbrev pub JoinedWordsNeedNoOtherLetters : Type 0
JoinedWordsNeedNoOtherLetters = (P : Presentation) → IsPresentation P → (u v : List ℤ) → HasLetters P.rank u → HasLetters P.rank v
    → Joined P u v ↔ ChainWithin P.rank (IsTrivial P) u v

-- level k holds the empty word, and the products, inverses and conjugates of its words; the next level holds their
-- commutators and powers and every word over the generators that is joined to one of its own, and lies in level k
pub record LevelIsNormal (P : Presentation) (k : ℕ) : Type 0 where
  pub empty : InSeries P k []
  pub products : (u v : List ℤ) → InSeries P k u → InSeries P k v → InSeries P k (u ++ v)
  pub inverses : (u : List ℤ) → InSeries P k u → InSeries P k (inv u)
  pub conjugates : (u v : List ℤ) → InSeries P k u → HasLetters P.rank v → InSeries P k (conj u v)
  pub commutators : (u v : List ℤ) → InSeries P k u → HasLetters P.rank v → InSeries P (suc k) (comm u v)
  pub powers : (u : List ℤ) → InSeries P k u → InSeries P (suc k) (copies u P.prime)
  pub falls : (u : List ℤ) → InSeries P (suc k) u → InSeries P k u
  pub joined : (u v : List ℤ) → Joined P u v → HasLetters P.rank v → InSeries P (suc k) u → InSeries P (suc k) v

abbrev pub LevelsAreNormal : Type 0
LevelsAreNormal = (P : Presentation) (k : ℕ) → LevelIsNormal P k

-- elements of a group table at which each relator has value 0 carry each level into the level of the same number
abbrev pub ValuesCarryTheSeries : Type 0
ValuesCarryTheSeries = (P : Presentation) (T : Table) (f : List ℕ) → IsGroup T → AllBelow T.size f
    → ((r : List ℤ) → IsRelatorOf P r → value T f r ≡ 0) → (k : ℕ) (w : List ℤ) → InSeries P k w → InLevel T P.prime k (value T f w)

-- a table whose elements are all such values has the class of the presentation
abbrev pub GeneratedTablesHaveTheClass : Type 0
GeneratedTablesHaveTheClass = (P : Presentation) (T : Table) (f : List ℕ) → IsGroup T → AllBelow T.size f
    → ((r : List ℤ) → IsRelatorOf P r → value T f r ≡ 0) → ((x : ℕ) → x < T.size → HasValue T f P.rank x)
    → (c : ℕ) → HasClass P c → HasTableClass T P.prime c

-- images that carry the relators of P to words joined to the empty word in Q carry the levels likewise
abbrev pub SubstitutionsCarryTheSeries : Type 0
SubstitutionsCarryTheSeries = (P Q : Presentation) (f : List (List ℤ)) → P.prime ≡ Q.prime → AreWords Q.rank f
    → ((r : List ℤ) → IsRelatorOf P r → Joined Q (sub r f) []) → (k : ℕ) (w : List ℤ) → InSeries P k w → InSeries Q k (sub w f)

-- class at most c is class at most any greater number
abbrev pub ClassesGrow : Type 0
ClassesGrow = (P : Presentation) (c d : ℕ) → c ≤ d → HasClass P c → HasClass P d

-- the commutator of words of level a and level b is in level a + b + 1
abbrev pub CommutatorsOfLevels : Type 0
CommutatorsOfLevels = (P : Presentation) → IsPresentation P → (a b : ℕ) (x y : List ℤ) → InSeries P a x → InSeries P b y
    → InSeries P (a + b + 1) (comm x y)

-- an answer cut to a class, and then to a smaller one
abbrev pub RestrictionsCompose : Type 0
RestrictionsCompose = (A : Answer) → IsAnswer A → (j k : ℕ) → j ≤ k → up_to_class (up_to_class A k) j ≡ up_to_class A j

-- an answer cut to its class or a greater one
abbrev pub RestrictionsAreWhole : Type 0
RestrictionsAreWhole = (A : Answer) → IsAnswer A → (k : ℕ) → class_of A ≤ k → up_to_class A k ≡ A

-- a presentation has at most one order in each class
abbrev pub OrdersAreUnique : Type 0
OrdersAreUnique = (L : LPresentation) (p k r s : ℕ) → 1 < p → HasOrder L p k r → HasOrder L p k s → r ≡ s

-- presentations with the same relators have the same largest quotients, and the same orders
pub record HaveSameQuotients (L M : LPresentation) : Type 0 where
  pub largest : (p c : ℕ) (A : Answer) → IsLargest L p c A ↔ IsLargest M p c A
  pub orders : (p k r : ℕ) → HasOrder L p k r ↔ HasOrder M p k r

abbrev pub SameRelatorsGiveSameQuotients : Type 0
SameRelatorsGiveSameQuotients = (L M : LPresentation) → HasSameRelators L M → HaveSameQuotients L M
