-- What is proved of collection. Each statement is the contract of a function of `laws`.
-- From: the theory of polycyclic presentations; that agreeing overlaps make a presentation consistent is due to
-- M. R. Vaughan-Lee, An aspect of the nilpotent quotient algorithm, 1984.
use Rattle.std.specs.Prelude.{◌≡◌, ◌↔◌, ◌<◌, ◌+◌, ◌%◌, ℕ, ℤ, List, ◌++◌, get_or}
use Rattle.pq_base.specs.SignedWord.{HasLetters}
use Rattle.pq_base.specs.Table.{AllBelow, HasTableClass}
use Rattle.pq_base.specs.Presentation.{Presentation, IsPresentation, IsNormal, letter, word_from}
use Rattle.pq_base.specs.Joined.{Joined, Reaches, IsConsistent}
use Rattle.pq_base.specs.Series.{HasClass}
use Rattle.pc_presentation.specs.Rowed.{RowedPresentation, IsRowed, power_row, commutator_row, row_sum, without_rows, flat}
use Rattle.pc_presentation.specs.Collection.{Configuration, State, IsState, identity, configuration_of, signed_word, DirectedRun, add_row}
use Rattle.pc_presentation.specs.Collection.{push_configuration, plain_push}
use Rattle.pc_presentation.specs.Arithmetic.{IsMeaning, HasArithmetic}
use Rattle.pc_presentation.specs.NormalTable.{normal_table, NormalWordsAreATable}
use Rattle.pc_presentation.specs.Overlaps.{Overlap, IsOverlap, left_way, right_way, AgreesPlainly, IsPushed, Agrees}

-- a push of the plain rule is a directed run to a state
abbrev pub PlainPushesAreRuns : Type 0
PlainPushesAreRuns = (Y : RowedPresentation) → IsRowed Y → (s : State) (i : ℕ) → IsState Y Y.base.rank s → i < Y.base.rank
    → IsPushed Y s i (plain_push Y s i)

-- a row that is added before a push is added behind it
abbrev pub RowsRideAlong : Type 0
RowsRideAlong = (Y : RowedPresentation) (t : List ℕ) (s : State) (i : ℕ)
    → plain_push Y (add_row Y.base.prime t s) i ≡ add_row Y.base.prime t (plain_push Y s i)

-- a run that pushes a generator leaves the exponents before it, and raises its own modulo the prime
pub record ExponentsAfterPush (Y : RowedPresentation) (s : State) (i : ℕ) (t : State) : Type 0 where
  pub earlier : (j : ℕ) → j < i → get_or t.exponents j 0 ≡ get_or s.exponents j 0
  pub own : get_or t.exponents i 0 ≡ (get_or s.exponents i 0 + 1) % Y.base.prime

abbrev pub EarlierExponentsAreFinal : Type 0
EarlierExponentsAreFinal = (Y : RowedPresentation) → IsRowed Y → (s t : State) (i : ℕ) → IsState Y Y.base.rank s → i < Y.base.rank
    → IsPushed Y s i t → ExponentsAfterPush Y s i t

-- the ends of a directed run are joined in the flat reading
abbrev pub DirectedRunsAreJoined : Type 0
DirectedRunsAreJoined = (Y : RowedPresentation) → IsRowed Y → (c d : Configuration) → AllBelow Y.base.rank c.word
    → IsNormal Y.base.prime Y.width c.row
    → DirectedRun Y c d → Joined (flat Y) (signed_word Y.base.rank c) (signed_word Y.base.rank d)

-- so a push of the plain rule is joined to the word with the letter behind it
abbrev pub PlainPushesAreJoined : Type 0
PlainPushesAreJoined = (Y : RowedPresentation) → IsRowed Y → (s : State) (i : ℕ) → IsState Y Y.base.rank s → i < Y.base.rank
    → Joined (flat Y) (signed_word Y.base.rank (configuration_of s) ++ letter i)
    (signed_word Y.base.rank (configuration_of (plain_push Y s i)))

-- each signed word over the generators is joined to a normal word, in every presentation
abbrev pub WordsReachNormalWords : Type 0
WordsReachNormalWords = (P : Presentation) → IsPresentation P → (w : List ℤ) → HasLetters P.rank w → (e : List ℕ) × Reaches P w e

-- where each overlap agrees by some chains of pushes, the flat reading is consistent
abbrev pub AgreeingOverlapsMakeConsistent : Type 0
AgreeingOverlapsMakeConsistent = (Y : RowedPresentation) → IsRowed Y → ((o : Overlap) → IsOverlap Y.base.rank o → Agrees Y o)
    → IsConsistent (flat Y)

-- and a presentation without rows is
abbrev pub AgreeingOverlapsMakeConsistentWithoutRows : Type 0
AgreeingOverlapsMakeConsistentWithoutRows = (P : Presentation) → IsPresentation P
    → ((o : Overlap) → IsOverlap P.rank o → Agrees (without_rows P) o) → IsConsistent P

-- an overlap that agrees under the plain rule agrees by some chains
abbrev pub PlainAgreementIsAgreement : Type 0
PlainAgreementIsAgreement = (Y : RowedPresentation) → IsRowed Y → (o : Overlap) → IsOverlap Y.base.rank o → AgreesPlainly Y o → Agrees Y o

-- the normal words of a consistent presentation form a group table, in which words are joined exactly where their values
-- are equal
abbrev pub ConsistentPresentationsHaveTables : Type 0
ConsistentPresentationsHaveTables = (P : Presentation) → IsPresentation P → IsConsistent P → NormalWordsAreATable P

-- the class of a consistent presentation is that of its table
abbrev pub TablesHaveTheClass : Type 0
TablesHaveTheClass =
    (P : Presentation) → IsPresentation P → IsConsistent P → (k : ℕ) → HasClass P k ↔ HasTableClass (normal_table P) P.prime k

-- the plain rule is the meaning of a collector
abbrev pub PlainRuleIsAMeaning : Type 0
PlainRuleIsAMeaning = (Y : RowedPresentation) → IsRowed Y → IsMeaning Y (plain_push Y)

-- the arithmetic of each collector, also in presentations that are not consistent
abbrev pub CollectorsHaveArithmetic : Type 0
CollectorsHaveArithmetic = (Y : RowedPresentation) → IsRowed Y → (push : State → ℕ → State) → IsMeaning Y push → HasArithmetic Y push

-- in a consistent flat reading all runs that push a generator on a state end alike: each collector is the plain rule
abbrev pub ConsistentPushesAreUnique : Type 0
ConsistentPushesAreUnique = (Y : RowedPresentation) → IsRowed Y → IsConsistent (flat Y)
    → (s t u : State) (i : ℕ) → IsState Y Y.base.rank s → i < Y.base.rank → IsPushed Y s i t → IsPushed Y s i u → t ≡ u

-- over a consistent base any two runs that push a generator on a state reach the same exponents, and rows whose words are
-- joined
pub record SameUpToRow (Y : RowedPresentation) (t u : State) : Type 0 where
  pub exponents : t.exponents ≡ u.exponents
  pub rows : Joined (flat Y) (word_from Y.base.rank t.row) (word_from Y.base.rank u.row)

abbrev pub PushesOverConsistentBase : Type 0
PushesOverConsistentBase = (Y : RowedPresentation) → IsRowed Y → IsConsistent Y.base
    → (s t u : State) (i : ℕ) → IsState Y Y.base.rank s → i < Y.base.rank → IsPushed Y s i t → IsPushed Y s i u → SameUpToRow Y t u

-- in a consistent flat reading each overlap agrees, over each collector
abbrev pub ConsistentOverlapsAgree : Type 0
ConsistentOverlapsAgree = (Y : RowedPresentation) → IsRowed Y → IsConsistent (flat Y)
    → (push : State → ℕ → State) → IsMeaning Y push → (o : Overlap) → IsOverlap Y.base.rank o
    → push_configuration Y push (identity Y Y.base.rank) (left_way Y o) ≡ push_configuration Y push (identity Y Y.base.rank) (right_way Y o)

-- over a consistent base both ways of each overlap reach the same exponents, and rows whose words are joined
abbrev pub OverlapsOverConsistentBase : Type 0
OverlapsOverConsistentBase = (Y : RowedPresentation) → IsRowed Y → IsConsistent Y.base
    → (push : State → ℕ → State) → IsMeaning Y push → (o : Overlap) → IsOverlap Y.base.rank o
    → SameUpToRow Y (push_configuration Y push (identity Y Y.base.rank) (left_way Y o))
    (push_configuration Y push (identity Y Y.base.rank) (right_way Y o))

-- a map of rows that keeps sums and takes the rows of the relations of Y to those of Z: a linear map, or one that leaves
-- out columns
pub record RowsAreCarried (Y : RowedPresentation) (f : List ℕ → List ℕ) (Z : RowedPresentation) : Type 0 where
  pub sums : (x y : List ℕ) → f (row_sum Y.base.prime x y) ≡ row_sum Y.base.prime (f x) (f y)
  pub powers : (i : ℕ) → i < Y.base.rank → power_row Z i ≡ f (power_row Y i)
  pub commutators : (j i : ℕ) → j < Y.base.rank → i < j → commutator_row Z j i ≡ f (commutator_row Y j i)

-- such a map that takes what stands at places out of range likewise
pub record AllRowsAreCarried (Y : RowedPresentation) (f : List ℕ → List ℕ) (Z : RowedPresentation) : Type 0 where
  pub carried : RowsAreCarried Y f Z
  pub powers : (i : ℕ) → power_row Z i ≡ f (power_row Y i)
  pub commutators : (j i : ℕ) → commutator_row Z j i ≡ f (commutator_row Y j i)

abbrev pub with_rows : RowedPresentation → ℕ → List (List ℕ) → List (List (List ℕ)) → RowedPresentation
with_rows Y q a b = record { base = Y.base; width = q; power_rows = a; commutator_rows = b }

-- pushes are carried for every list of exponents and every number, in range or not
abbrev pub RowMapsCarryPushes : Type 0
RowMapsCarryPushes = (Y : RowedPresentation) (f : List ℕ → List ℕ) (q : ℕ) (a : List (List ℕ)) (b : List (List (List ℕ)))
    → AllRowsAreCarried Y f (with_rows Y q a b) → (s : State) (i : ℕ)
    → plain_push (with_rows Y q a b) (record { exponents = s.exponents; row = f s.row }) i
    ≡ record { exponents = (plain_push Y s i).exponents; row = f (plain_push Y s i).row }

-- runs are carried
abbrev pub RowMapsCarryRuns : Type 0
RowMapsCarryRuns = (Y : RowedPresentation) (f : List ℕ → List ℕ) (q : ℕ) (a : List (List ℕ)) (b : List (List (List ℕ)))
    → RowsAreCarried Y f (with_rows Y q a b) → (c d : Configuration) → DirectedRun Y c d
    → DirectedRun (with_rows Y q a b) (record { word = c.word; row = f c.row }) (record { word = d.word; row = f d.row })
