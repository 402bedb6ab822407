-- The lower exponent-p series of a presented group, by words.
-- From: the series of Newman and O'Brien's p-quotient method.
use Rattle.std.specs.Prelude.{ℕ, zero, suc, ℤ, List, [], ◌++◌}
use Rattle.pq_base.specs.SignedWord.{copies, comm, HasLetters}
use Rattle.pq_base.specs.Presentation.{Presentation}
use Rattle.pq_base.specs.Joined.{Joined}

-- the products of lists of commutators [u,v] and powers u^p, with u in S and v any word
pub data NextWord (P : Presentation) (S : List ℤ → Type 0) : List ℤ → Type 0 where
  no_word : NextWord P S []
  then_commutator : (u v w : List ℤ) → S u → HasLetters P.rank v → NextWord P S w → NextWord P S (comm u v ++ w)
  then_power : (u w : List ℤ) → S u → NextWord P S w → NextWord P S (copies u P.prime ++ w)

-- a word over the generators that is joined to such a product
pub record InNext (P : Presentation) (S : List ℤ → Type 0) (w : List ℤ) : Type 0 where
  pub letters : HasLetters P.rank w
  pub product : List ℤ
  pub next : NextWord P S product
  pub joined : Joined P w product

-- level k of the series
abbrev pub InSeries : Presentation → ℕ → List ℤ → Type 0
InSeries P zero w = HasLetters P.rank w
InSeries P (suc k) w = InNext P (InSeries P k) w

-- p-class at most c: each word of level c is trivial
abbrev pub HasClass : Presentation → ℕ → Type 0
HasClass P c = (w : List ℤ) → InSeries P c w → Joined P w []
