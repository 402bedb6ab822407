-- Relators by number, and the presentation whose relators are named ones.
-- From: the presentations by finitely many relators that lead to the quotients of an L-presentation.
use Rattle.std.specs.Prelude.{◌≡◌, ◌≤◌, ℕ, ℤ, List, [], ◌++◌, length, map}
use Rattle.std.specs.List.{All, Contains}
use Rattle.pq_base.specs.SignedWord.{sub}
use Rattle.pq_base.specs.LPresentation.{LPresentation, AreEndoNumbers}
use Rattle.pq_base.specs.Joined.{Joined}
use Rattle.pq_base.specs.Answer.{Answer, image_words}
use Rattle.pq_base.specs.Canonical.{numbers_from}
use Rattle.derivation_log.specs.declared.source.RowSource.{RowSource}
use Rattle.derivation_log.specs.declared.source.RowSource.TheVariants.{Test as TestSource, Fixed as FixedSource, Iterated as IteratedSource}
use Rattle.derivation_log.specs.RowSources.{source_word}
use Rattle.tower.specs.declared.relator.Relator.{Relator}
use Rattle.tower.specs.declared.relator.Relator.TheVariants.{Fixed, Iterated}

-- a relator as what a row comes from
abbrev pub recorded_source : Relator → RowSource
recorded_source (Fixed i) = FixedSource i
recorded_source (Iterated i s) = IteratedSource i s

-- the word of a relator
abbrev pub named_word : LPresentation → Relator → List ℤ
named_word L r = source_word L (recorded_source r)

-- a relator of the presentation: a fixed one, or an iterated one along a path of its endomorphisms
abbrev pub IsNamedSource : LPresentation → RowSource → Type 0
IsNamedSource L (TestSource o) = ⊥
IsNamedSource L (FixedSource i) = (1 ≤ i) × (i ≤ length L.fixed)
IsNamedSource L (IteratedSource i s) = (1 ≤ i) × (i ≤ length L.iterated) × AreEndoNumbers (length L.endos) s

abbrev pub IsNamed : LPresentation → Relator → Type 0
IsNamed L r = IsNamedSource L (recorded_source r)

-- the relator is carried along no endomorphism
abbrev pub IsUncarried : Relator → Type 0
IsUncarried (Fixed i) = Unit {0}
IsUncarried (Iterated i s) = s ≡ []

-- the list names each relator that is carried along no endomorphism, and nothing else
pub record NamesAll (L : LPresentation) (relators : List Relator) : Type 0 where
  pub only : All (IsNamed L) relators
  pub uncarried : All IsUncarried relators
  pub every : (r : Relator) → IsNamed L r → IsUncarried r → Contains relators r

-- an iterated relator along no endomorphism
abbrev pub iterated_at : ℕ → Relator
iterated_at i = Iterated i []

-- all of them: the fixed relators, then the iterated ones
abbrev pub all_named : LPresentation → List Relator
all_named L = map Fixed (numbers_from 1 (length L.fixed)) ++ map iterated_at (numbers_from 1 (length L.iterated))

-- the generators with the named relators alone
abbrev pub named_part : LPresentation → List Relator → LPresentation
named_part L relators = record { names = L.names; fixed = map (named_word L) relators; iterated = []; endos = [] }

-- the relator is trivial in an answer
abbrev pub DiesIn : LPresentation → Answer → RowSource → Type 0
DiesIn L A s = Joined A.presentation (sub (source_word L s) (image_words A)) []

abbrev pub Dies : LPresentation → Answer → Relator → Type 0
Dies L A r = DiesIn L A (recorded_source r)
