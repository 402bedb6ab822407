-- What is proved of quotients and refusals. Each statement is the contract of a function of `laws`.
-- From: a quotient depends on the relators alone, and its part of p-class at most c on the finite groups of that class that obey them.
use Rattle.std.specs.Prelude.{◌≡◌, ◌≤◌, ◌↔◌, ℕ, List, []}
use Rattle.std.specs.List.{All}
use Rattle.pq_base.specs.LPresentation.{LPresentation, Obeys}
use Rattle.pq_base.specs.Table.{Table, IsGroup, HasTableClass}
use Rattle.pq_base.specs.Relators.{HasSameRelators}
use Rattle.pq_base.specs.Answer.{Answer}
use Rattle.pq_base.specs.Largest.{IsLargest, HasOrder}
use Rattle.tower.specs.declared.relator.Relator.{Relator}
use Rattle.tower.specs.NamedParts.{IsNamed, NamesAll, all_named, named_part}
use Rattle.tower.specs.SpunParts.{AreEnough}
use Rattle.tower.specs.TwoRuns.{and_all_fixed}
use Rattle.tower.specs.Answers.{IsQuotient, IsTooLarge}

-- the same quotients, and the same refusals
pub record HaveSameAnswers (L M : LPresentation) : Type 0 where
  pub quotients : (p c : ℕ) (A : Answer) → IsQuotient L p c A ↔ IsQuotient M p c A
  pub refusals : (p c k r : ℕ) → IsTooLarge L p c k r ↔ IsTooLarge M p c k r

abbrev pub SameRelatorsGiveSameAnswers : Type 0
SameRelatorsGiveSameAnswers = (L M : LPresentation) → HasSameRelators L M → HaveSameAnswers L M

-- all numbers name all relators that are carried along no endomorphism
abbrev pub AllNumbersNameAll : Type 0
AllNumbersNameAll = (L : LPresentation) → NamesAll L (all_named L)

-- without endomorphisms these are all relators
abbrev pub NamedPartsHaveTheRelators : Type 0
NamedPartsHaveTheRelators = (L : LPresentation) (relators : List Relator) → L.endos ≡ [] → NamesAll L relators
    → HasSameRelators L (named_part L relators)

-- so the named part has the same quotients and refusals
abbrev pub NamedPartsHaveTheAnswers : Type 0
NamedPartsHaveTheAnswers = (L : LPresentation) (relators : List Relator) → L.endos ≡ [] → NamesAll L relators
    → HaveSameAnswers L (named_part L relators)

-- presentations on the same names which elements of a group table of class at most c obey alike
pub record AreObeyedAlike (L M : LPresentation) (p c : ℕ) : Type 0 where
  pub names : M.names ≡ L.names
  pub obeyed : (T : Table) (f : List ℕ) → IsGroup T → HasTableClass T p c → Obeys T f L ↔ Obeys T f M

-- up to class c the same largest quotients and orders, and so the same quotients and refusals to class c
pub record HaveSameAnswersTo (L M : LPresentation) (p c : ℕ) : Type 0 where
  pub largest : (k : ℕ) (A : Answer) → k ≤ c → IsLargest L p k A ↔ IsLargest M p k A
  pub orders : (k r : ℕ) → k ≤ c → HasOrder L p k r ↔ HasOrder M p k r
  pub quotients : (A : Answer) → IsQuotient L p c A ↔ IsQuotient M p c A
  pub refusals : (k r : ℕ) → IsTooLarge L p c k r ↔ IsTooLarge M p c k r

abbrev pub PresentationsObeyedAlikeHaveSameAnswers : Type 0
PresentationsObeyedAlikeHaveSameAnswers = (L M : LPresentation) (p c : ℕ) → AreObeyedAlike L M p c → HaveSameAnswersTo L M p c

-- where the recorded relators are enough up to class c, they and the fixed ones are obeyed as the whole presentation is
abbrev pub EnoughAndFixedAreObeyedAlike : Type 0
EnoughAndFixedAreObeyedAlike = (L : LPresentation) (recorded : List Relator) (p c : ℕ) → All (IsNamed L) recorded
    → AreEnough L recorded p c → AreObeyedAlike L (named_part L (and_all_fixed L recorded)) p c
