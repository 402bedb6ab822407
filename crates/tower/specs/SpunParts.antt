-- Iterated relators along endomorphisms, the presentations by those of them that were recorded, and what endomorphisms and iterated
-- relators come to in a cover.
-- From: the relators and endomorphisms of L-presentations in L. Bartholdi, B. Eick and R. Hartung, A nilpotent quotient algorithm
-- for certain infinitely presented groups and its applications, 2008.
use Rattle.std.specs.Prelude.{◌≡◌, ◌<◌, ◌≤◌, ℕ, suc, ℤ, ⊤, List, [], length, map, get_or}
use Rattle.std.specs.List.{All}
use Rattle.pq_base.specs.LPresentation.{LPresentation, Obeys, part}
use Rattle.pq_base.specs.LPresentation.Part.{iterated_part}
use Rattle.pq_base.specs.Table.{Table, IsGroup, HasTableClass}
use Rattle.pq_base.specs.Answer.{Answer}
use Rattle.fp_rows.specs.Row.{PrimeRow}
use Rattle.fp_rows.specs.Rows.{IsRow}
use Rattle.fp_echelon.specs.Matrix.{PrimeMatrix, entries_of}
use Rattle.p_cover.specs.Covers.{CoverOf}
use Rattle.cover_quotient.specs.Stages.{IsStage}
use Rattle.endo_lift.specs.Lifts.{HasRow, CarriesRows, IsMatrixOver}
use Rattle.relator_spin.specs.declared.spun.Spun.{Spun}
use Rattle.relator_spin.specs.Closure.{matrix_at}
use Rattle.class_step.specs.declared.step.Step.{Step}
use Rattle.class_step.specs.declared.step.Step.TheVariants.{Next, Same, TooLarge}
use Rattle.tower.specs.declared.relator.Relator.{Relator}
use Rattle.tower.specs.declared.relator.Relator.TheVariants.{Iterated}
use Rattle.tower.specs.NamedParts.{IsNamed, named_part}
use Rattle.tower.specs.Answers.{IsGrown}

-- the name of a new row of a closure as a relator
abbrev pub spun_relator : Spun → Relator
spun_relator s = Iterated s.row s.along

abbrev pub spun_relators : List Spun → List Relator
spun_relators names = map spun_relator names

-- iterated relators along endomorphisms, with the numbers of the presentation
abbrev pub AreIterated : LPresentation → List Relator → Type 0
AreIterated L relators = All (IsNamed (part L iterated_part)) relators

-- the recorded relators say as much as all iterated ones up to class c: elements of a group table of class at most c at which the
-- recorded ones have value 0 give it to every iterated one
abbrev pub AreEnough : LPresentation → List Relator → ℕ → ℕ → Type 0
AreEnough L recorded p c = (T : Table) (f : List ℕ) → IsGroup T → HasTableClass T p c → Obeys T f (named_part L recorded)
    → Obeys T f (part L iterated_part)

-- a tower of class c over all iterated relators, which is a stage of the recorded ones alone
pub record IsSpunGrown (L : LPresentation) (recorded : List Relator) (p c : ℕ) (A : Answer) : Type 0 where
  pub iterated : AreIterated L recorded
  pub grown : IsGrown (part L iterated_part) p c A
  pub stage : IsStage (named_part L recorded) p c A

-- what one class makes of it with the relators that are recorded then: the next one, or the same answer as the stage of the recorded
-- relators of every later class; of a rank above the greatest nothing is asked
abbrev pub IsSpunStep : LPresentation → List Relator → ℕ → ℕ → Answer → Step → Type 0
IsSpunStep L recorded p c A (Next N) = IsSpunGrown L recorded p (suc c) N
IsSpunStep L recorded p c A Same = (d : ℕ) → c ≤ d → IsStage (named_part L recorded) p d A
IsSpunStep L recorded p c A (TooLarge rank) = ⊤

-- a matrix over the tails of the cover for each endomorphism, which carries the rows of words to the rows of their images
pub record AreLifts (C : CoverOf) (endos : List (List (List ℤ))) (ms : List PrimeMatrix) : Type 0 where
  pub count : length ms ≡ length endos
  pub matrices : All (IsMatrixOver C) ms
  pub carry : (e : ℕ) → e < length ms → CarriesRows C (get_or endos e []) (matrix_at ms (suc e))

-- a row over the tails of a cover
pub record IsRowOver (C : CoverOf) (x : PrimeRow) : Type 0 where
  pub prime : x.prime ≡ C.answer.presentation.prime
  pub row : IsRow C.answer.presentation.prime (length C.sources) x.entries

-- a row over the tails of the cover for each iterated relator, which is the row of its word
pub record AreGivenRows (L : LPresentation) (C : CoverOf) (xs : List PrimeRow) : Type 0 where
  pub count : length xs ≡ length L.iterated
  pub over : All (IsRowOver C) xs
  pub rows : (i : ℕ) → i < length L.iterated → HasRow C (get_or L.iterated i []) (get_or (entries_of xs) i [])
