-- A row times the matrices of endomorphisms is the row of the word's image along them. So each spun row is the row of the relator that
-- it names, which is an iterated relator along endomorphisms.
use Rattle.std.proofs.Common.{ℕ, zero, suc, ◌-◌, ◌<◌, ◌≤◌, List, [], ◌∷◌, get_or, length, subst, arith}
use Rattle.std.specs.List.{All, AllZip}
use Rattle.std.proofs.lemmas.List.Elements.{All-nil, All-cons, All-head, All-tail}
use Rattle.pq_base.specs.LPresentation.{LPresentation, AreEndoNumbers, along, part}
use Rattle.pq_base.specs.LPresentation.Part.{iterated_part}
use Rattle.fp_rows.specs.Rows.{IsRow}
use Rattle.fp_rows.specs.Row.{PrimeRow}
use Rattle.fp_echelon.specs.Matrix.{PrimeMatrix, entries_of}
use Rattle.fp_echelon.proofs.SpanLaws.{IsRow-combine}
use Rattle.p_cover.specs.Covers.{CoverOf, IsCover}
use Rattle.endo_lift.specs.Lifts.{HasRow}
use Rattle.relator_spin.specs.declared.spun.Spun.{Spun}
use Rattle.relator_spin.specs.Closure.{AreOver, matrix_at, row_along, spun_row, spun_rows, AreNames}
use Rattle.tower.specs.NamedParts.{named_word, IsNamed}
use Rattle.tower.specs.SpunParts.{spun_relator, spun_relators, AreIterated, AreLifts, IsRowOver, AreGivenRows}
use Rattle.tower.proofs.ClosedRows.{matrix-rows}

pub rows-over : (C : CoverOf) (xs : List PrimeRow) → All (IsRowOver C) xs → AreOver C.answer.presentation.prime (length C.sources) xs
rows-over C [] all = tt
rows-over C (x ∷ xs) all =
    let at = All-head (IsRowOver C) x xs all in
    (at.prime, at.row.count, rows-over C xs (All-tail (IsRowOver C) x xs all))

given-row : (C : CoverOf) (xs : List PrimeRow) → All (IsRowOver C) xs → (i : ℕ) → i < length xs
    → IsRow C.answer.presentation.prime (length C.sources) (get_or (entries_of xs) i [])
given-row C [] all i l = absurd (omega arith)
given-row C (x ∷ xs) all zero l = (All-head (IsRowOver C) x xs all).row
given-row C (x ∷ xs) all (suc i) l = given-row C xs (All-tail (IsRowOver C) x xs all) i (omega arith)

module _ (L : LPresentation) (C : CoverOf) (cover : IsCover C) (ms : List PrimeMatrix) (lifts : AreLifts C L.endos ms) (xs : List PrimeRow)
    (given : AreGivenRows L C xs) where
  pub IsRow-row_along : (i : ℕ) → i < length L.iterated → (s : List ℕ) → AreEndoNumbers (length L.endos) s
      → IsRow C.answer.presentation.prime (length C.sources)
      (row_along C.answer.presentation.prime (length C.sources) ms s (get_or (entries_of xs) i []))
  IsRow-row_along i l [] numbers = let count = given.count in given-row C xs given.over i (omega arith)
  IsRow-row_along i l (zero ∷ s) numbers = absurd numbers
  IsRow-row_along i l (suc e ∷ s) numbers =
      let two : 2 ≤ C.answer.presentation.prime = cover.answer.presentation.prime in
      let few = numbers.0 in
      let count = lifts.count in
      IsRow-combine C.answer.presentation.prime (length C.sources)
      (row_along C.answer.presentation.prime (length C.sources) ms s (get_or (entries_of xs) i []))
      (matrix_at ms (suc e)) (omega arith) (matrix-rows C ms lifts.matrices e (omega arith))

  pub along-row : (i : ℕ) → i < length L.iterated → (s : List ℕ) → AreEndoNumbers (length L.endos) s
      → HasRow C (along L.endos s (get_or L.iterated i []))
      (row_along C.answer.presentation.prime (length C.sources) ms s (get_or (entries_of xs) i []))
  along-row i l [] numbers = given.rows i l
  along-row i l (zero ∷ s) numbers = absurd numbers
  along-row i l (suc e ∷ s) numbers =
      let few = numbers.0 in
      let count = lifts.count in
      lifts.carry e (omega arith) (along L.endos s (get_or L.iterated i []))
      (row_along C.answer.presentation.prime (length C.sources) ms s (get_or (entries_of xs) i []))
      (IsRow-row_along i l s numbers.1) (along-row i l s numbers.1)

  numbers-of : (s : List ℕ) → AreEndoNumbers (length ms) s → AreEndoNumbers (length L.endos) s
  numbers-of s numbers = subst (λ (n : ℕ). AreEndoNumbers n s) lifts.count numbers

  -- the row that a name says is that of the relator
  pub IsRow-spun_row : (s : Spun) → 1 ≤ s.row → s.row ≤ length xs → AreEndoNumbers (length ms) s.along
      → IsRow C.answer.presentation.prime (length C.sources) (spun_row C.answer.presentation.prime (length C.sources) xs ms s)
  IsRow-spun_row s first last numbers =
      let count = given.count in
      IsRow-row_along (s.row - 1) (omega arith) s.along (numbers-of s.along numbers)

  pub spun-row : (s : Spun) → 1 ≤ s.row → s.row ≤ length xs → AreEndoNumbers (length ms) s.along
      → HasRow C (named_word L (spun_relator s)) (spun_row C.answer.presentation.prime (length C.sources) xs ms s)
  spun-row s first last numbers =
      let count = given.count in
      along-row (s.row - 1) (omega arith) s.along (numbers-of s.along numbers)

  pub spun-rows : (names : List Spun) → AreNames (length xs) (length ms) names
      → AllZip (λ (s : Spun) (x : List ℕ). HasRow C (named_word L (spun_relator s)) x) names
      (spun_rows C.answer.presentation.prime (length C.sources) xs ms names)
  spun-rows [] named = tt
  spun-rows (s ∷ names) named = (spun-row s named.0 named.1 named.2, spun-rows names named.3)

  -- and the relators are iterated ones
  pub spun-iterated : (names : List Spun) → AreNames (length xs) (length ms) names → AreIterated L (spun_relators names)
  spun-iterated [] named = All-nil _
  spun-iterated (s ∷ names) named =
      let count = given.count in
      let last = named.1 in
      All-cons (IsNamed (part L iterated_part)) (spun_relator s) (spun_relators names)
      (named.0, omega arith, numbers-of s.along named.2) (spun-iterated names named.3)
