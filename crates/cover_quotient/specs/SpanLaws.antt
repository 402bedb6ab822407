-- What is proved of rows modulo a span. Each statement is the contract of a function of `laws_of_spans`.
-- From: the p-covering group of a p-group and its quotients, as in Newman and O'Brien's method: the rows that are trivial
-- are the span of the overlap rows.
use Rattle.std.specs.Prelude.{◌≡◌, ◌↔◌, ℕ, ℤ, List, [], ◌++◌, length, map}
use Rattle.std.specs.List.{All}
use Rattle.pq_base.specs.SignedWord.{sub}
use Rattle.pq_base.specs.Presentation.{IsNormal, letter, word_from}
use Rattle.pq_base.specs.Joined.{Joined, IsConsistent}
use Rattle.pq_base.specs.Prime.{IsOffered}
use Rattle.fp_echelon.specs.Span.{AreRows, InSpan}
use Rattle.fp_echelon.specs.Reduced.{BasisRow, rows_of, IsReduced}
use Rattle.pc_presentation.specs.Rowed.{RowedPresentation, IsRowed, flat}
use Rattle.pc_presentation.specs.Collection.{State}
use Rattle.pc_presentation.specs.NormalTable.{list_from}
use Rattle.pc_presentation.specs.Arithmetic.{IsMeaning}
use Rattle.cover_quotient.specs.Carried.{carried, carried_presentation}
use Rattle.cover_quotient.specs.Kept.{kept_columns, kept_rows}
use Rattle.cover_quotient.specs.OverlapRows.{SpanOverlaps, AreOverlapRows}

-- each of n generators itself, and for each tail the word of its row
abbrev pub carried_letters : ℕ → List (List ℕ) → List (List ℤ)
carried_letters n rows = list_from letter 0 n ++ map (word_from n) rows

-- words with the tails replaced by the words of their rows
pub record WordsAreMapped (Z : RowedPresentation) (s : ℕ) (rows : List (List ℕ)) : Type 0 where
  -- joined words stay joined
  pub joined : (u v : List ℤ) → Joined (flat Z) u v
      → Joined (flat (carried_presentation s rows Z)) (sub u (carried_letters Z.base.rank rows)) (sub v (carried_letters Z.base.rank rows))
  -- the word of a row is joined to the word of the carried row
  pub row_words : (x : List ℕ) → IsNormal Z.base.prime Z.width x
      → Joined (flat (carried_presentation s rows Z)) (sub (word_from Z.base.rank x) (carried_letters Z.base.rank rows))
      (word_from Z.base.rank (carried Z.base.prime s rows x))

abbrev pub MappedWords : Type 0
MappedWords = (Z : RowedPresentation) (s : ℕ) (rows : List (List ℕ)) → IsRowed Z → IsOffered Z.base.prime
    → AreRows Z.base.prime s rows → length rows ≡ Z.width → WordsAreMapped Z s rows

-- over a consistent base, modulo a span that holds the overlap rows, the flat reading is consistent
abbrev pub QuotientsByOverlapRowsAreConsistent : Type 0
QuotientsByOverlapRowsAreConsistent =
    (Z : RowedPresentation) (push : State → ℕ → State) (bs : List BasisRow) → IsRowed Z → IsOffered Z.base.prime
    → IsMeaning Z push → IsConsistent Z.base → IsReduced Z.base.prime Z.width bs → SpanOverlaps Z push (rows_of bs)
    → IsConsistent (flat (carried_presentation (length (kept_columns Z.width bs)) (kept_rows Z.base.prime Z.width bs) Z))

-- over a consistent base, a row whose word is joined to the empty word is in each span that holds the overlap rows
abbrev pub TrivialRowsAreInTheSpan : Type 0
TrivialRowsAreInTheSpan = (Z : RowedPresentation) (push : State → ℕ → State) (rows : List (List ℕ)) → IsRowed Z → IsOffered Z.base.prime
    → IsMeaning Z push → IsConsistent Z.base → AreRows Z.base.prime Z.width rows → SpanOverlaps Z push rows
    → (x : List ℕ) → IsNormal Z.base.prime Z.width x → Joined (flat Z) (word_from Z.base.rank x) [] → InSpan Z.base.prime Z.width rows x

-- combinations of rows whose words are joined to the empty word are such rows, in every presentation with rows
abbrev pub CombinationsOfTrivialRowsAreTrivial : Type 0
CombinationsOfTrivialRowsAreTrivial = (Z : RowedPresentation) (rows : List (List ℕ)) → IsRowed Z → IsOffered Z.base.prime
    → AreRows Z.base.prime Z.width rows → All (λ (r : List ℕ). Joined (flat Z) (word_from Z.base.rank r) []) rows
    → (x : List ℕ) → InSpan Z.base.prime Z.width rows x → Joined (flat Z) (word_from Z.base.rank x) []

-- so over a consistent base a row is trivial exactly where it is in the span of the overlap rows
abbrev pub TrivialRowsAreTheSpan : Type 0
TrivialRowsAreTheSpan = (Z : RowedPresentation) (push : State → ℕ → State) (rows : List (List ℕ)) → IsRowed Z → IsOffered Z.base.prime
    → IsMeaning Z push → IsConsistent Z.base → AreOverlapRows Z push rows
    → (x : List ℕ) → IsNormal Z.base.prime Z.width x → Joined (flat Z) (word_from Z.base.rank x) [] ↔ InSpan Z.base.prime Z.width rows x
