-- Answers that are ready for the next class, the rows of their qualifying relations, and what these rows span. Each
-- statement is the contract of a function of `laws_of_levels`.
-- From: the relations that have to be looked at in Newman and O'Brien's method.
use Rattle.std.specs.Prelude.{◌≡◌, ◌<◌, ◌≤◌, ◌-◌, ℕ, ℤ, List, [], ◌++◌, map, filter}
use Rattle.pq_base.specs.Presentation.{power_word, commutator_word}
use Rattle.pq_base.specs.Joined.{Joined, IsConsistent}
use Rattle.pq_base.specs.Series.{InSeries, HasClass}
use Rattle.pq_base.specs.Answer.{Answer, Definition as Source, weight_at}
use Rattle.pq_base.specs.Canonical.{is_qualifying, all_commutators, all_powers, up_to_class}
use Rattle.fp_echelon.specs.Span.{InSpan}
use Rattle.pc_presentation.specs.Rowed.{flat}
use Rattle.p_cover.specs.RowedAnswer.{RowedAnswer, IsRowedAnswer, rowed, row_at, tails_word}

-- no generator has weight above c, the relations of those of weight c have empty words, and the generators of less weight
-- have class c - 1
pub record IsReady (A : Answer) (c : ℕ) : Type 0 where
  pub consistent : IsConsistent A.presentation
  pub weights : (k : ℕ) → k < A.presentation.rank → weight_at A k ≤ c
  pub powers : (l : ℕ) → l < A.presentation.rank → weight_at A l ≡ c → power_word A.presentation l ≡ []
  pub commutators : (l i : ℕ) → l < A.presentation.rank → i < l → weight_at A l ≡ c → commutator_word A.presentation l i ≡ []
  pub below : HasClass (up_to_class A (c - 1)).presentation (c - 1)

-- the relations that qualify at class c
abbrev pub qualifying_relations : Answer → ℕ → List Source
qualifying_relations A c =
    filter (is_qualifying A c) (all_commutators A.presentation.rank) ++ filter (is_qualifying A c) (all_powers A.presentation.rank)

-- and their rows
abbrev pub qualifying_rows : RowedAnswer → ℕ → List (List ℕ)
qualifying_rows Y c = map (row_at Y) (qualifying_relations Y.answer c)

-- a word that is joined in the flat reading to the word of a combination of rows
pub record IsSpanned (Y : RowedAnswer) (rows : List (List ℕ)) (w : List ℤ) : Type 0 where
  pub row : List ℕ
  pub span : InSpan Y.answer.presentation.prime Y.width rows row
  pub joined : Joined (flat (rowed Y)) w (tails_word Y row)

-- the last level of the flat reading over an answer that is ready at c is spanned by the rows of the qualifying relations,
-- whether or not the flat reading is consistent
abbrev pub LastLevelIsSpanned : Type 0
LastLevelIsSpanned = (Y : RowedAnswer) (c : ℕ) → IsRowedAnswer Y → 1 < Y.answer.presentation.prime → 1 ≤ c → IsReady Y.answer c
    → (w : List ℤ) → InSeries (flat (rowed Y)) c w → IsSpanned Y (qualifying_rows Y c) w
