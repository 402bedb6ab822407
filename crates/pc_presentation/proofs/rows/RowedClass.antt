-- The class of the flat reading is at most one more than that of the base: the words of the last level of the base are
-- joined to words of rows, which are central and of order p.
use Rattle.std.proofs.Common.{ℕ, suc, ◌<◌, ℤ, List, [], ◌++◌, arith}
use Rattle.pq_base.specs.SignedWord.{copies, comm}
use Rattle.pq_base.specs.Presentation.{word_from}
use Rattle.pq_base.specs.Joined.{Joined}
use Rattle.pq_base.specs.Series.{NextWord, InSeries, HasClass}
use Rattle.pq_base.specs.Series.NextWord.{no_word, then_commutator, then_power}
use Rattle.pq_base.proofs.words.JoinedLaws.{joined-refl, joined-trans, joined-append, joined-comm, joined-copies, comm-joined_nil}
use Rattle.pq_base.proofs.SeriesLaws.{series-letters}
use Rattle.pc_presentation.specs.Rowed.{RowedPresentation, IsRowed, flat}
use Rattle.pc_presentation.specs.RowedLaws.{IsUpToRow, ClassesGrowByOneWithRows, projected}
use Rattle.pc_presentation.proofs.rows.RowsCentral.{row_word-commutes, row_word-power}
use Rattle.pc_presentation.proofs.rows.Projections.{series-projected}
use Rattle.pc_presentation.proofs.rows.Lifting.{lifted}

module _ (Z : RowedPresentation) (is : IsRowed Z) (big : 1 < Z.base.prime) (c : ℕ) (class : HasClass Z.base c) where
  -- a word of level c is the word of a row
  pub level-up_to_row : (u : List ℤ) → InSeries (flat Z) c u → IsUpToRow Z u []
  level-up_to_row u s =
      lifted Z is big u [] (series-letters (flat Z) c u s) tt (class (projected Z u) (series-projected Z is c u s))

  next-trivial : {w : List ℤ} → NextWord (flat Z) (InSeries (flat Z) c) w → Joined (flat Z) w []
  next-trivial no_word = joined-refl (flat Z) []
  next-trivial (then_commutator u v w s h n) =
      let r = level-up_to_row u s in
      let x : List ℤ = word_from Z.base.rank r.row in
      let commutes : Joined (flat Z) (x ++ v) (v ++ x) = row_word-commutes Z is r.row v r.normal.count h in
      let trivial : Joined (flat Z) (comm u v) [] =
      joined-trans (joined-comm r.joined (joined-refl (flat Z) v)) (comm-joined_nil x v commutes) in
      joined-append trivial (next-trivial n)
  next-trivial (then_power u w s n) =
      let r = level-up_to_row u s in
      let trivial : Joined (flat Z) (copies u Z.base.prime) [] =
      joined-trans (joined-copies Z.base.prime r.joined) (row_word-power Z is (omega arith) r.row r.normal) in
      joined-append trivial (next-trivial n)

  pub class-with_rows : HasClass (flat Z) (suc c)
  class-with_rows w s = joined-trans s.joined (next-trivial s.next)

pub classes_grow_by_one_with_rows : ClassesGrowByOneWithRows
classes_grow_by_one_with_rows Z is c class = class-with_rows Z is is.base.prime c class
