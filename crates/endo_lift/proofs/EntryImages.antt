-- In every cover, of an answer that need not be consistent, the image of an entry word under an endomorphism that induces one of the
-- answer has a row: the entry word dies in the answer, so its image does.
use Rattle.std.proofs.Common.{◌≡◌, ℕ, ◌+◌, ◌<◌, ℤ, List, [], get_or, length, sym, subst, arith}
use Rattle.pq_base.specs.SignedWord.{sub}
use Rattle.pq_base.specs.Joined.{Joined}
use Rattle.pq_base.specs.Answer.{Definition as Source, image_words}
use Rattle.pq_base.specs.Answer.Definition.{image}
use Rattle.pq_base.specs.EntryWords.{IsSourceOf, entry_word}
use Rattle.pq_base.proofs.words.LetterLaws.{HasLetters-sub}
use Rattle.fp_rows.specs.Rows.{IsRow}
use Rattle.fp_echelon.specs.Span.{AreRows}
use Rattle.pc_presentation.specs.RowedLaws.{IsUpToRow, projected}
use Rattle.pc_presentation.proofs.rows.Projections.{joined-projected, sub-row_word}
use Rattle.pc_presentation.proofs.rows.Lifting.{lifted}
use Rattle.p_cover.specs.RowedAnswer.{RowedAnswer, IsRowedAnswer, rowed, row_at, rowed_images}
use Rattle.p_cover.specs.Covers.{CoverOf, IsCover, rowed_cover}
use Rattle.p_cover.proofs.EntryWords.{entry-row}
use Rattle.p_cover.proofs.SourceNumbers.{source-by_place}
use Rattle.p_cover.proofs.WantMembers.{part-sources}
use Rattle.cover_quotient.proofs.carried_rows.CarriedRows.{row_from_normal}
use Rattle.endo_lift.specs.Lifts.{Induces, HasRow, AreImageRows}
use Rattle.endo_lift.proofs.RowLists.{rows-by_place, AreRows-from_entries}
use Rattle.endo_lift.proofs.RowedImages.{AreWords-rowed_images, value-projected}

-- entry words die in the answer
pub entry-dies : (Y : RowedAnswer) → IsRowedAnswer Y → (d : Source) → IsSourceOf Y.answer d
    → Joined Y.answer.presentation (sub (entry_word Y.answer d) (image_words Y.answer)) []
entry-dies Y is d s =
    let value = value-projected Y is (entry_word Y.answer d) in
    let row = sub-row_word Y.answer.presentation.rank Y.width (row_at Y d) in
    subst (λ (w : List ℤ). Joined Y.answer.presentation w []) value
    (subst (λ (w : List ℤ). Joined Y.answer.presentation (projected (rowed Y) (sub (entry_word Y.answer d) (rowed_images Y))) w) row
    (joined-projected (rowed Y) is.presentation (entry-row Y is d s)))

-- so their images have rows
pub entry_image-row : (Y : RowedAnswer) → IsRowedAnswer Y → (endo : List (List ℤ)) → Induces Y.answer endo
    → (d : Source) → IsSourceOf Y.answer d → IsUpToRow (rowed Y) (sub (sub (entry_word Y.answer d) endo) (rowed_images Y)) []
entry_image-row Y is endo induces d s =
    let w : List ℤ = sub (entry_word Y.answer d) endo in
    lifted (rowed Y) is.presentation is.answer.presentation.prime (sub w (rowed_images Y)) []
    (HasLetters-sub (Y.answer.presentation.rank + Y.width) w (rowed_images Y) (AreWords-rowed_images Y is)) tt
    (subst (λ (u : List ℤ). Joined Y.answer.presentation u []) (sym (value-projected Y is w))
    (induces (entry_word Y.answer d) (entry-dies Y is d s)))

-- the rows of the images for all tails of a cover
pub record HasImageRows (C : CoverOf) (endo : List (List ℤ)) : Type 0 where
  pub rows : List (List ℕ)
  pub count : length rows ≡ length C.sources
  pub are : AreRows C.answer.presentation.prime (length C.sources) rows
  pub values : AreImageRows C endo rows

module _ (C : CoverOf) (is : IsCover C) (rowed_is : IsRowedAnswer (rowed_cover C)) (endo : List (List ℤ))
    (induces : Induces C.answer endo) where
  abbrev IsImageRow : ℕ → List ℕ → Type 0
  IsImageRow t x = IsRow C.answer.presentation.prime (length C.sources) x
      × HasRow C (sub (entry_word C.answer (get_or C.sources t (image 0))) endo) x

  source-is : (t : ℕ) → t < length C.sources → IsSourceOf C.answer (get_or C.sources t (image 0))
  source-is t l = source-by_place C.answer is.answer (get_or C.sources t (image 0)) (part-sources C.answer is.sources t (image 0) l)

  image_row : (t : ℕ) → t < length C.sources → (x : List ℕ) × IsImageRow t x
  image_row t l =
      let r = entry_image-row (rowed_cover C) rowed_is endo induces (get_or C.sources t (image 0)) (source-is t l) in
      (r.row, (row_from_normal C.answer.presentation.prime (length C.sources) r.row r.normal, r.joined))

  pub image_rows-exist : HasImageRows C endo
  image_rows-exist =
      let made = rows-by_place (length C.sources) IsImageRow image_row in
      let long = made.count in
      record {
        rows = made.rows;
        count = made.count;
        are = AreRows-from_entries C.answer.presentation.prime (length C.sources) made.rows (λ t l. (made.each t (omega arith)).0);
        values = λ t l. (made.each t l).1;
      }
