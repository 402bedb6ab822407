-- The matrix of an endomorphism that induces one of the answer. In the full cover there is one, since the images of entry words have
-- rows there, so that the image of a word that dies in the full cover dies there; and what dies in the full cover dies in each cover.
-- So in a cover that leaves out trivial rows, the images of the entry words that it leaves out die, and rows times the matrix of its
-- rows are the rows of the words' images.
use Rattle.std.proofs.Common.{◌≡◌, ℕ, ℤ, List, [], length, map, refl, ap, sym, ◌∙◌, subst, arith}
use Rattle.std.proofs.lemmas.List.{length-map}
use Rattle.pq_base.specs.SignedWord.{sub}
use Rattle.pq_base.specs.Elementary.{zeros}
use Rattle.pq_base.specs.Presentation.{Presentation, IsNormal, word_from}
use Rattle.pq_base.specs.Answer.{Answer, Definition as Source}
use Rattle.pq_base.specs.EntryWords.{IsSourceOf, entry_word}
use Rattle.pq_base.proofs.words.WordLaws.{word_from-zeros, sub-sub}
use Rattle.pq_base.proofs.words.JoinedLaws.{joined-from_equal, joined-trans}
use Rattle.fp_rows.proofs.RowLaws.{IsRow-zeros}
use Rattle.fp_echelon.proofs.SpanLaws.{combine-zeros}
use Rattle.pc_presentation.specs.Rowed.{flat}
use Rattle.pc_presentation.specs.Arithmetic.{word_of}
use Rattle.pc_presentation.proofs.rows.TailRowLaws.{row_of-normal}
use Rattle.p_cover.specs.RowedAnswer.{rowed, row_at, image_states, rowed_images}
use Rattle.p_cover.specs.Sources.{place_in}
use Rattle.p_cover.specs.Covers.{CoverOf, IsCover, all_sources, rowed_cover}
use Rattle.p_cover.proofs.EntryWords.{entry-row}
use Rattle.p_cover.proofs.PartLaws.{part_of_itself}
use Rattle.p_cover.proofs.CoverRows.{row_at-source}
use Rattle.p_cover.proofs.SourceNumbers.{source-by_name}
use Rattle.p_cover.proofs.LiftedImages.{length-states_with}
use Rattle.cover_quotient.specs.Stages.{full_cover_of}
use Rattle.endo_lift.specs.Lifts.{Induces, AreJoinedIn, LeavesOutTrivial, CarriesRows}
use Rattle.endo_lift.specs.LiftLaws.{MatricesCarryRows}
use Rattle.endo_lift.proofs.RowedImages.{AreWords-rowed_images}
use Rattle.endo_lift.proofs.CoverWords.{IsCentralOfOrder, death-carried}
use Rattle.endo_lift.proofs.ImageRows.{LeftOutImagesDie, up_to_row-central, cover-rowed, image_rows-carry}
use Rattle.endo_lift.proofs.FullCovers.{left_out-dies}
use Rattle.endo_lift.proofs.EntryImages.{HasImageRows, image_rows-exist}

-- a word over the given generators dies in a cover
abbrev pub DiesIn : CoverOf → List ℤ → Type 0
DiesIn C w = AreJoinedIn C (sub w (rowed_images (rowed_cover C))) []

-- a full cover leaves out definitions alone, and the images of their words die
pub full-left_out : (C : CoverOf) → IsCover C → C.sources ≡ all_sources C.answer → (endo : List (List ℤ)) → LeftOutImagesDie C endo
full-left_out C is full endo d s e =
    let images : List (List ℤ) = rowed_images (rowed_cover C) in
    joined-trans (joined-from_equal (flat (rowed (rowed_cover C))) (sub-sub (entry_word C.answer d) endo images))
    (left_out-dies C.answer is.answer d s (ap (λ (ds : List Source). place_in ds d) (sym full) ∙ e) (flat (rowed (rowed_cover C)))
    (map (λ (u : List ℤ). sub u images) endo))

-- the image of a word that dies in the full cover
module _ (A : Answer) (cover : IsCover (full_cover_of A)) (endo : List (List ℤ)) (count : length endo ≡ length A.names)
    (induces : Induces A endo) where
  abbrev X : CoverOf
  X = full_cover_of A

  pub deaths-stay : (w : List ℤ) → DiesIn (full_cover_of A) w → DiesIn (full_cover_of A) (sub w endo)
  deaths-stay w c =
      let big = cover.answer.presentation.prime in
      let p : ℕ = A.presentation.prime in
      let q : ℕ = length (all_sources A) in
      let F : Presentation = flat (rowed (rowed_cover X)) in
      let m : HasImageRows X endo = image_rows-exist X cover (cover-rowed X cover) endo induces in
      let carries : CarriesRows X endo m.rows =
      image_rows-carry X cover endo count m.rows m.are m.count m.values (full-left_out X cover refl endo) in
      joined-trans
      (carries w (zeros q) (IsRow-zeros p q (omega arith))
      (joined-trans c (joined-from_equal F (sym (word_from-zeros A.presentation.rank q)))))
      (joined-from_equal F
      (ap (word_from A.presentation.rank) (combine-zeros p q q m.rows (omega arith) m.are) ∙ word_from-zeros A.presentation.rank q))

-- what dies in the full cover dies in each
module _ (C : CoverOf) (is : IsCover C) where
  abbrev F : Presentation
  F = flat (rowed (rowed_cover C))

  abbrev images : List (List ℤ)
  images = rowed_images (rowed_cover C)

  pub full_cover-is : IsCover (full_cover_of C.answer)
  full_cover-is = record { answer = is.answer; sources = part_of_itself (all_sources C.answer) }

  entry-normal : (d : Source) → IsSourceOf C.answer d → IsNormal C.answer.presentation.prime (length C.sources) (row_at (rowed_cover C) d)
  entry-normal d s =
      subst (IsNormal C.answer.presentation.prime (length C.sources))
      (sym (row_at-source C.answer C.sources d (source-by_name C.answer is.answer d s)))
      (row_of-normal C.answer.presentation.prime (length C.sources) (place_in C.sources d) is.answer.presentation.prime)

  entry-central : (d : Source) → IsSourceOf C.answer d → IsCentralOfOrder F C.answer.presentation.prime (sub (entry_word C.answer d) images)
  entry-central d s =
      up_to_row-central (rowed (rowed_cover C)) (cover-rowed C is).presentation is.answer.presentation.prime
      (sub (entry_word C.answer d) images)
      (record {
        row = row_at (rowed_cover C) d;
        normal = entry-normal d s;
        joined = entry-row (rowed_cover C) (cover-rowed C is) d s;
      })

  images-count : length images ≡ length C.answer.names
  images-count =
      let rows = (cover-rowed C is).image_count in
      length-map (image_states (rowed_cover C)) (word_of (rowed (rowed_cover C)))
      ∙ length-states_with C.answer.images (rowed_cover C).image_rows (is.answer.image_count ∙ sym rows) ∙ is.answer.image_count

  pub dies-from_full : (w : List ℤ) → DiesIn (full_cover_of C.answer) w → DiesIn C w
  dies-from_full w c =
      death-carried F images (AreWords-rowed_images (rowed_cover C) (cover-rowed C is)) C.answer is.answer (all_sources C.answer)
      (part_of_itself (all_sources C.answer)) entry-central
      (λ d s e. left_out-dies C.answer is.answer d s e F images) images-count w c

  module _ (leaves : LeavesOutTrivial C) (endo : List (List ℤ)) (count : length endo ≡ length C.answer.names)
      (induces : Induces C.answer endo) where
    pub left_out-images_die : LeftOutImagesDie C endo
    left_out-images_die d s e =
        let X : CoverOf = full_cover_of C.answer in
        dies-from_full (sub (entry_word C.answer d) endo)
        (deaths-stay C.answer full_cover-is endo count induces (entry_word C.answer d)
        (joined-trans (entry-row (rowed_cover X) (cover-rowed X full_cover-is) d s) (leaves d s e)))

pub matrices_carry_rows : MatricesCarryRows
matrices_carry_rows C is leaves endo count induces rows long are values =
    image_rows-carry C is endo count rows are long values (left_out-images_die C is leaves endo count induces)
