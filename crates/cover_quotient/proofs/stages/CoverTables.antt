-- A cover modulo a basis whose span holds the overlap rows has a table of normal words, which is that of the next answer, with the
-- same elements for the images; they obey an L-presentation whose relators have rows in the span.
use Rattle.std.proofs.Common.{◌≡◌, ℕ, ℤ, List, [], length, ap, sym, ◌∙◌, subst, arith}
use Rattle.std.proofs.lemmas.List.{length-map, ext_get_or}
use Rattle.pq_base.specs.LPresentation.{LPresentation, IsLPresentation, IsRelator, Obeys}
use Rattle.pq_base.specs.SignedWord.{sub}
use Rattle.pq_base.specs.Table.{AllBelow, value}
use Rattle.pq_base.specs.Presentation.{normal_word}
use Rattle.pq_base.specs.Joined.{Joined, IsConsistent}
use Rattle.pq_base.specs.Answer.{Definition as Source, image_words}
use Rattle.pq_base.proofs.tables.TableGroup.{value-sub, value-joined}
use Rattle.fp_echelon.specs.Reduced.{BasisRow, rows_of}
use Rattle.pc_presentation.specs.Rowed.{flat, followed_by}
use Rattle.pc_presentation.specs.NormalTable.{generator_numbers, NormalWordsAreATable}
use Rattle.pq_base.proofs.PrimeLaws.{offered-two}
use Rattle.p_cover.specs.RowedAnswer.{RowedAnswer, IsRowedAnswer, rowed, states_with, rowed_images}
use Rattle.p_cover.specs.Covers.{CoverOf}
use Rattle.p_cover.proofs.RowedSpellings.{rowed_image}
use Rattle.p_cover.proofs.LiftedImages.{length-states_with}
use Rattle.cover_quotient.specs.AnswerLaws.{IsBasisOver, HasRowOf}
use Rattle.cover_quotient.specs.NextAnswer.{next_answer, kept_sources, cover_modulo, eliminated}
use Rattle.cover_quotient.specs.KeptTailLaws.{flat_table, image_elements}
use Rattle.cover_quotient.proofs.fitting.FitsStart.{values-below}
use Rattle.cover_quotient.proofs.next_answers.AnswerLaws.{quotients_are_rowed_answers, next_answers_kill}
use Rattle.cover_quotient.proofs.next_answers.NextWords.{image-followed}
use Rattle.pc_presentation.proofs.rows.FlatLaws.{length-followed_by}
use Rattle.cover_quotient.proofs.qualifying.QualifyingSpan.{flat_words_are_a_table}

module _ (Y : RowedAnswer) (is : IsRowedAnswer Y) where
  length-rowed_images : length (rowed_images Y) ≡ length Y.answer.names
  length-rowed_images =
      length-map (states_with Y.answer.images Y.image_rows) _
      ∙ length-states_with Y.answer.images Y.image_rows (is.answer.image_count ∙ sym is.image_count)
      ∙ is.answer.image_count

  -- the images of the next answer are those with rows
  image_words-next : (sources : List Source) → image_words (next_answer Y sources) ≡ rowed_images Y
  image_words-next sources =
      let long : length (image_words (next_answer Y sources)) ≡ length Y.answer.names =
      length-map (followed_by Y.answer.images Y.image_rows) normal_word
      ∙ length-followed_by Y.answer.images Y.image_rows (is.answer.image_count ∙ sym is.image_count) ∙ is.answer.image_count in
      ext_get_or [] (image_words (next_answer Y sources)) (rowed_images Y) (long ∙ sym length-rowed_images)
      (λ i l. let count = is.answer.image_count in image-followed Y is i (omega arith) ∙ sym (rowed_image Y is i))

module _ (C : CoverOf) (bs : List BasisRow) (basis : IsBasisOver C bs) (consistent : IsConsistent (flat (rowed (cover_modulo C bs)))) where
  abbrev Y : RowedAnswer
  Y = cover_modulo C bs

  abbrev gens : List ℕ
  gens = generator_numbers (flat (rowed (cover_modulo C bs)))

  is : IsRowedAnswer (cover_modulo C bs)
  is = quotients_are_rowed_answers C bs basis

  pub modulo-table : NormalWordsAreATable (flat (rowed (cover_modulo C bs)))
  modulo-table = flat_words_are_a_table Y is (offered-two C.answer.presentation.prime basis.prime) consistent

  pub image_elements-below : AllBelow (flat_table (cover_modulo C bs)).size (image_elements (cover_modulo C bs))
  image_elements-below = values-below (flat_table Y) modulo-table.group gens modulo-table.generators (rowed_images Y)

  pub length-image_elements : length (image_elements (cover_modulo C bs)) ≡ length C.answer.names
  length-image_elements = length-map (rowed_images Y) (value (flat_table Y) gens) ∙ length-rowed_images Y is

  pub image_words-modulo : image_words (eliminated C bs) ≡ rowed_images (cover_modulo C bs)
  image_words-modulo = image_words-next Y is (kept_sources C bs)

  pub modulo-obeys : (L : LPresentation) → IsLPresentation L → L.names ≡ C.answer.names
      → ((r : List ℤ) → IsRelator L r → HasRowOf C (rows_of bs) r)
      → Obeys (flat_table (cover_modulo C bs)) (image_elements (cover_modulo C bs)) L
  modulo-obeys L words names rows = record {
    count = length-image_elements ∙ ap length (sym names);
    elements = image_elements-below;
    kills = λ r e.
        let dies : Joined (flat (rowed Y)) (sub r (rowed_images Y)) [] =
        subst (λ (images : List (List ℤ)). Joined (flat (rowed Y)) (sub r images) []) image_words-modulo
        (next_answers_kill C bs L basis words names rows r e) in
        sym (value-sub (flat_table Y) modulo-table.group gens modulo-table.generators r (rowed_images Y))
        ∙ value-joined (flat_table Y) modulo-table.group gens modulo-table.generators (flat (rowed Y)) modulo-table.relators dies;
  }
