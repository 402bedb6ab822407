-- The lifted images of a cover: there is one for each given generator, their states are those of the answer with rows, and
-- their exponents are the images of the answer.
use Rattle.std.proofs.Common.{◌≡◌, ℕ, zero, suc, ℤ, List, [], ◌∷◌, length, map, refl, ap, sym, ◌∙◌, arith}
use Rattle.std.proofs.lemmas.List.{length-map}
use Rattle.pq_base.specs.Presentation.{normal_word}
use Rattle.pq_base.specs.Answer.{image_words}
use Rattle.pq_base.specs.Canonical.{numbers_from}
use Rattle.pc_presentation.specs.Pcp.{IsTailedPresentation, row_of}
use Rattle.pc_presentation.specs.Collection.{State}
use Rattle.pc_presentation.specs.Tailed.{Element, one_of}
use Rattle.pc_presentation.specs.ImageElements.{states_of}
use Rattle.pc_presentation.proofs.consistent.Reached.{state_word}
use Rattle.p_cover.specs.Sources.{place_in}
use Rattle.pq_base.specs.Answer.Definition.{image}
use Rattle.p_cover.specs.RowedAnswer.{states_with, image_states}
use Rattle.p_cover.specs.Covers.{CoverOf, IsCover, cover_presentation, rowed_cover}
use Rattle.p_cover.specs.Images.{ImagesOf, AreLifted}
use Rattle.pq_base.proofs.NumberLists.{length-numbers_from}
use Rattle.pc_presentation.proofs.quotients.BaseValues.{state_word-normal}
use Rattle.p_cover.proofs.LiftedImages.{length-states_with}

-- exponents with rows
words-states_with : (es xs : List (List ℕ)) → length xs ≡ length es → map state_word (states_with es xs) ≡ map normal_word es
words-states_with [] xs c = refl
words-states_with (e ∷ es) [] c = absurd (omega arith)
words-states_with (e ∷ es) (x ∷ xs) c =
    ap (λ (u : List ℤ). u ∷ map state_word (states_with es xs)) (state_word-normal (record { exponents = e; row = x }))
    ∙ ap (λ (us : List (List ℤ)). normal_word e ∷ us) (words-states_with es xs (omega arith))

-- states as elements
states_of-elements : (p : ℕ) (ss : List State) → states_of (map (λ (s : State). record { prime = p; state = s }) ss) ≡ ss
states_of-elements p [] = refl
states_of-elements p (s ∷ ss) = ap (λ (ts : List State). s ∷ ts) (states_of-elements p ss)

module _ (C : CoverOf) (is : IsCover C) where
  row_count : length (rowed_cover C).image_rows ≡ length C.answer.images
  row_count =
      length-map (numbers_from 1 (length C.answer.names)) (λ (i : ℕ). row_of (length C.sources) (place_in C.sources (image i)))
      ∙ length-numbers_from 1 (length C.answer.names) ∙ sym is.answer.image_count

  image_count : length (image_states (rowed_cover C)) ≡ length C.answer.names
  image_count = length-states_with C.answer.images (rowed_cover C).image_rows (sym row_count) ∙ is.answer.image_count

  pub image_states-words : map state_word (image_states (rowed_cover C)) ≡ image_words C.answer
  image_states-words = words-states_with C.answer.images (rowed_cover C).image_rows row_count

  module _ (push : State → ℕ → State) (f : ImagesOf) (lifted : AreLifted C push f) where
    pub lifted-states : states_of f.elements ≡ image_states (rowed_cover C)
    lifted-states = ap states_of lifted.elements ∙ states_of-elements C.answer.presentation.prime (image_states (rowed_cover C))

    pub lifted-count : length f.elements ≡ length C.answer.names
    lifted-count =
        ap (λ (es : List Element). length es) lifted.elements
        ∙ length-map (image_states (rowed_cover C)) (λ (s : State). record { prime = C.answer.presentation.prime; state = s })
        ∙ image_count

    -- there is an image, and so the cover's presentation is one
    pub lifted-presentation : IsTailedPresentation (cover_presentation C)
    lifted-presentation =
        let c = lifted-count in
        let some = is.answer.some_name in
        (lifted.images.images 0 (one_of (cover_presentation C)) (omega arith)).presentation
