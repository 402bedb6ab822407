-- A value in the tails alone is the word of its row, which is joined in the cover to the word under the images. Over a
-- consistent answer the values in the tails alone are those of the words that the answer kills.
use Rattle.std.proofs.Common.{◌≡◌, ◌↔◌, ℕ, ◌<◌, ℤ, List, [], ◌++◌, length, map, ap, sym, ◌∙◌, subst, arith}
use Rattle.std.proofs.lemmas.List.{length-map}
use Rattle.pq_base.specs.SignedWord.{sub, HasLetters}
use Rattle.pq_base.specs.Presentation.{word_from}
use Rattle.pq_base.specs.Joined.{Joined, IsConsistent}
use Rattle.pq_base.specs.Answer.{image_words}
use Rattle.pq_base.specs.Elementary.{zeros}
use Rattle.pq_base.proofs.words.JoinedLaws.{joined-sym, joined-trans, joined-from_equal}
use Rattle.pc_presentation.specs.Rowed.{RowedPresentation, IsRowed, flat}
use Rattle.pc_presentation.specs.Collection.{State, IsState, identity, letters, spelled}
use Rattle.pc_presentation.specs.Arithmetic.{IsMeaning, word_of}
use Rattle.pc_presentation.specs.Tailed.{Element, rowed_presentation}
use Rattle.pc_presentation.specs.ImageElements.{states_of}
use Rattle.pc_presentation.proofs.rows.RowLaws.{identity-state}
use Rattle.pc_presentation.proofs.collecting.PlainRule.{spelled-zeros}
use Rattle.pc_presentation.proofs.quotients.TailedLaws.{rowed_presentation-is}
use Rattle.pc_presentation.proofs.quotients.TailedArithmetic.{big_prime}
use Rattle.pc_presentation.proofs.quotients.CollectorArithmetic.{collectors_have_arithmetic, identity-word}
use Rattle.pc_presentation.proofs.quotients.WordValues.{value-state}
use Rattle.pc_presentation.proofs.quotients.BaseValues.{value-joined_base, zero-exponents_joined}
use Rattle.pc_presentation.proofs.consistent.Reached.{state_word}
use Rattle.p_cover.specs.RowedAnswer.{rowed_images, tails_word}
use Rattle.p_cover.specs.Covers.{CoverOf, IsCover, cover_presentation, rowed_cover}
use Rattle.p_cover.specs.Images.{ImagesOf, AreLifted}
use Rattle.p_cover.specs.ImageValues.{value_under, IsRowOfWord}
use Rattle.p_cover.proofs.ImageStates.{image_states-words, lifted-states, lifted-count, lifted-presentation}

-- a state in the tails alone
pub tails-word_of : (Y : RowedPresentation) (s : State) → s.exponents ≡ zeros Y.base.rank → word_of Y s ≡ word_from Y.base.rank s.row
tails-word_of Y s q =
    ap (λ (e : List ℕ). letters (spelled 0 e) ++ word_from Y.base.rank s.row) q
    ∙ ap (λ (u : List ℕ). letters u ++ word_from Y.base.rank s.row) (spelled-zeros 0 Y.base.rank)

pub row-joined : (Y : RowedPresentation) (s : State) (u : List ℤ) → Joined (flat Y) (word_of Y s) u → s.exponents ≡ zeros Y.base.rank
    → Joined (flat Y) u (word_from Y.base.rank s.row)
row-joined Y s u c q = joined-trans (joined-sym c) (joined-from_equal (flat Y) (tails-word_of Y s q))

module _ (C : CoverOf) (is : IsCover C) (push : State → ℕ → State) (meaning : IsMeaning (rowed_presentation (cover_presentation C)) push)
    (f : ImagesOf) (lifted : AreLifted C push f) (w : List ℤ) (l : HasLetters (length C.answer.names) w) where
  abbrev Y : RowedPresentation
  Y = rowed_presentation (cover_presentation C)

  rows : IsRowed (rowed_presentation (cover_presentation C))
  rows = rowed_presentation-is (cover_presentation C) (lifted-presentation C is push f lifted)

  big : 1 < C.answer.presentation.prime
  big = big_prime (cover_presentation C) (lifted-presentation C is push f lifted)

  one-state : IsState Y C.answer.presentation.rank (identity Y C.answer.presentation.rank)
  one-state = let b = big in identity-state Y C.answer.presentation.rank (omega arith)

  -- the letters are those of the images
  image-letters : HasLetters (length (states_of f.elements)) w
  image-letters =
      subst (λ (n : ℕ). HasLetters n w) (sym (length-map f.elements (λ (e : Element). e.state) ∙ lifted-count C is push f lifted)) l

  -- in the cover
  pub value_under-joined : Joined (flat Y) (word_of Y (value_under C push f w)) (sub w (rowed_images (rowed_cover C)))
  value_under-joined =
      let a = collectors_have_arithmetic Y rows push meaning in
      joined-trans (a.values (states_of f.elements) (states_of f.inverses)
      (identity Y C.answer.presentation.rank) w lifted.images.states one-state image-letters)
      (joined-from_equal (flat Y)
      (ap (λ (v : List ℤ). v ++ sub w (map (word_of Y) (states_of f.elements))) (identity-word Y rows big push meaning)
      ∙ ap (λ (ss : List State). sub w (map (word_of Y) ss)) (lifted-states C is push f lifted)))

  pub value_under-row_joined : (value_under C push f w).exponents ≡ zeros C.answer.presentation.rank
      → Joined (flat Y) (sub w (rowed_images (rowed_cover C))) (tails_word (rowed_cover C) (value_under C push f w).row)
  value_under-row_joined q = row-joined Y (value_under C push f w) (sub w (rowed_images (rowed_cover C))) value_under-joined q

  -- in the answer
  value_under-joined_base : Joined C.answer.presentation (state_word (value_under C push f w)) (sub w (image_words C.answer))
  value_under-joined_base =
      joined-trans (value-joined_base Y rows big push meaning (states_of f.elements)
      (states_of f.inverses) w lifted.images.states image-letters)
      (joined-from_equal C.answer.presentation
      (ap (λ (ss : List State). sub w (map state_word ss)) (lifted-states C is push f lifted)
      ∙ ap (sub w) (image_states-words C is)))

  pub value_under-killed : IsConsistent C.answer.presentation
      → (value_under C push f w).exponents ≡ zeros C.answer.presentation.rank
      ↔ Joined C.answer.presentation (sub w (image_words C.answer)) []
  value_under-killed consistent =
      let b = big in
      zero-exponents_joined Y (omega arith) consistent (value_under C push f w) (sub w (image_words C.answer))
      (value-state Y rows big push meaning (states_of f.elements) (states_of f.inverses)
      (identity Y C.answer.presentation.rank) w lifted.images.states one-state image-letters)
      value_under-joined_base

-- the word of a word's row
pub row_of_word-joined : (C : CoverOf) → IsCover C → (push : State → ℕ → State) → IsMeaning (rowed_presentation (cover_presentation C)) push
    → (w : List ℤ) → HasLetters (length C.answer.names) w → (x : List ℕ) → IsRowOfWord C push w x
    → Joined (flat (rowed_presentation (cover_presentation C))) (sub w (rowed_images (rowed_cover C))) (tails_word (rowed_cover C) x)
row_of_word-joined C is push meaning w l x h =
    subst (λ (y : List ℕ). Joined (flat (rowed_presentation (cover_presentation C))) (sub w (rowed_images (rowed_cover C)))
    (tails_word (rowed_cover C) y))
    (sym h.row) (value_under-row_joined C is push meaning h.images h.lifted w l h.zero)
