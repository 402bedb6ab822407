-- The parts of an answer that is cut to a class: weights and definitions of the generators that stay are as before, and right sides
-- and images are cut.
use Rattle.std.proofs.Common.{◌≡◌, ℕ, suc, ◌+◌, ◌-◌, ◌<◌, ℤ, List, [], get_or, length, map, take, ap, sym, ◌∙◌, arith}
use Rattle.std.proofs.lemmas.List.{get_or-take, get_or-map, length-take-le, length-map}
use Rattle.pq_base.specs.SignedWord.{sub}
use Rattle.pq_base.specs.Presentation.{letter, word_from, power_side, commutator_side}
use Rattle.pq_base.specs.Answer.{Answer, IsAnswer, weight_at, definition_at, image_words}
use Rattle.pq_base.specs.Answer.Definition.{image}
use Rattle.pq_base.specs.Canonical.{rank_up_to, up_to_class}
use Rattle.pq_base.proofs.words.WordLaws.{sub-sub}
use Rattle.pq_base.proofs.words.LetterLaws.{HasLetters-letter}
use Rattle.pc_presentation.specs.RowedLaws.{projection}
use Rattle.pc_presentation.specs.CutLaws.{cut_word}
use Rattle.pc_presentation.proofs.rows.Projections.{sub-projection}
use Rattle.pc_presentation.proofs.cuts.CutSides.{sub-word_from, images-cut, power_side-cut, commutator_side-cut}
use Rattle.cover_quotient.proofs.canonical_answers.ClassesByWeight.{rank-within}

-- a word that is one of the first n generators alone stays where it is cut
pub letter-cut : (n s r l : ℕ) (e : List ℕ) → s + r ≡ n → l < n → word_from s e ≡ letter l → word_from s (take r e) ≡ letter l
letter-cut n s r l e place inside same =
    sym (sub-word_from n 0 s r e place)
    ∙ ap (λ (w : List ℤ). sub w (projection n 0)) same
    ∙ sub-projection n 0 (letter l) (HasLetters-letter n l inside)

module _ (A : Answer) (is : IsAnswer A) (k : ℕ) where
  abbrev n : ℕ
  n = rank_up_to A k

  pub cut-weight_count : length (up_to_class A k).weights ≡ rank_up_to A k
  cut-weight_count =
      let fits = rank-within A is k in
      let long : length A.weights ≡ A.presentation.rank = is.weight_count in
      length-take-le n A.weights (omega arith)

  pub cut-definition_count : length (up_to_class A k).definitions ≡ rank_up_to A k
  cut-definition_count =
      let fits = rank-within A is k in
      let long : length A.definitions ≡ A.presentation.rank = is.definition_count in
      length-take-le n A.definitions (omega arith)

  pub cut-image_count : length (up_to_class A k).images ≡ length A.names
  cut-image_count = length-map A.images (take n) ∙ is.image_count

  pub cut-weight : (i : ℕ) → i < rank_up_to A k → weight_at (up_to_class A k) i ≡ weight_at A i
  cut-weight i l = get_or-take n A.weights i 0 l

  pub cut-definition : (i : ℕ) → i < rank_up_to A k → definition_at (up_to_class A k) i ≡ definition_at A i
  cut-definition i l = get_or-take n A.definitions i (image 0) l

  pub cut-image : (i : ℕ) → i < length A.images → get_or (up_to_class A k).images i [] ≡ take (rank_up_to A k) (get_or A.images i [])
  cut-image i l = get_or-map (take n) A.images i [] [] l

  pub cut-power_side : (i : ℕ) → i < rank_up_to A k
      → power_side (up_to_class A k).presentation i ≡ take (rank_up_to A k - suc i) (power_side A.presentation i)
  cut-power_side i l = power_side-cut A.presentation is.presentation n (rank-within A is k) i l

  pub cut-commutator_side : (j i : ℕ) → j < rank_up_to A k
      → commutator_side (up_to_class A k).presentation j i ≡ take (rank_up_to A k - suc j) (commutator_side A.presentation j i)
  cut-commutator_side j i l = commutator_side-cut A.presentation is.presentation n (rank-within A is k) j i l

  -- the words of the images are cut
  cut-image_words : image_words (up_to_class A k) ≡ map (cut_word (rank_up_to A k) A.presentation) (image_words A)
  cut-image_words = sym (images-cut n (A.presentation.rank - n) A.images)

  -- so are the words over them
  pub cut-value : (w : List ℤ) → sub w (image_words (up_to_class A k)) ≡ cut_word (rank_up_to A k) A.presentation (sub w (image_words A))
  cut-value w = ap (sub w) cut-image_words ∙ sym (sub-sub w (image_words A) (projection n (A.presentation.rank - n)))
