-- The images of an answer as sparse words.
use Rattle.std.proofs.Common.{◌≡◌, ◌<◌, ◌+◌, ◌-◌, ℕ, List, [], get_or, length, ap, sym, ◌∙◌, subst, arith}
use Rattle.std.proofs.lemmas.List.{get_or-map}
use Rattle.pq_base.specs.Presentation.{normal_word}
use Rattle.pq_base.specs.Answer.{Answer, IsAnswer, image_words}
use Rattle.pq_base.proofs.NormalLists.{normal-entry}
use Rattle.pc_presentation.specs.declared.syllable.Syllable.{Syllable}
use Rattle.pc_presentation.specs.Syllable.{syllables_of, letters_of, AreGenerators}
use Rattle.pc_presentation.proofs.presentations.SyllableLaws.{letters_of-syllables_of}
use Rattle.pc_presentation.proofs.quotients.TailedLaws.{generators-syllables_of}

module _ (B : Answer) (is : IsAnswer B) (i : ℕ) (l : i < length B.names) (w : List Syllable)
    (read : w ≡ syllables_of 0 (get_or B.images (i + 1 - 1) [])) where
  place : i + 1 - 1 ≡ i
  place = omega arith

  within : i < length B.images
  within = let c = is.image_count in omega (arith, l, c)

  is-image : w ≡ syllables_of 0 (get_or B.images i [])
  is-image = read ∙ ap (λ (n : ℕ). syllables_of 0 (get_or B.images n [])) place

  pub image-letters : letters_of w ≡ get_or (image_words B) i []
  image-letters =
      ap letters_of is-image ∙ letters_of-syllables_of 0 (get_or B.images i []) ∙ sym (get_or-map normal_word B.images i [] [] within)

  pub image-generators : AreGenerators B.presentation.rank w
  image-generators =
      let normal = normal-entry B.presentation.prime B.presentation.rank B.images i is.images within in
      let count : length (get_or B.images i []) ≡ B.presentation.rank = normal.count in
      subst (AreGenerators B.presentation.rank) (sym is-image)
      (generators-syllables_of B.presentation.rank 0 (get_or B.images i []) (omega (arith, count)))
