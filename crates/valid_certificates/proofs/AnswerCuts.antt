-- An answer that is cut to a class is consistent and kills the relators of a presentation where the whole answer does.
use Rattle.std.proofs.Common.{◌≡◌, ◌-◌, ℕ, ap, sym, ◌∙◌}
use Rattle.pq_base.specs.SignedWord.{sub}
use Rattle.pq_base.specs.LPresentation.{LPresentation}
use Rattle.pq_base.specs.Presentation.{Presentation}
use Rattle.pq_base.specs.Joined.{IsConsistent}
use Rattle.pq_base.specs.Answer.{Answer, IsAnswer, image_words}
use Rattle.pq_base.specs.Canonical.{first_generators, rank_up_to, up_to_class}
use Rattle.pq_base.specs.Largest.{Kills}
use Rattle.pq_base.proofs.words.WordLaws.{sub-sub}
use Rattle.pq_base.proofs.words.JoinedLaws.{joined-from_equal, joined-trans}
use Rattle.pc_presentation.specs.RowedLaws.{projection}
use Rattle.pc_presentation.specs.CutLaws.{cut_word}
use Rattle.pc_presentation.proofs.cuts.CutSides.{images-cut, joined-cut}
use Rattle.pc_presentation.proofs.cuts.Cuts.{cuts_are_consistent}
use Rattle.cover_quotient.proofs.canonical_answers.ClassesByWeight.{rank-within}

module _ (A : Answer) (is : IsAnswer A) (k : ℕ) where
  pub cut-consistent : IsConsistent A.presentation → IsConsistent (up_to_class A k).presentation
  cut-consistent consistent = cuts_are_consistent A.presentation (rank_up_to A k) is.presentation (rank-within A is k) consistent

  pub cut-kills : (L : LPresentation) → Kills L A → Kills L (up_to_class A k)
  cut-kills L kills r e =
      let P : Presentation = A.presentation in
      let m : ℕ = rank_up_to A k in
      let value : cut_word m P (sub r (image_words A)) ≡ sub r (image_words (up_to_class A k)) =
      sub-sub r (image_words A) (projection m (P.rank - m)) ∙ ap (sub r) (images-cut m (P.rank - m) A.images) in
      joined-trans (joined-from_equal (first_generators m P) (sym value))
      (joined-cut P is.presentation m (rank-within A is k) (kills r e))
