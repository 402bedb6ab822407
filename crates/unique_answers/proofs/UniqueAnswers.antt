-- Canonical and consistent answers in which the same words die are equal, class by class: cut to a class they are one answer, whose
-- entries define the same generators of the next weight in both, with the same new parts. So there is one canonical answer to one question.
use Rattle.std.proofs.Common.{◌≡◌, ℕ, zero, suc, ◌<◌, ◌≤◌, List, [], ◌∷◌, length, map, take, refl, ap, sym, ◌∙◌, subst, arith}
use Rattle.pq_base.specs.SignedWord.{HasLetters}
use Rattle.pq_base.specs.Answer.{Answer, class_of}
use Rattle.pq_base.specs.Canonical.{rank_up_to, want_order, up_to_class, AreMet}
use Rattle.pq_base.proofs.Restrictions.{cut_to, same_answers, restrictions_are_whole}
use Rattle.pc_presentation.proofs.cuts.Cuts.{cuts_are_consistent}
use Rattle.cover_quotient.proofs.canonical_answers.ClassesByWeight.{rank-within}
use Rattle.unique_answers.specs.UniqueLaws.{KillTheSame, CanonicalAnswersAreDeterminedByWhatDies, CanonicalLargestQuotientsAreUnique}
use Rattle.unique_answers.proofs.SameDeaths.{largest_quotients_kill_the_same}
use Rattle.unique_answers.proofs.unique.CutAnswers.{cut-answer, cut-entries}
use Rattle.unique_answers.proofs.unique.CutClasses.{cut-rank_zero}
use Rattle.unique_answers.proofs.unique.DeathsAlike.{IsFit, same-class, cuts-kill_the_same}
use Rattle.unique_answers.proofs.unique.NewParts.{ranks-add, new_part-normal}
use Rattle.unique_answers.proofs.unique.EntryValues.{entry_word-letters, entry-value}
use Rattle.unique_answers.proofs.unique.Layers.{IsLayer}
use Rattle.unique_answers.proofs.unique.SameTurns.{TurnAlike, turns-alike}
use Rattle.unique_answers.proofs.unique.ExactCuts.{cut-exact}
use Rattle.unique_answers.proofs.unique.SameParts.{parts-alike}
use Rattle.unique_answers.proofs.unique.SameCuts.{cuts-alike}

-- the generators of weight k + 1 over the answer cut to class k
layer : (A : Answer) → IsFit A → (k : ℕ) → IsLayer (up_to_class A k) A k
layer A a k = record {
  prime = a.answer.presentation.prime;
  consistent =
      cuts_are_consistent A.presentation (rank_up_to A (suc k)) a.answer.presentation (rank-within A a.answer (suc k)) a.consistent;
  ranks = ranks-add A a.answer k;
  parts = new_part-normal A a.answer k;
  values = entry-value A a.answer k;
}

nothing_taken : (es fs : List (List ℕ)) → length es ≡ length fs → map (take 0) es ≡ map (take 0) fs
nothing_taken [] [] h = refl
nothing_taken [] (f ∷ fs) h = absurd (omega arith)
nothing_taken (e ∷ es) [] h = absurd (omega arith)
nothing_taken (e ∷ es) (f ∷ fs) h = ap (λ (l : List (List ℕ)). [] ∷ l) (nothing_taken es fs (omega arith))

module _ (A B : Answer) (a : IsFit A) (b : IsFit B) (kill : KillTheSame A B) where
  class : class_of A ≡ class_of B
  class = same-class A B a b kill

  -- no generators are left at class 0
  cuts_to_nothing : up_to_class A 0 ≡ up_to_class B 0
  cuts_to_nothing =
      let left : length A.images ≡ length A.names = a.answer.image_count in
      let right : length B.images ≡ length B.names = b.answer.image_count in
      let names : length A.names ≡ length B.names = ap length kill.names in
      ap (cut_to A) (cut-rank_zero A a.answer)
      ∙ same_answers (cut_to A 0) (cut_to B 0) (record {
        prime = kill.prime;
        rank = refl;
        powers = refl;
        commutators = refl;
        weights = refl;
        names = kill.names;
        definitions = refl;
        images = nothing_taken A.images B.images (omega arith);
      })
      ∙ sym (ap (cut_to B) (cut-rank_zero B b.answer))

  -- one class more
  module _ (k : ℕ) (same : up_to_class A k ≡ up_to_class B k) (small : k < class_of A) where
    abbrev D : Answer
    D = up_to_class A k

    next : KillTheSame (up_to_class A (suc k)) (up_to_class B (suc k))
    next = cuts-kill_the_same A B a b kill (suc k)

    one_names : length A.names ≡ length B.names
    one_names = ap length kill.names

    turns : TurnAlike A B k 0 (want_order D k)
    turns =
        let same_class : class_of A ≡ class_of B = class in
        turns-alike D A B k (layer A a k) (subst (λ (C : Answer). IsLayer C B k) (sym same) (layer B b k)) kill.prime one_names
        (entry_word-letters D (cut-answer A a.answer k))
        (λ w h. (next.words w h).0)
        (λ w h. (next.words w (subst (λ (n : ℕ). HasLetters n w) (sym one_names) h)).1)
        (want_order D k) (cut-entries A a.answer k k) (a.canonical.turns k small)
        (subst (λ (C : Answer). AreMet B k 0 (want_order C k)) (sym same) (b.canonical.turns k (omega arith)))

    cuts-grow : up_to_class A (suc k) ≡ up_to_class B (suc k)
    cuts-grow =
        cuts-alike A B a.answer b.answer a.canonical b.canonical kill.prime kill.names k same turns.count
        (λ g l. turns.definitions g (omega arith) l)
        (parts-alike A B a.answer b.answer k same (cut-exact A a.answer a.canonical k small) turns.count turns.parts)

  cuts-equal : (k : ℕ) → k ≤ class_of A → up_to_class A k ≡ up_to_class B k
  cuts-equal zero l = cuts_to_nothing
  cuts-equal (suc k) l = cuts-grow k (cuts-equal k (omega arith)) (omega arith)

  answers-equal : A ≡ B
  answers-equal =
      let same_class : class_of A ≡ class_of B = class in
      sym (restrictions_are_whole A a.answer (class_of A) (omega arith))
      ∙ cuts-equal (class_of A) (omega arith)
      ∙ restrictions_are_whole B b.answer (class_of A) (omega arith)

pub canonical_answers_are_determined_by_what_dies : CanonicalAnswersAreDeterminedByWhatDies
canonical_answers_are_determined_by_what_dies A B a b ca cb consistent_a consistent_b kill =
    answers-equal A B (record { answer = a; canonical = ca; consistent = consistent_a })
    (record { answer = b; canonical = cb; consistent = consistent_b }) kill

pub canonical_largest_quotients_are_unique : CanonicalLargestQuotientsAreUnique
canonical_largest_quotients_are_unique L p c A B a ca b cb =
    answers-equal A B (record { answer = a.answer; canonical = ca; consistent = a.consistent })
    (record { answer = b.answer; canonical = cb; consistent = b.consistent }) (largest_quotients_kill_the_same L p c A B a b)
