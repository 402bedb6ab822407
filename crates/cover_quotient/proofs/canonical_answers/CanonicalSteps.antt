-- The next answer of a canonical answer is canonical.
use Rattle.std.proofs.Common.{◌≡◌, ℕ, suc, ◌+◌, ◌<◌, ◌≤◌, List, length, inl, inr, ap, sym, subst, arith}
use Rattle.std.proofs.lemmas.Bool.{cases_lt}
use Rattle.pq_base.specs.Limits.{max_class}
use Rattle.pq_base.specs.Answer.{Answer, class_of}
use Rattle.pq_base.specs.Canonical.{rank_up_to, want_order, up_to_class, AreMet}
use Rattle.fp_echelon.specs.Reduced.{BasisRow}
use Rattle.p_cover.specs.Covers.{CoverOf}
use Rattle.cover_quotient.specs.AnswerLaws.{IsBasisOver, IsNextAnswer, kept_count}
use Rattle.cover_quotient.specs.CanonicalAnswerLaws.{NextAnswersTakeTurns}
use Rattle.cover_quotient.specs.Kept.{kept_columns}
use Rattle.cover_quotient.specs.NextAnswer.{kept_sources, cover_modulo, eliminated}
use Rattle.cover_quotient.specs.Defining.{KeptMayDefine}
use Rattle.cover_quotient.proofs.next_answers.AnswerLaws.{quotients_are_rowed_answers, next_answers_are_answers}
use Rattle.cover_quotient.proofs.next_answers.AnswerLaws.{next_answers_keep_the_classes_before}
use Rattle.cover_quotient.proofs.kept_tails.EliminatedAnswers.{kept-defining}
use Rattle.pq_base.proofs.Restrictions.{restrictions_are_whole}
use Rattle.cover_quotient.proofs.canonical_answers.EarlierTurns.{wanted-sources, turns-kept}
use Rattle.cover_quotient.proofs.canonical_answers.KeptTurns.{kept-turns}

module _ (C : CoverOf) (bs : List BasisRow) (basis : IsBasisOver C bs) (may : KeptMayDefine C bs)
    (few : class_of C.answer < max_class) (some : 1 ≤ kept_count C bs) where
  abbrev A : Answer
  A = C.answer

  abbrev N : Answer
  N = eliminated C bs

  next : IsNextAnswer A N
  next = next_answers_are_answers C bs basis (kept-defining C bs may) few some

  -- ranks up to the classes
  rank-before : (j : ℕ) → j ≤ class_of A → rank_up_to N j ≡ rank_up_to A j
  rank-before j l = ap (λ (B : Answer). B.presentation.rank) (next_answers_keep_the_classes_before C.answer (eliminated C bs) next j l)

  rank-last : rank_up_to N (class_of A) ≡ A.presentation.rank
  rank-last = ap (λ (B : Answer). B.presentation.rank) next.restricts

  rank-whole : rank_up_to N (suc (class_of A)) ≡ A.presentation.rank + length (kept_columns (length C.sources) bs)
  rank-whole =
      let class = next.class in
      ap (λ (B : Answer). B.presentation.rank)
      (restrictions_are_whole (eliminated C bs) next.answer (suc (class_of C.answer)) (omega arith))

  module _ (turns : (j : ℕ) → j < class_of C.answer → AreMet C.answer j 0 (want_order (up_to_class C.answer j) j)) where
    before : (j : ℕ) → j < class_of A → AreMet N j 0 (want_order (up_to_class N j) j)
    before j l =
        subst (λ (B : Answer). AreMet (eliminated C bs) j 0 (want_order B j))
        (sym (next_answers_keep_the_classes_before C.answer (eliminated C bs) next j (omega arith)))
        (turns-kept (cover_modulo C bs) (quotients_are_rowed_answers C bs basis) (kept_sources C bs) j (rank-before j (omega arith))
        (rank-before (suc j) l) 0
        (want_order (up_to_class A j) j) (wanted-sources (up_to_class A j) j) (turns j l))

    last : AreMet N (class_of A) 0 (want_order (up_to_class N (class_of A)) (class_of A))
    last =
        subst (λ (B : Answer). AreMet (eliminated C bs) (class_of C.answer) 0 (want_order B (class_of C.answer))) (sym next.restricts)
        (kept-turns C bs basis may rank-last rank-whole)

    pub next-turns : (j : ℕ) → j < class_of (eliminated C bs)
        → AreMet (eliminated C bs) j 0 (want_order (up_to_class (eliminated C bs) j) j)
    next-turns j l = elim (cases_lt j (class_of C.answer)) [
      | inl early ↦ before j early
      | inr late ↦
          let class = next.class in
          let same : class_of C.answer ≡ j = omega arith in
          subst (λ (i : ℕ). AreMet (eliminated C bs) i 0 (want_order (up_to_class (eliminated C bs) i) i)) same last
    ]

pub next_answers_take_turns : NextAnswersTakeTurns
next_answers_take_turns C bs basis may few some turns = next-turns C bs basis may few some turns
