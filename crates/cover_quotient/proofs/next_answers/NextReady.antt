-- The next answer is ready: its new generators have the next weight, their relations have empty words, and the others are
-- the answer that was covered.
use Rattle.std.proofs.Common.{◌≡◌, ℕ, zero, suc, ◌+◌, ◌-◌, ◌<◌, ◌≤◌, List, [], ◌∷◌, get_or, length, inl, inr, ap, sym, ◌∙◌, subst, arith}
use Rattle.std.proofs.lemmas.Bool.{cases_lt}
use Rattle.pq_base.specs.Presentation.{power_word, commutator_word}
use Rattle.pq_base.specs.Joined.{IsConsistent}
use Rattle.pq_base.specs.Series.{HasClass}
use Rattle.pq_base.specs.Answer.{Answer, Definition as Source, AreWeights, last_or_zero, class_of, weight_at}
use Rattle.pq_base.specs.Canonical.{up_to_class}
use Rattle.pc_presentation.specs.Rowed.{flat}
use Rattle.p_cover.specs.RowedAnswer.{RowedAnswer, IsRowedAnswer, rowed}
use Rattle.pc_presentation.proofs.rows.FlatWords.{power_word-tail, commutator_word-tail}
use Rattle.cover_quotient.specs.AnswerLaws.{IsNextAnswer}
use Rattle.cover_quotient.specs.Levels.{IsReady}
use Rattle.cover_quotient.specs.NextAnswer.{next_answer, kept_sources, cover_modulo}
use Rattle.cover_quotient.specs.KeptTailLaws.{NextAnswersAreReady}
use Rattle.pq_base.proofs.LastWeights.{weights-within_class, weight-before, weight-new}
use Rattle.cover_quotient.proofs.next_answers.AnswerLaws.{quotients_are_rowed_answers, next_answers_are_answers}
use Rattle.cover_quotient.proofs.next_answers.AnswerLaws.{next_answers_are_consistent}

module _ (Y : RowedAnswer) (is : IsRowedAnswer Y) (sources : List Source) where
  abbrev n : ℕ
  n = Y.answer.presentation.rank

  abbrev N : Answer
  N = next_answer Y sources

  abbrev c : ℕ
  c = class_of Y.answer

  new-weight : (t : ℕ) → t < Y.width → weight_at N (n + t) ≡ suc c
  new-weight t l =
      ap (λ (m : ℕ). weight_at (next_answer Y sources) (m + t)) (sym is.answer.weight_count)
      ∙ weight-new Y.answer.weights (suc (class_of Y.answer)) Y.width t l

  old-weight : (k : ℕ) → k < n → weight_at N k ≤ c
  old-weight k l =
      let count = is.answer.weight_count in
      let same = weight-before Y.answer.weights (suc (class_of Y.answer)) Y.width k (omega arith) in
      let most = weights-within_class Y.answer is.answer k l in
      omega arith

  -- what holds of the new generators holds of those of the next weight
  of-next_weight : (P : ℕ → Type 0) → ((t : ℕ) → t < Y.width → P (n + t)) → (l : ℕ) → l < n + Y.width → weight_at N l ≡ suc c → P l
  of-next_weight P h l b w = elim (cases_lt l n) [
    | inl old ↦ let low = old-weight l old in absurd (omega arith)
    | inr new ↦
        let t : ℕ = l - Y.answer.presentation.rank in
        let place : n + t ≡ l = omega arith in
        subst P place (h t (omega arith))
  ]

  next-weights : (k : ℕ) → k < n + Y.width → weight_at N k ≤ suc c
  next-weights k l = elim (cases_lt k n) [
    | inl old ↦ let low = old-weight k old in omega arith
    | inr new ↦
        let t : ℕ = k - Y.answer.presentation.rank in
        let place : n + t ≡ k = omega arith in
        let same = new-weight t (omega arith) in
        subst (λ (m : ℕ). weight_at (next_answer Y sources) m ≤ suc (class_of Y.answer)) place (omega arith)
  ]

  pub next-ready : IsConsistent (flat (rowed Y)) → up_to_class (next_answer Y sources) (class_of Y.answer) ≡ Y.answer
      → HasClass Y.answer.presentation (class_of Y.answer) → IsReady (next_answer Y sources) (suc (class_of Y.answer))
  next-ready consistent restricts class = record {
    consistent = consistent;
    weights = next-weights;
    powers = of-next_weight (λ (l : ℕ). power_word (flat (rowed Y)) l ≡ []) (power_word-tail (rowed Y) is.presentation);
    commutators = λ l i b before w.
        of-next_weight (λ (m : ℕ). i < m → commutator_word (flat (rowed Y)) m i ≡ [])
        (λ t h first. commutator_word-tail (rowed Y) is.presentation t i h first) l b w before;
    below =
        let one_less : class_of Y.answer ≡ suc (class_of Y.answer) - 1 = omega arith in
        subst (λ (j : ℕ). HasClass (up_to_class (next_answer Y sources) j).presentation j) one_less
        (subst (λ (A : Answer). HasClass A.presentation (class_of Y.answer)) (sym restricts) class);
  }

pub next_answers_are_ready : NextAnswersAreReady
next_answers_are_ready C bs push h may some few class =
    let next : IsNextAnswer C.answer (next_answer (cover_modulo C bs) (kept_sources C bs)) =
    next_answers_are_answers C bs h.over may few some in
    next-ready (cover_modulo C bs) (quotients_are_rowed_answers C bs h.over) (kept_sources C bs) (next_answers_are_consistent C bs push h)
    next.restricts class
