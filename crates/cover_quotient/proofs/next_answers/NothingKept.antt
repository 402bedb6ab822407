-- Where there is no tail the next answer is the answer itself.
use Rattle.std.proofs.Common.{◌≡◌, ℕ, suc, ◌<◌, List, ◌++◌, length, replicate, ap, sym, ◌∙◌, subst, arith, length-append}
use Rattle.std.proofs.lemmas.List.{append-nil, length-replicate}
use Rattle.pq_base.specs.Answer.{Definition as Source, AreWeights, class_of, last_or_zero}
use Rattle.pc_presentation.proofs.rows.FlatLaws.{flat-presentation}
use Rattle.p_cover.specs.RowedAnswer.{RowedAnswer, IsRowedAnswer, rowed}
use Rattle.cover_quotient.specs.NextAnswer.{next_answer}
use Rattle.cover_quotient.proofs.next_answers.NextWords.{normal-followed_by}
use Rattle.pq_base.proofs.Restrictions.{HasExactLists, restriction-whole}
use Rattle.cover_quotient.proofs.next_answers.NextClass.{next-restricts}

module _ (Y : RowedAnswer) (is : IsRowedAnswer Y) (positive : 0 < Y.answer.presentation.prime) (sources : List Source)
    (count : length sources ≡ Y.width) (none : Y.width ≡ 0) where
  same_weights : (next_answer Y sources).weights ≡ Y.answer.weights
  same_weights = ap (λ (q : ℕ). Y.answer.weights ++ replicate q (suc (class_of Y.answer))) none ∙ append-nil Y.answer.weights

  exact : HasExactLists (next_answer Y sources)
  exact = record {
    presentation = flat-presentation (rowed Y) is.presentation positive;
    weight_count =
        simp length-append (let c = is.answer.weight_count in let d = length-replicate Y.width (suc (class_of Y.answer)) in omega arith);
    weights = subst (λ (ws : List ℕ). AreWeights 1 ws) (sym same_weights) is.answer.weights;
    images =
        normal-followed_by Y.answer.presentation.prime Y.answer.presentation.rank Y.width Y.answer.images Y.image_rows is.answer.images
        is.image_rows;
    definition_count = simp length-append (let c = is.answer.definition_count in omega arith);
  }

  pub next-unchanged : next_answer Y sources ≡ Y.answer
  next-unchanged =
      let class : class_of (next_answer Y sources) ≡ class_of Y.answer = ap last_or_zero same_weights in
      sym (restriction-whole (next_answer Y sources) exact (class_of Y.answer) (omega arith)) ∙ next-restricts Y is sources
