-- The entries of the dihedral answer of order eight define its generators in turn. Where its last weight is 3, they don't.
use Rattle.pq_base.proofs.vectors.Answers.{answer_of_order_eight}
use Rattle.pq_base.proofs.vectors.CanonicalAnswers.{order_eight_is_canonical, with_skipped_weight, skipped_weight_obeys_weights}
use Rattle.pq_base.proofs.vectors.CanonicalAnswers.{skipped_weight_is_not_canonical}
use Rattle.pq_base.specs.Canonical.{TakesTurns}

order_eight_takes_turns : TakesTurns answer_of_order_eight
order_eight_takes_turns = order_eight_is_canonical.turns

skipped_weight_takes_no_turns : TakesTurns with_skipped_weight → ⊥
skipped_weight_takes_no_turns h = skipped_weight_is_not_canonical (record { weights = skipped_weight_obeys_weights; turns = h })
