-- A push of a generator goes on with later ones alone. What is left to push decides.
use Rattle.std.proofs.Common.{◌≡◌, ◌-◌, ◌+◌, ◌*◌, replicate, drop, take}
use Rattle.pc_presentation.specs.Relation.{side_start}
use Rattle.pc_presentation.specs.Pcp.{side_word}
use Rattle.pc_presentation.specs.Collection.{spelled, plain_push}
use Rattle.pc_presentation.specs.PushSteps.{passed}
use Rattle.pc_presentation.specs.Commuting.{AreBetween}
use Rattle.pc_presentation.specs.Tailed.{rowed_presentation, IsElement, places_of}
use Rattle.pc_presentation.proofs.quotients.PushesLeft.{after}
use Rattle.plain_collector.proofs.steps.+plain.Given as goal

abbrev pub decreases-pass : goal.decreases-pass
decreases-pass l = 10 * (101 - l.j) + 9

abbrev pub decreases-push_times : goal.decreases-push_times
decreases-push_times l = 10 * (101 - l.generator) + 8

abbrev pub decreases-push_past_prime : goal.decreases-push_past_prime
decreases-push_past_prime l = 10 * (101 - l.generator) + 7

abbrev pub decreases-push_copies : goal.decreases-push_copies
decreases-push_copies l = 10 * (101 - l.generator) + 6

abbrev pub decreases-push_each : goal.decreases-push_each
decreases-push_each l = 10 * (101 - l.generator) + 5

abbrev pub decreases-pass_each : goal.decreases-pass_each
decreases-pass_each l = 10 * (101 - l.j) + 5

abbrev pub decreases-push : goal.decreases-push
decreases-push l = 10 * (101 - l.generator) + 4

abbrev pub decreases-raise : goal.decreases-raise
decreases-raise l = 10 * (101 - l.generator) + 3

abbrev pub decreases-carry : goal.decreases-carry
decreases-carry l = 10 * (101 - l.generator) + 2

abbrev pub decreases-push_side : goal.decreases-push_side
decreases-push_side l = 10 * (101 - side_start l.relation) + 1

abbrev pub invariant-pass_each-loop : goal.invariant-pass_each-loop
invariant-pass_each-loop l =
    IsElement l.pcp l.at
    × (after (passed (rowed_presentation l.pcp) (l.i - 1)) l.at (replicate (l.times - l.counter) (l.j - 1))
    ≡ after (passed (rowed_presentation l.pcp) (l.i - 1)) l.fn.at (replicate l.times (l.j - 1)))

abbrev pub invariant-push-loop-j : goal.invariant-push-loop-j
invariant-push-loop-j l =
    IsElement l.pcp l.at
    × AreBetween l.generator (l.commuting - 1) l.fn.at.state.exponents l.later
    × (after (passed (rowed_presentation l.pcp) (l.generator - 1)) l.at
    (spelled l.j (drop l.j (take (l.commuting - 1) l.fn.at.state.exponents)))
    ≡ after (passed (rowed_presentation l.pcp) (l.generator - 1)) l.initial.at
    (spelled l.generator (drop l.generator (take (l.commuting - 1) l.fn.at.state.exponents))))

abbrev pub invariant-push_side-loop-s : goal.invariant-push_side-loop-s
invariant-push_side-loop-s l =
    IsElement l.pcp l.at
    × (l.s-items ≡ side_word l.pcp.presentation l.relation)
    × (after (plain_push (rowed_presentation l.pcp)) l.at (places_of (drop l.s-index l.s-items))
    ≡ after (plain_push (rowed_presentation l.pcp)) l.fn.at (places_of l.s-items))

abbrev pub invariant-push_each-loop : goal.invariant-push_each-loop
invariant-push_each-loop l =
    IsElement l.pcp l.at
    × (after (plain_push (rowed_presentation l.pcp)) l.at (replicate (l.times - l.counter) (l.generator - 1))
    ≡ after (plain_push (rowed_presentation l.pcp)) l.fn.at (replicate l.times (l.generator - 1)))
