use Rattle.std.proofs.Common.{◌≡◌, ◌<◌, ◌+◌, ◌-◌, ℕ, List, get_or, ap₂, ◌∙◌, arith}
use Rattle.tails_by_weight.proofs.RoomLaws.{count-stopped, count-at_least}
use Rattle.tails_by_weight.proofs.room.count_up_to.Goals as goal

pub returns-then-weight : goal.returns-then-weight
returns-then-weight c =
    let is = c.pcp-pcp.ensures.answer in
    let long = is.weight_count in
    let place : c.loop-k.k + 1 - 1 ≡ c.loop-k.k = omega arith in
    let same = c.weight.ensures ∙ ap₂ (λ (ws : List ℕ) (k : ℕ). get_or ws k 0) c.pcp-pcp.ensures.weights place in
    let great : c.args.weight < get_or c.args.answer.now.weights c.loop-k.k 0 = omega arith in
    let count = count-stopped 1 c.args.weight c.args.answer.now.weights is.weights c.loop-k.k (omega arith) c.loop-k.invariant great in
    omega arith

pub returns : goal.returns
returns c =
    let is = c.pcp-pcp.ensures.answer in
    let long = is.weight_count in
    let all =
    count-at_least 1 c.args.weight c.args.answer.now.weights is.weights c.args.end (omega arith)
    (λ i l. c.loop-k.invariant i (omega arith)) in
    omega arith
