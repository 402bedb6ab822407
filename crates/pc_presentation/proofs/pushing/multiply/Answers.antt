use Rattle.std.proofs.Common.{◌≡◌, ◌<◌, ◌-◌, ◌+◌, ℕ, get_or, length, ap, ◌∙◌, arith}
use Rattle.fp_rows.specs.Row.{PrimeRow}
use Rattle.pc_presentation.specs.Tailed.{rowed_presentation}
use Rattle.pc_presentation.proofs.quotients.PushesLeft.{spelled-left, row_added}
use Rattle.pc_presentation.proofs.pushing.multiply.Goals as goal

pub loop-i-preserved : goal.loop-i-preserved
loop-i-preserved g c =
    let count = c.requires.factor.state.exponents.count in
    let rank = c.rank-i-end.ensures.rank in
    let test = c.loop-i-test.true in
    let inside : c.loop-i.i < length c.args.factor.now.state.exponents = omega arith in
    let place : (c.loop-i.i + 1) - 1 ≡ c.loop-i.i = omega arith in (
      c.push_times.ensures.serves,
      c.push_times.ensures.element,
      spelled-left (g.C.Collect.meaning (rowed_presentation c.args.pcp.now)) c.loop-i.at c.push_times.new.at c.loop-i.i c.exponent.result
          c.args.factor.now.state.exponents inside
          (c.exponent.ensures ∙ ap (λ (k : ℕ). get_or c.args.factor.now.state.exponents k 0) place) c.push_times.ensures.pushed
          ∙ c.loop-i.invariant.2,
    )

pub returns-clause-element : goal.returns-clause-element
returns-clause-element g c =
    row_added c.args.pcp.now c.loop-i.at c.add_tails.new.self c.tail.result.now.entries c.args.factor.now.state.row c.loop-i.invariant.1
    c.requires.factor.state.row (ap (λ (r : PrimeRow). r.entries) c.tail.ensures) c.add_tails.ensures
