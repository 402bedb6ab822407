use Rattle.std.proofs.Common.{◌≡◌, ◌-◌, ◌+◌, ◌%◌, ℕ, get_or, ap, ap₂, sym, ◌∙◌, arith}
use Rattle.fp_rows.specs.Row.{PrimeRow}
use Rattle.pc_presentation.specs.Tailed.{rowed_presentation}
use Rattle.pc_presentation.proofs.quotients.TailedLaws.{rowed_presentation-is}
use Rattle.pc_presentation.proofs.quotients.ElementConditions.{exponent-below_prime, prime-positive}
use Rattle.pc_presentation.proofs.quotients.Division.{division-next, quotient-ended}
use Rattle.pc_presentation.proofs.pushing.divide.Goals as goal

pub difference-times-requires-clause-sum : goal.difference-times-requires-clause-sum
difference-times-requires-clause-sum g c =
    let below = exponent-below_prime c.args.pcp.now c.loop-i.out c.loop-i.invariant.1.out_element ((c.loop-i.i + 1) - 1) in
    let is = c.exponent.ensures in
    let prime = c.prime-prime.ensures in
    omega arith

pub difference-times-requires-clause-residue : goal.difference-times-requires-clause-residue
difference-times-requires-clause-residue g c =
    let below = exponent-below_prime c.args.pcp.now c.loop-i.at c.loop-i.invariant.1.at_element ((c.loop-i.i + 1) - 1) in
    let is = c.exponent-in-loop-i.ensures in
    let prime = c.prime-prime.ensures in
    omega arith

pub loop-i-preserved : goal.loop-i-preserved
loop-i-preserved g c =
    let T = c.args.pcp.now in
    let rank = c.rank-i-end.ensures.rank in
    let test = c.loop-i-test.true in
    let residue = c.difference-times.ensures.residue in
    let prime = c.prime-prime.ensures in
    let is = c.requires.at.presentation in
    let positive = prime-positive c.args.pcp.now c.args.at.now c.requires.at in
    let meaning = g.met.C.Collect.reaches (rowed_presentation c.args.pcp.now) (rowed_presentation-is c.args.pcp.now is) in
    let sum : (get_or c.loop-i.at.state.exponents ((c.loop-i.i + 1) - 1) 0 + c.difference-times.result) % c.args.pcp.now.presentation.prime
    ≡ get_or c.loop-i.out.state.exponents ((c.loop-i.i + 1) - 1) 0 =
    ap₂ (λ (a m : ℕ). (a + c.difference-times.result) % m) (sym c.exponent-in-loop-i.ensures) (sym c.prime-prime.ensures)
    ∙ c.difference-times.ensures.difference ∙ c.exponent.ensures in (
      c.push_times.ensures.serves,
      division-next c.args.pcp.now (g.C.Collect.meaning (rowed_presentation c.args.pcp.now)) c.args.at.now c.args.out.now is meaning
          c.loop-i.at c.loop-i.out
          c.push_times.new.at c.set_exponent.new.self ((c.loop-i.i + 1) - 1) c.loop-i.i c.difference-times.result
          (omega arith) c.loop-i.invariant.1 (omega arith)
          (omega arith) sum c.push_times.ensures.pushed c.set_exponent.ensures,
    )

pub returns-clause-out : goal.returns-clause-out
returns-clause-out g c =
    let rank = c.rank-i-end.ensures.rank in
    let test = c.loop-i-test.false in
    let is = c.requires.at.presentation in
    let positive = prime-positive c.args.pcp.now c.args.at.now c.requires.at in
    let meaning = g.met.C.Collect.reaches (rowed_presentation c.args.pcp.now) (rowed_presentation-is c.args.pcp.now is) in
    (quotient-ended c.args.pcp.now (g.C.Collect.meaning (rowed_presentation c.args.pcp.now)) c.args.at.now c.args.out.now is meaning
    c.requires.out c.loop-i.at
    c.loop-i.out c.loop-i.i c.loop-i.invariant.1 (omega arith) c.add_scaled_tails.new.self c.loop-i.out.prime c.value.result
    c.tail.result.now.entries
    c.loop-i.invariant.1.out_element.prime (c.value.ensures.value ∙ c.prime-prime.ensures) (ap (λ (r : PrimeRow). r.entries) c.tail.ensures)
    c.add_scaled_tails.ensures).0

pub returns-clause-quotient : goal.returns-clause-quotient
returns-clause-quotient g c =
    let rank = c.rank-i-end.ensures.rank in
    let test = c.loop-i-test.false in
    let is = c.requires.at.presentation in
    let positive = prime-positive c.args.pcp.now c.args.at.now c.requires.at in
    let meaning = g.met.C.Collect.reaches (rowed_presentation c.args.pcp.now) (rowed_presentation-is c.args.pcp.now is) in
    (quotient-ended c.args.pcp.now (g.C.Collect.meaning (rowed_presentation c.args.pcp.now)) c.args.at.now c.args.out.now is meaning
    c.requires.out c.loop-i.at
    c.loop-i.out c.loop-i.i c.loop-i.invariant.1 (omega arith) c.add_scaled_tails.new.self c.loop-i.out.prime c.value.result
    c.tail.result.now.entries
    c.loop-i.invariant.1.out_element.prime (c.value.ensures.value ∙ c.prime-prime.ensures) (ap (λ (r : PrimeRow). r.entries) c.tail.ensures)
    c.add_scaled_tails.ensures).1
