use Rattle.std.proofs.Common.{◌-◌, arith}
use Rattle.pc_presentation.proofs.quotients.ElementConditions.{exponent-below_prime}
use Rattle.stack_collector.proofs.FrameLaws.{copies-behind}
use Rattle.stack_collector.proofs.steps.add_copies.Goals as goal

pub overflow_sub-missing : goal.overflow_sub-missing
overflow_sub-missing c =
    let below = exponent-below_prime c.args.pcp.now c.args.at.now c.requires.element (c.args.generator - 1) in
    let is = c.exponent.ensures in
    let value = c.value-prime.ensures.value in
    let prime = c.prime.ensures in
    omega arith

pub overflow_sub-missing-else-copies-missing-2 : goal.overflow_sub-missing-else-copies-missing-2
overflow_sub-missing-else-copies-missing-2 c =
    let below = exponent-below_prime c.args.pcp.now c.args.at.now c.requires.element (c.args.generator - 1) in
    let is = c.exponent.ensures in
    let value = c.value-prime.ensures.value in
    let prime = c.prime.ensures in
    omega arith

pub add_below-requires-else-copies-missing-2-clause-below : goal.add_below-requires-else-copies-missing-2-clause-below
add_below-requires-else-copies-missing-2-clause-below c =
    let below = exponent-below_prime c.args.pcp.now c.args.at.now c.requires.element (c.args.generator - 1) in
    let is = c.exponent.ensures in
    let value = c.value-prime.ensures.value in
    let prime = c.prime.ensures in
    omega arith

pub overflow_sub-result : goal.overflow_sub-result
overflow_sub-result c =
    let below = exponent-below_prime c.args.pcp.now c.args.at.now c.requires.element (c.args.generator - 1) in
    let is = c.exponent.ensures in
    let value = c.value-prime.ensures.value in
    let prime = c.prime.ensures in
    let enough = c.if-copies-missing.false in
    omega arith

pub returns-then-is_empty-clause-added : goal.returns-then-is_empty-clause-added
returns-then-is_empty-clause-added c =
    let below = exponent-below_prime c.args.pcp.now c.args.at.now c.requires.element (c.args.generator - 1) in
    let is = c.exponent.ensures in
    let value = c.value-prime.ensures.value in
    let prime = c.prime.ensures in
    let enough = c.if-copies-missing.false in
    c.add_past.ensures.added c.args.copies (omega arith)

pub returns-else-copies-missing-2-clause-added : goal.returns-else-copies-missing-2-clause-added
returns-else-copies-missing-2-clause-added c =
    let enough = c.if-copies-missing.false in
    copies-behind c.args.pcp.now c.args.at.now c.add_below-else-copies-missing-2.new.at c.args.copies
    (c.value-prime.result - c.exponent.result - 1) (c.args.generator - 1)
    (omega arith) c.add_below-else-copies-missing-2.ensures.added
