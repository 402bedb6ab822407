use Rattle.std.proofs.Common.{rules, ◌≡◌, ◌<◌, ◌+◌, ◌-◌, ℕ, suc, Option, get_or, ap, sym, ◌∙◌, subst, arith}
use Rattle.pc_presentation.specs.declared.relation.Relation.TheVariants.{Power}
use Rattle.pc_presentation.specs.Relation.{IsTail}
use Rattle.pc_presentation.specs.Pcp.{row_of}
use Rattle.pc_presentation.specs.Collection.{add_row}
use Rattle.pc_presentation.specs.Tailed.{Element, IsElement, with_state}
use Rattle.pc_presentation.proofs.quotients.ElementConditions.{exponent-below_prime, prime-positive, set-element}
use Rattle.stack_collector.proofs.Begun.{raised-past}
use Rattle.stack_collector.proofs.steps.raise.Goals as goal

pub overflow_add-exponent : goal.overflow_add-exponent
overflow_add-exponent c =
    let below = exponent-below_prime c.args.pcp.now c.args.at.now c.requires.element (c.args.generator - 1) in
    let is = c.exponent-exponent.ensures in
    let offered = c.requires.element.presentation.prime in
    let bound : c.exponent-exponent.result + 1 < 256 = omega arith in
    search rules

pub add_tail-requires-clause-element : goal.add_tail-requires-clause-element
add_tail-requires-clause-element c =
    let positive = prime-positive c.args.pcp.now c.args.at.now c.requires.element in
    subst (λ (e : Element). IsElement c.args.pcp.now e) (sym c.set_exponent.ensures)
    (set-element c.args.pcp.now c.args.at.now c.requires.element (c.args.generator - 1) 0 (omega arith))

pub add_tail-requires-clause-tail : goal.add_tail-requires-clause-tail
add_tail-requires-clause-tail c =
    subst (λ (x : Option ℕ). IsTail c.args.pcp.now.tails x) (sym c.tail.ensures)
    (c.requires.element.presentation.tails (Power c.args.generator) (c.requires.from_one, c.requires.in_range))

pub set_exponent-requires-else-exponent-value-clause-residue : goal.set_exponent-requires-else-exponent-value-clause-residue
set_exponent-requires-else-exponent-value-clause-residue c =
    let below = exponent-below_prime c.args.pcp.now c.args.at.now c.requires.element (c.args.generator - 1) in
    let is = c.exponent-exponent.ensures in
    let value = c.value.ensures.value in
    let prime = c.prime.ensures in
    let own = c.requires.element.prime in
    let other = c.if-exponent-value.false in
    omega arith

pub returns-then-exponent-value-clause-raised : goal.returns-then-exponent-value-clause-raised
returns-then-exponent-value-clause-raised c =
    let is = c.exponent-exponent.ensures in
    let value = c.value.ensures.value in
    let prime = c.prime.ensures in
    let same = c.if-exponent-value.true in
    let past : suc (get_or c.args.at.now.state.exponents (c.args.generator - 1) 0) ≡ c.args.pcp.now.presentation.prime = omega arith in
    raised-past c.args.pcp.now c.args.at.now c.set_exponent.new.self c.add_tail.new.at c.args.generator c.requires.element
    c.requires.from_one
    c.requires.in_range past c.set_exponent.ensures
    (c.add_tail.ensures.added
    ∙ ap (λ (x : Option ℕ). with_state c.set_exponent.new.self
    (add_row c.args.pcp.now.presentation.prime (row_of c.args.pcp.now.tails x) c.set_exponent.new.self.state)) c.tail.ensures)

pub returns-else-exponent-value-clause-element : goal.returns-else-exponent-value-clause-element
returns-else-exponent-value-clause-element c =
    let below = exponent-below_prime c.args.pcp.now c.args.at.now c.requires.element (c.args.generator - 1) in
    let is = c.exponent-exponent.ensures in
    let value = c.value.ensures.value in
    let prime = c.prime.ensures in
    let other = c.if-exponent-value.false in
    subst (λ (e : Element). IsElement c.args.pcp.now e) (sym c.set_exponent-else-exponent-value.ensures)
    (set-element c.args.pcp.now c.args.at.now c.requires.element (c.args.generator - 1) (c.exponent-exponent.result + 1) (omega arith))
