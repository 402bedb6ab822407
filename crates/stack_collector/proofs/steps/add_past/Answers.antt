use Rattle.std.proofs.Common.{◌-◌, ℕ, Option, ap, refl, sym, ◌∙◌, subst}
use Rattle.pc_presentation.specs.declared.relation.Relation.TheVariants.{Power}
use Rattle.pc_presentation.specs.Relation.{IsTail}
use Rattle.pc_presentation.specs.Pcp.{row_of, side_word}
use Rattle.pc_presentation.specs.Collection.{add_row}
use Rattle.pc_presentation.specs.Tailed.{Element, IsElement, with_state}
use Rattle.pc_presentation.proofs.quotients.ElementConditions.{set-element}
use Rattle.pc_presentation.proofs.commuting.EmptySides.{side-empty}
use Rattle.pc_presentation.proofs.commuting.Shortcuts.{copies-wrapped}
use Rattle.stack_collector.proofs.steps.add_past.Goals as goal

pub add_tail-requires-clause-element : goal.add_tail-requires-clause-element
add_tail-requires-clause-element c =
    subst (λ (e : Element). IsElement c.args.pcp.now e) (sym c.set_exponent.ensures)
    (set-element c.args.pcp.now c.args.at.now c.requires.element (c.args.generator - 1) c.args.rest c.requires.rest)

pub add_tail-requires-clause-tail : goal.add_tail-requires-clause-tail
add_tail-requires-clause-tail c =
    subst (λ (x : Option ℕ). IsTail c.args.pcp.now.tails x) (sym c.tail.ensures)
    (c.requires.element.presentation.tails (Power c.args.generator) (c.requires.from_one, c.requires.in_range))

pub returns-clause-added : goal.returns-clause-added
returns-clause-added c = λ n total.
    let T = c.args.pcp.now in
    let zeros = side-empty T c.requires.element.presentation (Power c.args.generator) (side_word T.presentation (Power c.args.generator))
    (c.requires.from_one, c.requires.in_range) refl c.requires.empty in
    copies-wrapped T c.args.at.now c.requires.element c.args.generator n c.requires.from_one c.requires.in_range c.args.rest total
    c.requires.rest
    c.set_exponent.new.self c.add_tail.new.at c.requires.commutes zeros c.set_exponent.ensures
    (c.add_tail.ensures.added
    ∙ ap (λ (x : Option ℕ). with_state c.set_exponent.new.self
    (add_row c.args.pcp.now.presentation.prime (row_of c.args.pcp.now.tails x) c.set_exponent.new.self.state)) c.tail.ensures)
