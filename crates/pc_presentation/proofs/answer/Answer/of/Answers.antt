use Rattle.std.proofs.Common.{refl}
use Rattle.std.proofs.lemmas.Bool.{false≢true}
use Rattle.pc_presentation.specs.Parts.{words_of, AreParts}
use Rattle.pc_presentation.proofs.presentations.Conditions.{AreParts-tested, AreTested-parts}
use Rattle.pc_presentation.proofs.answer.Answer.of.Goals as goal

parts : (c : goal.Else-not-are_parts) → AreParts c.args.pcp c.args.names.items c.args.definitions.items (words_of c.args.images.items)
parts c =
    let tested = rw (c.deref.ensures.value, c.deref-2.ensures.value, c.deref-3.ensures.value) at c.if-not-are_parts.ensures.tested in
    AreParts-tested c.args.pcp c.args.names.items c.args.definitions.items (words_of c.args.images.items) c.are_parts.ensures.presentation
    (tested.0 refl)

pub returns-then-not-are_parts-clause-none : goal.returns-then-not-are_parts-clause-none
returns-then-not-are_parts-clause-none c a =
    let tested = rw (c.deref.ensures.value, c.deref-2.ensures.value, c.deref-3.ensures.value) at c.if-not-are_parts.ensures.tested in
    false≢true (tested.1 (AreTested-parts c.args.pcp c.args.names.items c.args.definitions.items (words_of c.args.images.items) a))

pub invariant_of-result : goal.invariant_of-result
invariant_of-result c = parts c

pub returns-clause-conditions : goal.returns-clause-conditions
returns-clause-conditions c = parts c
