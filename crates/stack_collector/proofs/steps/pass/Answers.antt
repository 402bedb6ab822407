use Rattle.std.proofs.Common.{ℕ, List, length, Option, ap, sym, ◌∙◌, subst}
use Rattle.pc_presentation.specs.declared.syllable.Syllable.{Syllable}
use Rattle.pc_presentation.specs.declared.relation.Relation.TheVariants.{Commutator}
use Rattle.pc_presentation.specs.Relation.{IsTail}
use Rattle.pc_presentation.specs.Pcp.{row_of}
use Rattle.pc_presentation.specs.Tailed.{with_state}
use Rattle.pc_presentation.specs.AddedRows.{add_row_times}
use Rattle.stack_collector.proofs.Passes.{passes-begun, relation-passed}
use Rattle.stack_collector.proofs.steps.pass.Goals as goal

pub add_tail_times-requires-clause-tail : goal.add_tail_times-requires-clause-tail
add_tail_times-requires-clause-tail c =
    let f = c.args.frame.now in
    subst (λ (x : Option ℕ). IsTail c.args.pcp.now.tails x) (sym c.tail.ensures)
    (c.requires.element.presentation.tails (Commutator f.next f.generator)
    (relation-passed c.args.pcp.now f c.requires.frame c.requires.some))

pub returns-clause-within : goal.returns-clause-within
returns-clause-within c =
    passes-begun c.args.pcp.now c.args.frame.now c.requires.frame c.args.at.now c.add_tail_times.new.at c.add_tail_times.ensures.element
    c.together-copies.result (length c.word-syllables.result.now) c.together-copies.ensures.some c.together-copies.ensures.within
    c.requires.none_before c.requires.word_ended
    (ap (λ (w : List Syllable). length w) c.word-syllables.ensures) c.together-copies.ensures.one_or_empty
    (c.add_tail_times.ensures.added
    ∙ ap (λ (x : Option ℕ). with_state c.args.at.now
    (add_row_times c.args.pcp.now.presentation.prime (row_of c.args.pcp.now.tails x) c.together-copies.result c.args.at.now.state))
    c.tail.ensures)
    c.requires.element.presentation
