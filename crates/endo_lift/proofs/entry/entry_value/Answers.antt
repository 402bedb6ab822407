use Rattle.std.proofs.Common.{ℤ, List}
use Rattle.pq_base.specs.SignedWord.{inv, sub}
use Rattle.pq_base.specs.Answer.{spelled}
use Rattle.pq_base.specs.EntryWords.{spelling_words}
use Rattle.pc_presentation.specs.Syllable.{letters_of}
use Rattle.pc_presentation.specs.Definition.{definition_of}
use Rattle.endo_lift.proofs.ValueLaws.{value-inverse, value-product}
use Rattle.endo_lift.proofs.SpelledValues.{entry-carried}
use Rattle.endo_lift.proofs.entry.entry_value.Goals as goal

pub returns-clause-value : goal.returns-clause-value
returns-clause-value g c =
    let C = c.args.cover.now in
    let A = c.args.cover.now.answer in
    let T = c.pcp-pcp.result.now in
    let t = c.pcp-pcp.ensures.presentation in
    let endo = c.args.endo.now in
    let r : List ℤ = sub (sub (letters_of c.right_side.result.now) (spelling_words A)) endo in
    let l : List ℤ = sub (spelled A.presentation.prime (spelling_words A) (definition_of c.args.source)) endo in
    let right = value-inverse C T t r c.right_value.new.room.value c.inverse.new.out c.inverse.ensures.element c.inverse.ensures.joined
    c.right_value.ensures.value in
    entry-carried C endo (definition_of c.args.source) c.right_side.result.now c.product.new.out c.right_side.ensures.side
    (value-product C T t (inv r) l c.inverse.new.out c.left_value.new.out c.product.new.out c.product.ensures.element
    c.product.ensures.joined right c.left_value.ensures.value)
