use Rattle.std.proofs.Common.{◌≡◌, pos, get_or, length, FitsSigned, w32, rules, ◌∙◌, subst, sym}
use Rattle.std.proofs.lemmas.Int.{to_z-of_z}
use Rattle.pc_presentation.specs.Tailed.{Element, rowed_presentation, IsElement, one_of}
use Rattle.pc_presentation.specs.ImageElements.{letter_value}
use Rattle.pq_base.proofs.words.LetterLaws.{IsLetter-get_or}
use Rattle.pc_presentation.proofs.quotients.ValueSteps.{value-element, letters-left}
use Rattle.pc_presentation.proofs.pushing.multiply_along.Goals as goal

pub value_of-requires-clause-letter : goal.value_of-requires-clause-letter
value_of-requires-clause-letter g c =
    let f : FitsSigned w32 (get_or c.args.word.now c.loop-k.k-index (pos 0)) = search rules in
    rw (to_z-of_z w32 (get_or c.args.word.now c.loop-k.k-index (pos 0)) f)
    (IsLetter-get_or (length c.args.images.now) c.args.word.now c.loop-k.k-index (pos 0) c.requires.letters c.loop-k-test.true)

pub multiply-requires-clause-factor : goal.multiply-requires-clause-factor
multiply-requires-clause-factor g c =
    let f : FitsSigned w32 (get_or c.args.word.now c.loop-k.k-index (pos 0)) = search rules in
    let value : c.value_of.result.now
    ≡ letter_value c.args.images.now c.args.inverses.now (one_of c.args.pcp.now) (get_or c.args.word.now c.loop-k.k-index (pos 0)) =
    rw (to_z-of_z w32 (get_or c.args.word.now c.loop-k.k-index (pos 0)) f) at (c.value_of.ensures (one_of c.args.pcp.now)) in
    subst (λ (e : Element). IsElement c.args.pcp.now e) (sym value)
    (value-element c.args.pcp.now (g.C.Collect.meaning (rowed_presentation c.args.pcp.now)) c.args.images.now c.args.inverses.now
    (get_or c.args.word.now c.loop-k.k-index (pos 0)) c.requires.images
    (IsLetter-get_or (length c.args.images.now) c.args.word.now c.loop-k.k-index (pos 0) c.requires.letters c.loop-k-test.true))

pub loop-k-preserved : goal.loop-k-preserved
loop-k-preserved g c =
    let f : FitsSigned w32 (get_or c.args.word.now c.loop-k.k-index (pos 0)) = search rules in
    let value : c.value_of.result.now
    ≡ letter_value c.args.images.now c.args.inverses.now (one_of c.args.pcp.now) (get_or c.args.word.now c.loop-k.k-index (pos 0)) =
    rw (to_z-of_z w32 (get_or c.args.word.now c.loop-k.k-index (pos 0)) f) at (c.value_of.ensures (one_of c.args.pcp.now)) in (
      c.multiply.ensures.serves,
      c.multiply.ensures.element,
      letters-left c.args.pcp.now (g.C.Collect.meaning (rowed_presentation c.args.pcp.now)) c.args.images.now c.args.inverses.now
          c.loop-k.at c.multiply.new.at
          c.value_of.result.now c.loop-k.k-index c.args.word.now (pos 0) c.loop-k-test.true
          (IsLetter-get_or (length c.args.images.now) c.args.word.now c.loop-k.k-index (pos 0) c.requires.letters c.loop-k-test.true) value
          c.multiply.ensures.product
          ∙ c.loop-k.invariant.2,
    )
