use Rattle.pc_presentation.specs.Syllable.{syllable}
use Rattle.cert_checker.specs.MapWords.{words_of}
use Rattle.cert_checker.proofs.words.DefinitionWords.{cleared-stands}
use Rattle.cert_checker.proofs.words.DefinedWords.{value-more}
use Rattle.cert_checker.proofs.values.multiply_out.Goals as goal

pub loop-syllable-init : goal.loop-syllable-init
loop-syllable-init c = (
  c.requires.scratch,
  c.requires.factor,
  c.requires.next,
  cleared-stands c.args.pcp.now c.args.value.now c.clear.new.self
      c.requires.value c.clear.ensures,
)

pub loop-syllable-preserved : goal.loop-syllable-preserved
loop-syllable-preserved c =
    let T = c.args.pcp.now in
    let w = c.args.word.now in
    let i = c.loop-syllable.syllable-index in
    let from_one = (c.requires.generators i (syllable 0 0) c.loop-syllable-test.true).0 in (
      c.multiply_by.ensures.scratch,
      c.multiply_by.ensures.factor,
      c.multiply_by.ensures.next,
      value-more T w i (syllable 0 0) (words_of T c.args.elements.now) c.loop-syllable.value c.multiply_by.new.value
          c.loop-syllable-test.true from_one
          c.loop-syllable.invariant.3 c.multiply_by.ensures.value,
    )
