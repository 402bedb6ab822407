use Rattle.cert_checker.proofs.words.DefinitionWords.{multiplied-stands}
use Rattle.cert_checker.proofs.values.multiply_by.Goals as goal

pub returns-clause-value : goal.returns-clause-value
returns-clause-value c =
    multiplied-stands c.args.pcp.now c.args.elements.now c.args.syllable.generator c.args.syllable.exponent
    c.index-elements-syllable.result
    c.args.value.now c.power.new.out c.product.new.out c.copy_from.new.self c.requires.from_one c.requires.in_range
    c.index-elements-syllable.is
    c.power.ensures.joined c.product.ensures.joined c.product.ensures.element c.copy_from.ensures
