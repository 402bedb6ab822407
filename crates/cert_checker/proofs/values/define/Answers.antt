use Rattle.std.proofs.Common.{◌∙◌}
use Rattle.cert_checker.proofs.words.DefinitionWords.{image-stands, commutator-stands, power-stands}
use Rattle.cert_checker.proofs.values.define.Goals as goal

pub returns-in-Image-clause-value : goal.returns-in-Image-clause-value
returns-in-Image-clause-value c =
    image-stands c.args.pcp.now c.args.pcp.now.presentation.prime c.args.given.now c.args.elements.now c.args.definition
    c.requires.numbers
    c.copy_from.new.self c.in-Image.i c.in-Image.is c.index-given-i.result c.requires.given c.index-given-i.is c.copy_from.ensures

pub returns-in-Commutator-clause-value : goal.returns-in-Commutator-clause-value
returns-in-Commutator-clause-value c =
    commutator-stands c.args.pcp.now c.args.pcp.now.presentation.prime c.args.given.now c.args.elements.now c.args.definition
    c.requires.numbers
    c.commutator.new.out c.in-Commutator.j c.in-Commutator.i c.in-Commutator.is c.index-elements-j.result c.index-elements-i.result
    c.index-elements-j.is c.index-elements-i.is c.commutator.ensures.element c.commutator.ensures.joined

pub returns-in-Power-clause-value : goal.returns-in-Power-clause-value
returns-in-Power-clause-value c =
    power-stands c.args.pcp.now c.args.pcp.now.presentation.prime c.args.given.now c.args.elements.now c.args.definition
    c.requires.numbers
    c.power.new.out c.in-Power.j c.value-prime.result c.in-Power.is c.index-elements-j-in-Power.result c.index-elements-j-in-Power.is
    (c.value-prime.ensures.value ∙ c.prime.ensures) c.power.ensures.element c.power.ensures.joined
