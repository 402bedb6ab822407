use Rattle.std.proofs.Common.{ℕ, List, length, refl, ap, sym, ◌∙◌, subst}
use Rattle.pq_base.specs.SignedWord.{HasLetters}
use Rattle.pc_presentation.specs.Pcp.{TailedPresentation}
use Rattle.pc_presentation.specs.Tailed.{Element, rowed_presentation}
use Rattle.pc_presentation.specs.Definition.{definition_of}
use Rattle.p_cover.specs.Covers.{cover_presentation}
use Rattle.p_cover.proofs.ImageStates.{lifted-count}
use Rattle.endo_lift.proofs.SpelledValues.{image-letters, commutator-carried, power-carried, image-carried}
use Rattle.endo_lift.proofs.spelled.left_value.Goals as goal

pub evaluate-requires-clause-letters : goal.evaluate-requires-clause-letters
evaluate-requires-clause-letters g c =
    let C = c.args.cover.now in
    let push = g.C.Collect.meaning (rowed_presentation (cover_presentation C)) in
    let count = lifted-count C c.pcp-pcp.ensures.cover push c.args.images.now c.requires.images in
    subst (λ (n : ℕ). HasLetters n c.letters.result.now) (sym (ap (λ (es : List Element). length es) c.elements.ensures ∙ count))
    (image-letters (length C.answer.names) c.args.endo.now (definition_of c.args.source) c.in-Image.i (length c.args.elements.now)
    c.index-endo-i.result c.letters.result.now c.requires.letters (ap definition_of c.in-Image.is) c.requires.source c.index-endo-i.is
    c.letters.ensures.value)

pub returns-in-Commutator-clause-value : goal.returns-in-Commutator-clause-value
returns-in-Commutator-clause-value g c =
    commutator-carried c.args.cover.now c.args.endo.now c.args.elements.now c.requires.spelled c.pcp-pcp.result.now
    c.pcp-pcp.ensures.presentation (length c.args.endo.now) (definition_of c.args.source) c.requires.source c.commutator.new.out
    c.commutator.ensures.element c.in-Commutator.j c.in-Commutator.i c.index-elements-j.result c.index-elements-i.result
    (ap definition_of c.in-Commutator.is) c.index-elements-j.is c.index-elements-i.is c.commutator.ensures.joined

pub returns-in-Power-clause-value : goal.returns-in-Power-clause-value
returns-in-Power-clause-value g c =
    power-carried c.args.cover.now c.args.endo.now c.args.elements.now c.requires.spelled c.pcp-pcp.result.now
    c.pcp-pcp.ensures.presentation (length c.args.endo.now) (definition_of c.args.source) c.requires.source c.power.new.out
    c.power.ensures.element c.in-Power.j c.from.result c.index-elements-j-in-Power.result (ap definition_of c.in-Power.is)
    (c.from.ensures ∙ c.value.ensures.value ∙ c.prime.ensures
    ∙ ap (λ (T : TailedPresentation). T.presentation.prime) c.pcp-pcp.ensures.presentation)
    c.index-elements-j-in-Power.is c.power.ensures.joined

pub returns-in-Image-clause-value : goal.returns-in-Image-clause-value
returns-in-Image-clause-value g c =
    let C = c.args.cover.now in
    let push = g.C.Collect.meaning (rowed_presentation (cover_presentation C)) in
    image-carried C c.args.endo.now c.args.elements.now c.requires.spelled c.pcp-pcp.result.now c.pcp-pcp.ensures.presentation
    (length c.args.endo.now) (definition_of c.args.source) c.requires.source c.evaluate.new.out c.evaluate.ensures.element
    c.pcp-pcp.ensures.cover push c.args.images.now c.requires.images refl c.in-Image.i c.index-endo-i.result c.letters.result.now
    c.elements.result.now (ap definition_of c.in-Image.is) c.index-endo-i.is c.letters.ensures.value c.elements.ensures
    c.evaluate.ensures.joined
