use Rattle.std.proofs.Common.{◌≤◌, length, ap, sym, subst}
use Rattle.pq_base.specs.Answer.{Answer}
use Rattle.pq_base.specs.Answer.Definition.{image}
use Rattle.pq_base.specs.EntryWords.{IsSourceOf}
use Rattle.pc_presentation.specs.declared.relation.Relation.TheVariants.{Power, Commutator}
use Rattle.pc_presentation.specs.Pcp.{TailedPresentation}
use Rattle.pc_presentation.specs.declared.definition.Definition.{Definition}
use Rattle.pc_presentation.specs.Definition.{definition_of}
use Rattle.p_cover.proofs.SourceNumbers.{source-by_name}
use Rattle.endo_lift.proofs.RightSides.{IsRead, relation-read, image-read}
use Rattle.endo_lift.proofs.entry.right_side.Goals as goal

pub image-requires-clause-in_range : goal.image-requires-clause-in_range
image-requires-clause-in_range c =
    let A = c.args.cover.now.answer in
    let source : IsSourceOf A (image c.in-Image.i) = subst (λ (x : Definition). IsSourceOf A (definition_of x)) c.in-Image.is c.requires in
    let numbers = source-by_name A c.pcp-pcp.ensures.cover.answer (image c.in-Image.i) source in
    subst (λ (B : Answer). c.in-Image.i ≤ length B.names) (sym c.answer.ensures) numbers.1

-- what is read in each case
commutator_read : (c : goal.After-word) → IsRead c.args.cover.now.answer (definition_of c.args.source) c.word.result.now
commutator_read c =
    relation-read c.args.cover.now.answer c.pcp-pcp.ensures.cover.answer (Commutator c.in-Commutator.j c.in-Commutator.i)
    (definition_of c.args.source) c.pcp-pcp.result.now.presentation c.word.result.now (ap definition_of (sym c.in-Commutator.is)) c.requires
    (ap (λ (T : TailedPresentation). T.presentation) c.pcp-pcp.ensures.presentation) c.word.ensures

power_read : (c : goal.After-word-in-Power) → IsRead c.args.cover.now.answer (definition_of c.args.source) c.word-in-Power.result.now
power_read c =
    relation-read c.args.cover.now.answer c.pcp-pcp.ensures.cover.answer (Power c.in-Power.j)
    (definition_of c.args.source) c.pcp-pcp.result.now.presentation c.word-in-Power.result.now
    (ap definition_of (sym c.in-Power.is)) c.requires
    (ap (λ (T : TailedPresentation). T.presentation) c.pcp-pcp.ensures.presentation) c.word-in-Power.ensures

image_read : (c : goal.After-image) → IsRead c.args.cover.now.answer (definition_of c.args.source) c.image.result.now
image_read c =
    image-read c.args.cover.now.answer c.pcp-pcp.ensures.cover.answer c.in-Image.i (definition_of c.args.source) c.answer.result.now.images
    c.image.result.now (ap definition_of (sym c.in-Image.is)) c.requires (ap (λ (B : Answer). B.images) c.answer.ensures) c.image.ensures

pub returns-in-Commutator-clause-side : goal.returns-in-Commutator-clause-side
returns-in-Commutator-clause-side c = (commutator_read c).side

pub returns-in-Commutator-clause-generators : goal.returns-in-Commutator-clause-generators
returns-in-Commutator-clause-generators c = (commutator_read c).generators

pub returns-in-Power-clause-side : goal.returns-in-Power-clause-side
returns-in-Power-clause-side c = (power_read c).side

pub returns-in-Power-clause-generators : goal.returns-in-Power-clause-generators
returns-in-Power-clause-generators c = (power_read c).generators

pub returns-in-Image-clause-side : goal.returns-in-Image-clause-side
returns-in-Image-clause-side c = (image_read c).side

pub returns-in-Image-clause-generators : goal.returns-in-Image-clause-generators
returns-in-Image-clause-generators c = (image_read c).generators
