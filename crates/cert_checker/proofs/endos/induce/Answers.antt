use Rattle.std.proofs.Common.{◌↔◌, ◌∙◌, IsTrue, length, ap, subst}
use Rattle.std.specs.List.{All as Each}
use Rattle.pq_base.specs.Answer.{Answer}
use Rattle.pc_presentation.specs.Collection.{plain_push}
use Rattle.pc_presentation.specs.Tailed.{Element, rowed_presentation}
use Rattle.p_cover.specs.Covers.{CoverOf, all_sources, cover_presentation}
use Rattle.p_cover.proofs.PartLaws.{no_entries}
use Rattle.p_cover.proofs.ImageStates.{lifted-count}
use Rattle.derivation_log.specs.PlainValues.{InducesPlainly}
use Rattle.cert_checker.proofs.endos.induce.Goals as goal

pub cover_of-requires : goal.cover_of-requires
cover_of-requires c = no_entries (all_sources c.args.answer.now)

pub induce_each-requires-clause-value_count : goal.induce_each-requires-clause-value_count
induce_each-requires-clause-value_count c =
    let C = c.in_ok-cover.cover in
    ap (length {A = Element}) c.deref_mut.ensures.value ∙ c.in_ok-values.ensures.count ∙ ap (length {A = Element}) c.elements.ensures
    ∙ lifted-count C c.pcp.ensures.cover (plain_push (rowed_presentation (cover_presentation C))) c.in_ok-images.images
    c.in_ok-images.ensures.lifted

pub returns : goal.returns
returns c =
    subst (λ (A : Answer). IsTrue c.induce_each.result ↔ Each (InducesPlainly A) c.args.pres.now.endos)
    (ap (λ (D : CoverOf). D.answer) c.in_ok-cover.ensures) c.induce_each.ensures
