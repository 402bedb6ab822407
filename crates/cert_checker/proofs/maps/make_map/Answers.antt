use Rattle.std.proofs.Common.{◌≡◌, ◌↔◌, ◌∙◌, ℕ, IsTrue, List, length, ap, sym, subst}
use Rattle.pq_base.specs.Answer.{Answer, IsAnswer}
use Rattle.pc_presentation.specs.Collection.{State, plain_push}
use Rattle.pc_presentation.specs.Tailed.{Element, rowed_presentation}
use Rattle.pc_presentation.specs.ImageElements.{states_of}
use Rattle.p_cover.specs.Covers.{CoverOf, all_sources, cover_presentation}
use Rattle.p_cover.specs.Images.{lifted_images}
use Rattle.p_cover.proofs.PartLaws.{no_entries}
use Rattle.p_cover.proofs.ImageStates.{lifted-count}
use Rattle.derivation_log.specs.PlainValues.{MakeMap, images_of}
use Rattle.cert_checker.proofs.mapping.MapDecisions.{lifted-bare}
use Rattle.cert_checker.proofs.maps.make_map.Goals as goal

pub cover_of-requires : goal.cover_of-requires
cover_of-requires c = no_entries (all_sources c.args.to.now)

pub makes_map-requires-clause-given_count : goal.makes_map-requires-clause-given_count
makes_map-requires-clause-given_count c =
    let C = c.in_ok-cover.cover in
    ap (length {A = Element}) c.elements.ensures
    ∙ lifted-count C c.pcp.ensures.cover (plain_push (rowed_presentation (cover_presentation C))) c.in_ok-images.images
    c.in_ok-images.ensures.lifted
    ∙ ap (λ (D : CoverOf). length D.answer.names) c.in_ok-cover.ensures ∙ sym (ap (length {A = List ℕ}) c.requires.names)

pub returns : goal.returns
returns c =
    let C = c.in_ok-cover.cover in
    let answer : C.answer ≡ c.args.to.now = ap (λ (D : CoverOf). D.answer) c.in_ok-cover.ensures in
    let given : states_of c.elements.result.now ≡ images_of c.args.to.now =
    ap states_of (c.elements.ensures ∙ c.in_ok-images.ensures.lifted.elements ∙ ap lifted_images c.in_ok-cover.ensures)
    ∙ lifted-bare c.args.to.now (subst IsAnswer answer c.pcp.ensures.cover.answer) in
    subst (λ (f : List State). IsTrue c.makes_map.result ↔ MakeMap c.args.from.now c.args.to.now f) given
    (subst (λ (A : Answer). IsTrue c.makes_map.result ↔ MakeMap c.args.from.now A (states_of c.elements.result.now)) answer
    c.makes_map.ensures.made)
