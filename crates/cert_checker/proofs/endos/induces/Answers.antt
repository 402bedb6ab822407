use Rattle.std.proofs.Common.{◌≡◌, ◌↔◌, ◌∙◌, ℕ, IsTrue, List, ap, sym, subst, length, refl}
use Rattle.pq_base.specs.LPresentation.{AreWords}
use Rattle.pq_base.specs.Answer.{Answer, Definition}
use Rattle.pc_presentation.specs.Collection.{plain_push}
use Rattle.pc_presentation.specs.Tailed.{Element, rowed_presentation}
use Rattle.pc_presentation.specs.Pcp.{TailedPresentation}
use Rattle.pc_presentation.specs.ImageElements.{states_of}
use Rattle.p_cover.specs.Covers.{cover_presentation}
use Rattle.p_cover.proofs.ImageStates.{lifted-count}
use Rattle.epimorphism.specs.Rooms.{value_elements}
use Rattle.derivation_log.specs.PlainValues.{MakeMap}
use Rattle.cert_checker.proofs.mapping.InducedMaps.{states-values, induced-from}
use Rattle.cert_checker.proofs.mapping.MapDecisions.{bare, lifted-states-bare}
use Rattle.cert_checker.proofs.endos.induces.Goals as goal

pub evaluate_each-requires-clause-letters : goal.evaluate_each-requires-clause-letters
evaluate_each-requires-clause-letters c =
    let C = c.args.cover.now in
    let push = plain_push (rowed_presentation (cover_presentation C)) in
    subst (λ (n : ℕ). AreWords n c.args.endo.now)
    (sym (ap (length {A = Element}) c.elements.ensures ∙ lifted-count C c.pcp.ensures.cover push c.args.images.now
    c.requires.images)) c.requires.words

pub returns-clause-induced : goal.returns-clause-induced
returns-clause-induced c =
    let C = c.args.cover.now in
    let T = cover_presentation C in
    let A = C.answer in
    let f = c.args.images.now in
    let is = c.pcp.ensures.cover.answer in
    let values : c.evaluate_each.new.values ≡ value_elements T (plain_push (rowed_presentation T)) f.elements f.inverses c.args.endo.now =
    c.evaluate_each.ensures.values
    ∙ ap (λ (S : TailedPresentation). value_elements S (plain_push (rowed_presentation S)) c.elements.result.now
    c.inverses.result.now c.args.endo.now)
    c.pcp.ensures.presentation
    ∙ ap (λ (es : List Element). value_elements T (plain_push (rowed_presentation T)) es c.inverses.result.now c.args.endo.now)
    c.elements.ensures
    ∙ ap (λ (es : List Element). value_elements T (plain_push (rowed_presentation T)) f.elements es c.args.endo.now) c.inverses.ensures in
    induced-from A is c.requires.consistent (rowed_presentation T)
    (bare T A.presentation c.requires.bench.left.presentation refl (ap (λ (ds : List Definition). length ds) c.requires.no_tails))
    c.args.endo.now c.requires.words (states_of f.elements) (states_of f.inverses) (states_of c.evaluate_each.new.values)
    (ap states_of c.requires.images.elements ∙ lifted-states-bare C is c.requires.no_tails) c.requires.images.images.states
    (ap states_of values ∙ states-values T f.elements f.inverses c.args.endo.now) c.makes_map.result
    (subst (λ (B : Answer). IsTrue c.makes_map.result ↔ MakeMap B A (states_of c.evaluate_each.new.values)) c.answer.ensures
    c.makes_map.ensures.made)
