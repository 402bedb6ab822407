use Rattle.std.proofs.Common.{ℕ, subst}
use Rattle.pq_base.specs.LPresentation.{AreEndos}
use Rattle.pc_presentation.specs.Tailed.{rowed_presentation}
use Rattle.pc_presentation.proofs.quotients.TailedArithmetic.{meaning_at}
use Rattle.p_cover.specs.Covers.{cover_presentation}
use Rattle.p_cover.specs.Images.{ImagesOf}
use Rattle.p_cover.specs.ImagesAlong.{AreCarried}
use Rattle.p_cover.proofs.ImageStates.{lifted-presentation}
use Rattle.p_cover.proofs.ImagesAlong.{found_along-joined, found_along-killed}
use Rattle.epimorphism.proofs.AlongRows.{lifted-elements_alike, lifted-inverses_alike, begun-work, images-at, found_along-from}
use Rattle.epimorphism.proofs.along.row_along.Goals as goal

pub begin-requires-clause-elements : goal.begin-requires-clause-elements
begin-requires-clause-elements g c =
    lifted-elements_alike c.args.cover.now c.pcp-pcp.ensures.cover
    (g.C.Collect.meaning (rowed_presentation (cover_presentation c.args.cover.now)))
    c.args.images.now c.requires.images c.args.work.now c.requires.work

pub begin-requires-clause-inverses : goal.begin-requires-clause-inverses
begin-requires-clause-inverses g c =
    lifted-inverses_alike c.args.cover.now c.pcp-pcp.ensures.cover
    (g.C.Collect.meaning (rowed_presentation (cover_presentation c.args.cover.now)))
    c.args.images.now c.requires.images c.args.work.now c.requires.work

pub carry-requires-clause-work : goal.carry-requires-clause-work
carry-requires-clause-work g c =
    begun-work c.args.cover.now c.pcp-pcp.ensures.cover (g.C.Collect.meaning (rowed_presentation (cover_presentation c.args.cover.now)))
    c.args.images.now c.requires.images c.args.work.now c.requires.work c.begin.new.self c.begin.ensures.first c.begin.ensures.second

pub value-requires-clause-images : goal.value-requires-clause-images
value-requires-clause-images g c =
    images-at g.C.Collect.meaning (cover_presentation c.args.cover.now) c.pcp-pcp.result.now c.carry.new.work.first.elements
    c.carry.new.work.first.inverses c.elements.result.now c.inverses.result.now c.pcp-pcp.ensures.presentation c.elements.ensures
    c.inverses.ensures
    c.carry.ensures.images

pub returns-clause-found : goal.returns-clause-found
returns-clause-found g c =
    let C = c.args.cover.now in
    let push = g.C.Collect.meaning (rowed_presentation (cover_presentation C)) in
    found_along-from C g.C.Collect.meaning c.args.pres.now.endos c.args.images.now c.carry.new.work.first c.args.along.now c.args.word.now
    c.take_tails.result c.take_tails.new.row.entries c.pcp-pcp.result.now c.elements.result.now c.inverses.result.now c.letters.result.now
    c.value.new.s
    c.left.result.now
    (subst (λ (f : ImagesOf). AreCarried C push c.args.pres.now.endos f c.args.along.now c.carry.new.work.first) c.begin.ensures.first
    c.carry.ensures.carried)
    c.pcp-pcp.ensures.presentation c.elements.ensures c.inverses.ensures c.letters.ensures.value c.value.ensures.scratch
    c.value.ensures.value c.left.ensures
    c.take_tails.ensures.decided c.take_tails.ensures.row

pub returns-clause-joined : goal.returns-clause-joined
returns-clause-joined g c =
    let C = c.args.cover.now in
    let T = cover_presentation C in
    let push = g.C.Collect.meaning (rowed_presentation (cover_presentation C)) in
    let is = lifted-presentation C c.pcp-pcp.ensures.cover push c.args.images.now c.requires.images in
    found_along-joined C c.pcp-pcp.ensures.cover push (meaning_at T is push (g.met.C.Collect.reaches (rowed_presentation T)))
    c.args.images.now
    c.requires.images c.args.pres.now.endos
    (subst (λ (n : ℕ). AreEndos n c.args.pres.now.endos) c.requires.generators c.names-presentation.ensures.presentation.endo_words)
    c.args.along.now c.requires.numbers c.args.word.now c.requires.letters c.take_tails.result c.take_tails.new.row.entries
    (returns-clause-found g c)

pub returns-clause-killed : goal.returns-clause-killed
returns-clause-killed g c =
    let C = c.args.cover.now in
    let T = cover_presentation C in
    let push = g.C.Collect.meaning (rowed_presentation (cover_presentation C)) in
    let is = lifted-presentation C c.pcp-pcp.ensures.cover push c.args.images.now c.requires.images in
    found_along-killed C c.pcp-pcp.ensures.cover push (meaning_at T is push (g.met.C.Collect.reaches (rowed_presentation T)))
    c.args.images.now
    c.requires.images c.args.pres.now.endos
    (subst (λ (n : ℕ). AreEndos n c.args.pres.now.endos) c.requires.generators c.names-presentation.ensures.presentation.endo_words)
    c.args.along.now c.requires.numbers c.args.word.now c.requires.letters c.take_tails.result c.take_tails.new.row.entries
    (returns-clause-found g c)
