use Rattle.std.proofs.Common.{ℕ, ℤ, List, length, ap, sym, ◌∙◌, subst}
use Rattle.pq_base.specs.SignedWord.{HasLetters}
use Rattle.pc_presentation.specs.Tailed.{Element, rowed_presentation}
use Rattle.pc_presentation.proofs.quotients.TailedArithmetic.{meaning_at}
use Rattle.p_cover.specs.Covers.{cover_presentation}
use Rattle.p_cover.proofs.ImageStates.{lifted-count, lifted-presentation}
use Rattle.epimorphism.proofs.RelatorRows.{Finds, finds-from, found-row_joined, found-killed}
use Rattle.epimorphism.proofs.relator.relator_row.Given.{Over}
use Rattle.epimorphism.proofs.relator.relator_row.Goals as goal

pub value-requires-clause-letters : goal.value-requires-clause-letters
value-requires-clause-letters g c =
    let push = g.C.Collect.meaning (rowed_presentation (cover_presentation c.args.cover.now)) in
    subst (λ (n : ℕ). HasLetters n c.letters.result.now)
    (sym (ap (λ (es : List Element). length es) c.elements.ensures
    ∙ lifted-count c.args.cover.now c.pcp.ensures.cover push c.args.images.now c.requires.images))
    (subst (λ (w : List ℤ). HasLetters (length c.args.cover.now.answer.names) w) (sym c.letters.ensures.value) c.requires.letters)

found : (g : Over) (c : goal.After-take_tails g)
    → Finds c.args.cover.now (g.C.Collect.meaning (rowed_presentation (cover_presentation c.args.cover.now))) c.args.images.now
    c.args.word.now c.take_tails.result c.take_tails.new.row.entries
found g c =
    finds-from c.args.cover.now g.C.Collect.meaning c.args.images.now c.args.word.now c.take_tails.result c.take_tails.new.row.entries
    c.pcp.result.now c.elements.result.now c.inverses.result.now c.letters.result.now c.value.new.s c.left.result.now
    c.pcp.ensures.presentation c.elements.ensures c.inverses.ensures c.letters.ensures.value c.value.ensures.scratch c.value.ensures.value
    c.left.ensures
    c.take_tails.ensures.decided c.take_tails.ensures.row

pub returns-clause-decided : goal.returns-clause-decided
returns-clause-decided g c = (found g c).decided

pub returns-clause-joined : goal.returns-clause-joined
returns-clause-joined g c =
    let T = cover_presentation c.args.cover.now in
    let push = g.C.Collect.meaning (rowed_presentation (cover_presentation c.args.cover.now)) in
    let is = lifted-presentation c.args.cover.now c.pcp.ensures.cover push c.args.images.now c.requires.images in
    found-row_joined c.args.cover.now c.pcp.ensures.cover push (meaning_at T is push (g.met.C.Collect.reaches (rowed_presentation T)))
    c.args.images.now c.requires.images c.args.word.now c.requires.letters c.take_tails.result c.take_tails.new.row.entries (found g c)

pub returns-clause-killed : goal.returns-clause-killed
returns-clause-killed g c =
    let T = cover_presentation c.args.cover.now in
    let push = g.C.Collect.meaning (rowed_presentation (cover_presentation c.args.cover.now)) in
    let is = lifted-presentation c.args.cover.now c.pcp.ensures.cover push c.args.images.now c.requires.images in
    found-killed c.args.cover.now c.pcp.ensures.cover push (meaning_at T is push (g.met.C.Collect.reaches (rowed_presentation T)))
    c.args.images.now c.requires.images c.args.word.now c.requires.letters c.take_tails.result c.take_tails.new.row.entries (found g c)
