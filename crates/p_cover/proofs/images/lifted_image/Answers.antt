use Rattle.std.proofs.Common.{[], ◌-◌, get_or, ap, ◌∙◌}
use Rattle.pq_base.specs.Answer.{Answer}
use Rattle.pc_presentation.specs.Syllable.{syllables_of}
use Rattle.pc_presentation.specs.Tailed.{one_of}
use Rattle.p_cover.proofs.LiftedImages.{image-syllables, image-tail, lifted-steps}
use Rattle.p_cover.proofs.images.lifted_image.Goals as goal

pub set_exponents-requires-clause-word : goal.set_exponents-requires-clause-word
set_exponents-requires-clause-word c =
    let C = c.args.cover.now in
    image-syllables C c.args.i c.in_ok-image.image c.image.result.now (c.in_ok-image.ensures.one ∙ ap one_of c.pcp.ensures.presentation)
    c.pcp.ensures.cover.answer c.requires.from_one c.requires.in_range
    (c.image.ensures ∙ ap (λ (A : Answer). syllables_of 0 (get_or A.images (c.args.i - 1) [])) c.answer.ensures)

pub set_tail-requires-clause-tail : goal.set_tail-requires-clause-tail
set_tail-requires-clause-tail c =
    let C = c.args.cover.now in
    image-tail C c.args.i c.in_ok-image.image c.image.result.now (c.in_ok-image.ensures.one ∙ ap one_of c.pcp.ensures.presentation)
    c.set_exponents.new.element c.tail_of.result c.set_exponents.ensures c.tail_of.ensures

pub returns : goal.returns
returns c =
    let C = c.args.cover.now in
    lifted-steps C c.args.i c.in_ok-image.image c.image.result.now (c.in_ok-image.ensures.one ∙ ap one_of c.pcp.ensures.presentation)
    c.pcp.ensures.cover.answer c.requires.from_one c.requires.in_range
    (c.image.ensures ∙ ap (λ (A : Answer). syllables_of 0 (get_or A.images (c.args.i - 1) [])) c.answer.ensures)
    c.set_exponents.new.element c.set_tail.new.element c.tail_of.result c.set_exponents.ensures c.tail_of.ensures c.set_tail.ensures
