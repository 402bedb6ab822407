use Rattle.std.proofs.Common.{◌≡◌, ◌++◌, ◌-◌, [], ℕ, Option, List, IfOk, get_or, length, ap, ap₂, sym, ◌∙◌, subst}
use Rattle.pq_base.specs.Answer.{Answer}
use Rattle.pq_base.specs.Answer.Definition.{image}
use Rattle.pq_base.specs.Presentation.{Presentation}
use Rattle.pc_presentation.specs.declared.syllable.Syllable.{Syllable}
use Rattle.pc_presentation.specs.Syllable.{syllables_of}
use Rattle.pc_presentation.specs.Relation.{IsTail}
use Rattle.p_cover.specs.Sources.{place_in}
use Rattle.p_cover.proofs.PlaceLaws.{IsTail-place_in}
use Rattle.cover_quotient.proofs.next_answers.CombinedTails.{tail_part, cover_part}
use Rattle.cover_quotient.proofs.next_answers.NextImages.{next_image-is}
use Rattle.cover_quotient.proofs.next_answer.next_image.Goals as goal

pub with_tail-requires-clause-tail : goal.with_tail-requires-clause-tail
with_tail-requires-clause-tail c =
    let C = c.args.cover.now in
    subst (λ (w : ℕ). IsTail w c.tail_of-tail.result) (sym c.requires.combinations.count)
    (subst (IsTail (length C.sources)) (sym c.tail_of-tail.ensures) (IsTail-place_in C.sources (image c.args.i)))

pub returns : goal.returns
returns c =
    let C = c.args.cover.now in
    let K = c.args.combinations.now in
    let i = c.args.i in
    let start : c.image.result.now ≡ syllables_of 0 (get_or C.answer.images (i - 1) []) =
    c.image.ensures ∙ ap (λ (a : Answer). syllables_of 0 (get_or a.images (i - 1) [])) c.answer-answer.ensures in
    let rank : c.rank.result ≡ C.answer.presentation.rank =
    c.rank.ensures.rank ∙ ap (λ (P : Presentation). P.rank) c.pcp.ensures.presentation
    ∙ ap (λ (a : Answer). a.presentation.rank) c.answer-answer.ensures in
    subst (λ (w : List Syllable). IfOk c.with_tail.result (λ v. v.items ≡ w))
    (ap₂ (λ (w : List Syllable) (v : List Syllable). w ++ v) start
    (ap₂ (λ (n : ℕ) (t : Option ℕ). tail_part K n t) rank c.tail_of-tail.ensures
    ∙ cover_part C K c.requires.combinations C.answer.presentation.rank (place_in C.sources (image i)))
    ∙ sym (next_image-is C K c.pcp-cover.ensures.cover.answer i c.requires.from_one c.requires.in_range))
    c.with_tail.ensures
