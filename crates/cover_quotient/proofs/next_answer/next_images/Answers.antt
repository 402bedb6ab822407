use Rattle.std.proofs.Common.{◌≡◌, ◌≤◌, ◌<◌, ◌+◌, ◌-◌, [], ℕ, List, get_or, length, map, ap, ◌∙◌, arith}
use Rattle.std.proofs.lemmas.List.{map_push, length-map, take_all}
use Rattle.pc_presentation.specs.Syllable.{syllables_of}
use Rattle.pc_presentation.specs.Parts.{words_of}
use Rattle.pq_base.specs.Answer.{Answer}
use Rattle.cover_quotient.specs.NextAnswer.{combined_answer}
use Rattle.pq_base.proofs.ListSteps.{mapped-more}
use Rattle.cover_quotient.proofs.next_answers.NextImages.{next_images-count}
use Rattle.cover_quotient.proofs.next_answer.next_images.Goals as goal

pub loop-k-preserved : goal.loop-k-preserved
loop-k-preserved c =
    let C = c.args.cover.now in
    let A = combined_answer C c.args.combinations.now in
    let k = c.loop-k.k in
    let same : k + 1 - 1 ≡ k = omega arith in
    let count : length A.images ≡ length C.answer.names = next_images-count C c.args.combinations.now c.pcp-cover.ensures.cover.answer in
    let names : length c.names.result.now ≡ length C.answer.names =
    ap (length {A = List ℕ}) (c.names.ensures ∙ ap (λ (a : Answer). a.names) c.answer-2.ensures) in
    let inside : k < length A.images = omega (arith, c.loop-k-test.true) in
    ap words_of c.in_ok-push.ensures.items
    ∙ map_push (λ v. v.items) c.loop-k.images.items c.in_ok-next_image.field-0
    ∙ mapped-more (syllables_of 0) A.images k [] (words_of c.loop-k.images.items) c.in_ok-next_image.field-0.items inside c.loop-k.invariant
    (c.in_ok-next_image.ensures ∙ ap (λ (i : ℕ). syllables_of 0 (get_or A.images i [])) same)

pub returns : goal.returns
returns c =
    let C = c.args.cover.now in
    let A = combined_answer C c.args.combinations.now in
    let count : length A.images ≡ length C.answer.names = next_images-count C c.args.combinations.now c.pcp-cover.ensures.cover.answer in
    let names : length c.names.result.now ≡ length C.answer.names =
    ap (length {A = List ℕ}) (c.names.ensures ∙ ap (λ (a : Answer). a.names) c.answer-2.ensures) in
    let long : length (map (syllables_of 0) A.images) ≡ length A.images = length-map A.images (syllables_of 0) in
    let all : length (map (syllables_of 0) A.images) ≤ c.loop-k.k = omega (arith, c.loop-k-test.false) in
    c.loop-k.invariant ∙ take_all c.loop-k.k (map (syllables_of 0) A.images) all
