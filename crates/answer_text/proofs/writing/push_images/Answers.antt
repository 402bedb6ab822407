use Rattle.std.proofs.Common.{◌≡◌, ◌<◌, ◌≤◌, ◌+◌, ◌-◌, [], ℕ, List, get_or, length, ap, arith}
use Rattle.std.proofs.lemmas.List.{get_or_read}
use Rattle.pq_base.specs.Limits.{max_names}
use Rattle.pq_base.specs.Answer.{Answer}
use Rattle.answer_text.specs.AnswerText.{image_line}
use Rattle.pq_base.proofs.LineLaws.{text_of_lines-next}
use Rattle.answer_text.proofs.lines.NextLines.{image_lines-next, image_line-written}
use Rattle.answer_text.proofs.texts.SyllableTexts.{AreExponents-word}
use Rattle.answer_text.proofs.writing.push_images.Goals as goal

pub overflow_add-i : goal.overflow_add-i
overflow_add-i c =
    let limit : length c.args.answer.now.names ≤ max_names = c.pcp-pcp.ensures.answer.name_limit in
    let names : length c.names-name-items.result.now ≡ length c.args.answer.now.names =
    ap (λ (ns : List (List ℕ)). length ns) c.names-name-items.ensures in
    omega (arith, c.loop-name-test.true, c.loop-name.invariant.1)

pub push_image-requires : goal.push_image-requires
push_image-requires c =
    AreExponents-word c.image.result.now 0 (get_or c.args.answer.now.images (c.loop-name.i + 1 - 1) []) c.image.ensures

pub loop-name-preserved : goal.loop-name-preserved
loop-name-preserved c =
    let k : ℕ = c.loop-name.name-index in
    let i : ℕ = c.loop-name.i in
    let A : Answer = c.args.answer.now in
    let names : List (List ℕ) = c.names-name-items.result.now in
    let same : i ≡ k = c.loop-name.invariant.1 in
    let inside : k < length names = omega (arith, c.loop-name-test.true) in
    let long : length names ≡ length A.names = ap (λ (ns : List (List ℕ)). length ns) c.names-name-items.ensures in
    let images : length A.images ≡ length A.names = c.pcp-pcp.ensures.answer.image_count in
    let name = get_or_read names k c.name-item.result inside c.name-item.is [] in
    let written =
    image_line-written c.loop-name.out.items c.push_image.new.out.items _ (get_or names k []) c.image.result.now
    (get_or A.images (i + 1 - 1) []) c.in_ok-push_image.ensures name c.image.ensures in
    let next = image_lines-next k (k + 1) (i + 1 - 1) names A.images (omega arith) (omega arith) inside (omega arith) in (
      text_of_lines-next c.loop-name.out.items c.push_image.new.out.items _
          (image_line (get_or names k []) (get_or A.images (i + 1 - 1) [])) _ _ written next c.loop-name.invariant.0,
      omega arith,
    )
