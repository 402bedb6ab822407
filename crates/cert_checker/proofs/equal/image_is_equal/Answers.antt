use Rattle.std.proofs.Common.{◌≡◌, ◌+◌, ◌-◌, ℕ, [], get_or, ap, ◌∙◌, arith}
use Rattle.pc_presentation.specs.Syllable.{syllables_of}
use Rattle.cert_checker.proofs.EqualAnswers.{words-decided, image-length}
use Rattle.cert_checker.proofs.equal.image_is_equal.Goals as goal

pub returns : goal.returns
returns c =
    let A = c.args.left.now in
    let B = c.args.right.now in
    let i = c.args.i in
    let place : c.args.i + 1 - 1 ≡ c.args.i = omega arith in
    words-decided 0 (get_or A.images i []) (get_or B.images i []) c.image.result.now c.image-2.result.now c.words_are_equal.result
    (image-length A B c.pcp-left.ensures.answer c.pcp-right.ensures.answer c.requires.rank c.requires.names i c.requires.in_range)
    (c.image.ensures ∙ ap (λ (n : ℕ). syllables_of 0 (get_or A.images n [])) place)
    (c.image-2.ensures ∙ ap (λ (n : ℕ). syllables_of 0 (get_or B.images n [])) place) c.words_are_equal.ensures
