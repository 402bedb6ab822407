use Rattle.std.proofs.Common.{◌≡◌, ◌<◌, ◌≤◌, ◌-◌, [], length, map, sym, ◌∙◌, arith}
use Rattle.std.proofs.lemmas.List.{length-map}
use Rattle.pc_presentation.specs.Syllable.{spread}
use Rattle.pc_presentation.specs.Parts.{words_of}
use Rattle.pc_presentation.proofs.presentations.PartsLaws.{image_at, words_of-at, length-words_of}
use Rattle.pc_presentation.proofs.answer.Answer.image.Goals as goal

pub returns : goal.returns
returns c =
    let T = c.self.inside.pcp in
    let images = c.self.inside.images.items in
    let low : 1 ≤ c.args.i = c.requires.from_one in
    let high : c.args.i ≤ length c.self.inside.names.items = rw (← c.self.view_is) at c.requires.in_range in
    let count : length (map (spread T.presentation.rank 0) (words_of images)) ≡ length c.self.inside.names.items =
    c.self.invariant.answer.image_count in
    let spread_count = length-map (words_of images) (spread T.presentation.rank 0) in
    let word_count : length (words_of images) ≡ length images = length-words_of images in
    let inside : c.args.i - 1 < length images = omega arith in
    rw (← c.self.view_is)
    (c.as_slice.ensures.value
    ∙ sym (words_of-at images (c.args.i - 1) c.index.result.now [] inside c.index.ensures)
    ∙ image_at T.presentation.prime T.presentation.rank (c.args.i - 1) (words_of images) c.self.invariant.normal (omega arith))
