use Rattle.std.proofs.Common.{◌≡◌, map, length, ◌∙◌, arith}
use Rattle.lpres_reader.proofs.items.EndoPlaces.{items_at, items_within}
use Rattle.lpres_reader.proofs.items.KeptWords.{one_endo_more, images_not_kept, images_missing}
use Rattle.lpres_reader.proofs.parts.endo_letters.Goals as goal

pub returns-then-len-generators : goal.returns-then-len-generators
returns-then-len-generators c =
    let endos = c.args.endos.now in
    let images = c.images-item.result in
    let i = c.loop-images.images-index in
    let l = c.loop-images-test.true in
    let count : c.len.result ≡ length images.items = omega arith in
    images_missing c.args.generators c.args.before (map (λ f. f.items) endos) images.items i (items_within endos i l)
    (items_at endos images i l c.images-item.is)
    (λ e. c.if-len-generators.true (count ∙ e))

pub returns-in_err-letters : goal.returns-in_err-letters
returns-in_err-letters c =
    let endos = c.args.endos.now in
    let images = c.images-item.result in
    let i = c.loop-images.images-index in
    let l = c.loop-images-test.true in
    let outside = rw c.deref.ensures.value at c.in_err-letters.ensures in
    rw c.from_residual.ensures
    (images_not_kept c.args.generators c.args.before (map (λ f. f.items) endos) images.items i (items_within endos i l)
    (items_at endos images i l c.images-item.is)
    c.loop-images.letters c.loop-images.invariant outside)

pub loop-images-preserved : goal.loop-images-preserved
loop-images-preserved c =
    let endos = c.args.endos.now in
    let images = c.images-item.result in
    let i = c.loop-images.images-index in
    let l = c.loop-images-test.true in
    let count : length images.items ≡ c.args.generators = omega arith in
    let words = rw c.deref.ensures.value at c.in_ok-letters.ensures in
    one_endo_more c.args.generators c.args.before (map (λ f. f.items) endos) images.items i (items_within endos i l)
    (items_at endos images i l c.images-item.is)
    c.loop-images.letters c.in_ok-letters.letters c.loop-images.invariant count words
