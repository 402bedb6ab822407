use Rattle.std.proofs.Common.{◌≡◌, ◌<◌, true, false, List, get_or, length, map, ap, sym, ◌∙◌, arith}
use Rattle.std.proofs.lemmas.List.{get_or-map, length-map}
use Rattle.pq_base.specs.Answer.{Definition as Source}
use Rattle.pq_base.specs.Answer.Definition.{image}
use Rattle.pq_base.specs.Canonical.{same_definition}
use Rattle.pc_presentation.specs.Definition.{definition_of}
use Rattle.p_cover.proofs.PlaceLaws.{place_from-here, place_from-past}
use Rattle.p_cover.proofs.image_tails.place_of_image.Goals as goal

pub returns-then-is_image : goal.returns-then-is_image
returns-then-is_image c =
    let ds : List Source = map definition_of c.args.sources.now in
    let k = c.loop-k.k in
    let inside : k < length ds = omega (arith, c.loop-k-test.true, length-map c.args.sources.now definition_of) in
    let here : same_definition (image c.args.i) (get_or ds k (image 0)) ≡ true =
    ap (same_definition (image c.args.i)) (get_or-map definition_of c.args.sources.now k _ (image 0) c.loop-k-test.true)
    ∙ sym c.is_image.ensures ∙ c.if-is_image.true in
    sym (place_from-here ds (image c.args.i) k inside here) ∙ c.loop-k.invariant

pub loop-k-preserved : goal.loop-k-preserved
loop-k-preserved c =
    let ds : List Source = map definition_of c.args.sources.now in
    let k = c.loop-k.k in
    let inside : k < length ds = omega (arith, c.loop-k-test.true, length-map c.args.sources.now definition_of) in
    let other : same_definition (image c.args.i) (get_or ds k (image 0)) ≡ false =
    ap (same_definition (image c.args.i)) (get_or-map definition_of c.args.sources.now k _ (image 0) c.loop-k-test.true)
    ∙ sym c.is_image.ensures ∙ c.if-is_image.false in
    sym (place_from-past ds (image c.args.i) k inside other) ∙ c.loop-k.invariant
