use Rattle.std.proofs.Common.{◌≡◌, length, ◌∙◌, arith}
use Rattle.std.specs.Vec.{with_items}
use Rattle.std.proofs.lemmas.List.{with_items_is}
use Rattle.epimorphism.proofs.AlongRows.{composed-from}
use Rattle.epimorphism.proofs.along.compose.Goals as goal

pub returns-clause-composed : goal.returns-clause-composed
returns-clause-composed g c =
    let elements = c.out.inside.elements in
    let inverses = c.out.inside.inverses in
    let n : length c.evaluate_all.new.out ≡ c.out.inside.elements.len = omega (arith, c.evaluate_all.auto.out, c.deref_mut.ensures.len) in
    let m : length c.invert_all.new.out ≡ c.out.inside.inverses.len = omega (arith, c.invert_all.auto.out, c.deref_mut-2.ensures.len) in
    let same : c.deref.result.now ≡ c.evaluate_all.new.out = c.deref.ensures.value ∙ with_items_is elements c.evaluate_all.new.out n in
    composed-from c.args.cover.now g.C.Collect.meaning c.args.images.now c.args.endo.now c.pcp.result.now c.pcp-2.result.now
    c.evaluate_all.new.out
    c.invert_all.new.out (with_items elements c.evaluate_all.new.out).items
    (with_items inverses c.invert_all.new.out).items c.deref.result.now
    c.pcp.ensures.presentation c.pcp-2.ensures.presentation c.evaluate_all.ensures.values same c.invert_all.ensures.inverses
    (with_items_is elements c.evaluate_all.new.out n) (with_items_is inverses c.invert_all.new.out m)
