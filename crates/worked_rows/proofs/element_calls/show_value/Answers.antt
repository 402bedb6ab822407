use Rattle.std.proofs.Common.{[], ◌∷◌}
use Rattle.pc_presentation.specs.Tailed.{rowed_presentation}
use Rattle.worked_rows.proofs.ImageLists.{no_image_elements, more_image_elements}
use Rattle.worked_rows.proofs.element_calls.show_value.Goals as goal

-- the second element and its inverse, and before them the first and its inverse
pub show_value_at-requires-clause-images : goal.show_value_at-requires-clause-images
show_value_at-requires-clause-images g c =
    let T = c.args.pcp.now in
    let push = g.C.Collect.meaning (rowed_presentation T) in
    more_image_elements T push c.in_ok-u.u c.in_ok-x.x (c.in_ok-v.v ∷ [])
    (c.in_ok-y.y ∷ []) c.in_ok-u.ensures c.in_ok-x.ensures.element c.in_ok-x.ensures.inverse
    (more_image_elements T push c.in_ok-v.v c.in_ok-y.y [] [] c.in_ok-v.ensures c.in_ok-y.ensures.element c.in_ok-y.ensures.inverse
    (no_image_elements T push))
