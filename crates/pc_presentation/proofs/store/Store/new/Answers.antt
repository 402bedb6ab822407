use Rattle.std.proofs.Common.{◌≡◌, replicate}
use Rattle.pc_presentation.specs.Store.{no_place}
use Rattle.pc_presentation.proofs.presentations.StoreLaws.{entries_of-replicate}
use Rattle.pc_presentation.proofs.store.Store.new.Goals as goal

pub returns : goal.returns
returns c =
    let made : c.in_ok-vec.field-0.items ≡ replicate c.args.count no_place = c.in_ok-vec.ensures.items_if_clones_equal (λ y h. h) in
    simp (c.new.ensures.items, made) (entries_of-replicate c.args.count)
