use Rattle.std.specs.Prelude.{option_map}
use Rattle.lpres_reader.proofs.items.ImageArrows.{FoundSo}
use Rattle.lpres_reader.proofs.images.image_of.Given as goal

abbrev pub invariant-loop-arrow : goal.invariant-loop-arrow
invariant-loop-arrow l = FoundSo l.arrows l.place l.arrow-index (option_map (λ w. w.now) l.found)
