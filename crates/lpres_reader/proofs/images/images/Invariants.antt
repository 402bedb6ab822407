use Rattle.lpres_reader.proofs.items.ImageArrows.{ImagesTo}
use Rattle.lpres_reader.proofs.images.images.Given as goal

abbrev pub invariant-loop-place : goal.invariant-loop-place
invariant-loop-place l = ImagesTo l.arrows l.place l.images.items
