use Rattle.lpres_reader.proofs.texts.Depths.{DepthAt}
use Rattle.lpres_reader.proofs.depth.is_shallow.Given as goal

abbrev pub invariant-loop-byte : goal.invariant-loop-byte
invariant-loop-byte l = DepthAt l.line l.byte-index l.opened l.closed
