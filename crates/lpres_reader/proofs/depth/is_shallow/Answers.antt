use Rattle.std.proofs.Common.{arith}
use Rattle.lpres_reader.proofs.texts.Depths.{depth_first, depth_next, depth_over, depth_end}
use Rattle.lpres_reader.proofs.depth.is_shallow.Goals as goal

pub loop-byte-init : goal.loop-byte-init
loop-byte-init c = depth_first c.args.line.now

pub loop-byte-preserved : goal.loop-byte-preserved
loop-byte-preserved c =
    depth_next c.args.line.now c.loop-byte.byte-index c.loop-byte.opened c.loop-byte.closed _ _ c.loop-byte.invariant
    (omega arith) c.opens-opened.ensures c.closes-closed.ensures (omega arith)

pub returns-then-opened-closed-clause-deep : goal.returns-then-opened-closed-clause-deep
returns-then-opened-closed-clause-deep c e =
    depth_over c.args.line.now c.loop-byte.byte-index c.loop-byte.opened c.loop-byte.closed _ _ c.loop-byte.invariant
    (omega arith) c.opens-opened.ensures c.closes-closed.ensures (omega arith)

pub returns-clause-shallow : goal.returns-clause-shallow
returns-clause-shallow c e =
    depth_end c.args.line.now c.loop-byte.byte-index c.loop-byte.opened c.loop-byte.closed c.loop-byte.invariant (omega arith)
