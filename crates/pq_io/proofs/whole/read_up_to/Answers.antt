-- However reading ends, what is left is what the source told without at most one byte more than the limit.
use Rattle.std.proofs.Common.{◌+◌, ◌-◌, ◌≤◌, ◌++◌, length, take, arith, length-append, length-take}
use Rattle.std.proofs.lemmas.Grind.{common_steps}
use Rattle.std.proofs.KnownBytes.{Consumes-trans}
use Rattle.pq_io.proofs.ReadingLemmas.{Consumes-drop, Consumes-still}
use Rattle.pq_io.proofs.whole.read_up_to.Goals as goal

pub returns-then-n-eq0-clause-left : goal.returns-then-n-eq0-clause-left
returns-then-n-eq0-clause-left g c =
    let nothing = rw c.if-n-eq0.true at c.in_ok-n.ensures.bytes in
    let read = Consumes-still _ _ _ _ c.loop-buffer.invariant.read nothing in
    Consumes-drop _ _ c.loop-buffer.bytes.items _ read (omega (arith, c.loop-buffer.bytes.ok.0))

pub returns-in_err-extend_from_slice-clause-left : goal.returns-in_err-extend_from_slice-clause-left
returns-in_err-extend_from_slice-clause-left g c =
    let read = Consumes-trans _ _ _ _ _ c.loop-buffer.invariant.read c.in_ok-n.ensures.bytes in
    let few : c.in_ok-n.n ≤ c.min-wanted.result = grind (arith, common_steps) in
    let wanted : c.min-wanted.result ≤ c.args.limit - length c.loop-buffer.bytes.items + 1 = grind (arith, common_steps) in
    let size : length (c.loop-buffer.bytes.items ++ take c.in_ok-n.n c.read.new.buf) ≤ c.args.limit + 1 =
    simp (length-append, length-take) (omega (arith, few, wanted, c.loop-buffer.bytes.ok.0)) in
    Consumes-drop _ _ _ _ read size
