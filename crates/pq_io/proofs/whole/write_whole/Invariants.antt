-- What the sink gained and what is still to be offered are all the bytes; no write failed.
use Rattle.std.proofs.Common.{◌≡◌, length, IsNone}
use Rattle.pq_io.proofs.Offers.{Offered}
use Rattle.pq_io.proofs.whole.write_whole.Given as goal

abbrev pub invariant-loop-rest : goal.invariant-loop-rest
invariant-loop-rest g l = record {
  steady : g.K.Sink.faults l.sink ≡ g.K.Sink.faults l.fn.sink;
  silent : IsNone (g.K.Sink.taken l.fn.sink) → IsNone (g.K.Sink.taken l.sink);
  offered : Offered (g.K.Sink.taken l.fn.sink) (g.K.Sink.taken l.sink) l.bytes l.rest;
}

abbrev pub decreases-loop-rest : goal.decreases-loop-rest
decreases-loop-rest g l = length l.rest
