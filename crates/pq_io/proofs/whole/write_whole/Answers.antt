-- A sink that fails has gained a proper prefix of the bytes, and each write leaves the rest to be offered.
use Rattle.std.proofs.Common.{◌<◌, length, ◌∙◌, arith}
use Rattle.std.proofs.lemmas.Bool.Decides.{nat_tests}
use Rattle.std.proofs.lemmas.Result.{err_from_is_err_and}
use Rattle.std.proofs.lemmas.List.{take_rest}
use Rattle.pq_io.proofs.Offers.{offered_more, offered_part}
use Rattle.pq_io.proofs.whole.write_whole.Goals as goal

pub returns-in_err-n-clause-err : goal.returns-in_err-n-clause-err
returns-in_err-n-clause-err g c =
    let some : 0 < length c.loop-rest.rest.now = grind (arith, nat_tests) in
    let part = offered_part _ _ _ _ _ c.loop-rest.invariant.offered some c.in_err-n.ensures.unchanged in
    let p = err_from_is_err_and c.from_residual.result c.from_residual.ensures.1 in
    rw p.1 part

pub loop-rest-preserved : goal.loop-rest-preserved
loop-rest-preserved g c = record {
  steady = c.in_ok-n.ensures.steady ∙ c.loop-rest.invariant.steady;
  silent = λ s. c.write.ensures.silent (c.loop-rest.invariant.silent s);
  offered = simp take_rest (offered_more _ _ _ _ _ _ c.loop-rest.invariant.offered c.in_ok-n.ensures.bytes c.write.ensures.silent);
}
