use Rattle.std.proofs.Common.{◌*◌, arith, replicate}
use lib.Lanes.{zip2}
use Rattle.fp_rows.specs.Lanes.{lane_numbers}
use Rattle.fp_rows.proofs.LaneLaws.{wrapped_product, taken_remainders-below, multiples_made}
use Rattle.fp_rows.proofs.lanes.multiples.Goals as goal

pub remainders-products-requires-2-clause-small : goal.remainders-products-requires-2-clause-small
remainders-products-requires-2-clause-small c =
    taken_remainders-below (8 * c.args.p) (2 * (4 * c.args.p)) (zip2 wrapped_product lane_numbers (replicate 16 c.args.k))
    c.remainders-products.result (omega arith) (omega arith) c.remainders-products.ensures

pub remainders-products-requires-3-clause-small : goal.remainders-products-requires-3-clause-small
remainders-products-requires-3-clause-small c =
    taken_remainders-below (4 * c.args.p) (2 * (2 * c.args.p)) c.remainders-products.result
    c.remainders-products-2.result (omega arith) (omega arith) c.remainders-products-2.ensures

pub remainders-requires-clause-small : goal.remainders-requires-clause-small
remainders-requires-clause-small c =
    taken_remainders-below (2 * c.args.p) (2 * c.args.p) c.remainders-products-2.result
    c.remainders-products-3.result (omega arith) (omega arith) c.remainders-products-3.ensures

pub returns : goal.returns
returns c =
    multiples_made c.args.p c.args.k c.remainders-products.result c.remainders-products-2.result c.remainders-products-3.result
    c.remainders.result (omega arith)
    c.remainders-products.ensures c.remainders-products-2.ensures c.remainders-products-3.ensures c.remainders.ensures
