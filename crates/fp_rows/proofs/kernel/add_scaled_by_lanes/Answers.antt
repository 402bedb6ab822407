use Rattle.std.proofs.Common.{◌-◌, length, arith}
use Rattle.fp_rows.proofs.LaneLoops.{AllBelow-chunk, chunk_fits, multiples-below, added_read-below, added_more, added_last}
use Rattle.fp_rows.proofs.kernel.add_scaled_by_lanes.Goals as goal

pub looked_up-last_products-requires : goal.looked_up-last_products-requires
looked_up-last_products-requires c = chunk_fits c.args.p (length c.args.xs.now - 16) c.args.ys.now c.requires.few c.requires.right

pub sums-last_sums-requires-clause-left : goal.sums-last_sums-requires-clause-left
sums-last_sums-requires-clause-left c = AllBelow-chunk c.args.p (length c.args.xs.now - 16) c.args.xs.now c.requires.left

pub sums-last_sums-requires-clause-right : goal.sums-last_sums-requires-clause-right
sums-last_sums-requires-clause-right c =
    multiples-below c.args.p c.args.k c.multiples-table.result c.args.ys.now c.looked_up-last_products.result (length c.args.xs.now - 16)
    c.requires.few (omega arith) c.multiples-table.ensures c.requires.right c.looked_up-last_products.ensures

pub looked_up-products-requires : goal.looked_up-products-requires
looked_up-products-requires c = chunk_fits c.args.p c.loop-i.i c.args.ys.now c.requires.few c.requires.right

pub sums-requires-clause-left : goal.sums-requires-clause-left
sums-requires-clause-left c =
    added_read-below c.args.p c.args.k c.args.xs.now c.args.ys.now c.loop-i.xs c.loop-i.i (omega arith) c.requires.few
    c.requires.width c.loop-i.invariant.1 c.requires.left

pub sums-requires-clause-right : goal.sums-requires-clause-right
sums-requires-clause-right c =
    multiples-below c.args.p c.args.k c.multiples-table.result c.args.ys.now c.looked_up-products.result c.loop-i.i
    c.requires.few (omega arith) c.multiples-table.ensures c.requires.right c.looked_up-products.ensures

pub loop-i-preserved : goal.loop-i-preserved
loop-i-preserved c = (
  omega arith,
  added_more c.args.p c.args.k c.args.xs.now c.args.ys.now c.loop-i.xs c.loop-i.i (omega arith) c.requires.few
      c.requires.width c.loop-i.invariant.1 c.multiples-table.result c.looked_up-products.result c.sums.result
      c.multiples-table.ensures c.requires.right c.looked_up-products.ensures c.sums.ensures (omega arith),
)

pub returns : goal.returns
returns c =
    added_last c.args.p c.args.k c.args.xs.now c.args.ys.now c.loop-i.xs c.loop-i.i (omega arith) c.requires.few
    c.requires.width c.loop-i.invariant.1 c.multiples-table.result c.looked_up-last_products.result c.sums-last_sums.result
    (length c.args.xs.now - 16) c.multiples-table.ensures c.requires.right c.looked_up-last_products.ensures
    c.sums-last_sums.ensures (omega arith) (omega arith)
