use Rattle.std.proofs.Common.{◌-◌, length, arith}
use Rattle.fp_rows.proofs.LaneLoops.{chunk_fits, scaled_read-fits, scaled_more, scaled_last}
use Rattle.fp_rows.proofs.kernel.scale_by_lanes.Goals as goal

pub looked_up-last_products-requires : goal.looked_up-last_products-requires
looked_up-last_products-requires c = chunk_fits c.args.p (length c.args.xs.now - 16) c.args.xs.now c.requires.few c.requires.entries

pub looked_up-requires : goal.looked_up-requires
looked_up-requires c =
    scaled_read-fits c.args.p c.args.k c.args.xs.now c.loop-i.xs c.loop-i.i (omega arith) c.requires.few
    c.loop-i.invariant.1 c.requires.entries

pub loop-i-preserved : goal.loop-i-preserved
loop-i-preserved c = (
  omega arith,
  scaled_more c.args.p c.args.k c.args.xs.now c.loop-i.xs c.loop-i.i (omega arith) c.requires.few
      c.loop-i.invariant.1 c.multiples-table.result c.looked_up.result
      c.multiples-table.ensures c.requires.entries c.looked_up.ensures (omega arith),
)

pub returns : goal.returns
returns c =
    scaled_last c.args.p c.args.k c.args.xs.now c.loop-i.xs c.loop-i.i (omega arith) c.requires.few
    c.loop-i.invariant.1 c.multiples-table.result c.looked_up-last_products.result (length c.args.xs.now - 16)
    c.multiples-table.ensures c.requires.entries c.looked_up-last_products.ensures (omega arith) (omega arith)
