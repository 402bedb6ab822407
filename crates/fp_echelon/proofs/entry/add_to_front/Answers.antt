use Rattle.pq_base.specs.Prime.{prime_value}
use Rattle.fp_rows.proofs.BelowLaws.{AllBelow-take}
use Rattle.fp_echelon.proofs.entry.add_to_front.Goals as goal

pub add_scaled-requires-clause-left : goal.add_scaled-requires-clause-left
add_scaled-requires-clause-left c = AllBelow-take (prime_value c.args.prime) c.args.count c.args.xs.now c.requires.left

pub add_scaled-requires-clause-right : goal.add_scaled-requires-clause-right
add_scaled-requires-clause-right c = AllBelow-take (prime_value c.args.prime) c.args.count c.args.ys.now c.requires.right
