use Rattle.pq_base.specs.Prime.{prime_value}
use Rattle.fp_rows.proofs.BelowLaws.{AllBelow-take}
use Rattle.fp_echelon.proofs.entry.multiply_front.Goals as goal

pub scale-requires-clause-entries : goal.scale-requires-clause-entries
scale-requires-clause-entries c = AllBelow-take (prime_value c.args.prime) c.args.count c.args.xs.now c.requires.entries
