use Rattle.std.proofs.Common.{eqb, arith}
use Rattle.std.proofs.lemmas.List.Splits.{length-slice_split}
use Rattle.lpres_reader.proofs.line.line_count.Goals as goal

pub returns : goal.returns
returns c = omega (arith, length-slice_split (λ b. eqb b 10) c.args.text.now, c.newlines.ensures.count)
