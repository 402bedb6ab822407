use Rattle.std.proofs.Common.{arith}
use Rattle.lpres_reader.proofs.texts.LineLemmas.{skipped_nothing, skipped_byte}
use Rattle.lpres_reader.proofs.line.is_skipped.Goals as goal

pub returns-in-empty : goal.returns-in-empty
returns-in-empty c = skipped_nothing c.args.line.now c.after_blanks.result.now c.after_blanks.ensures (omega arith)

pub returns-in-len1-up : goal.returns-in-len1-up
returns-in-len1-up c = skipped_byte c.args.line.now c.after_blanks.result.now c.after_blanks.ensures (omega arith)
