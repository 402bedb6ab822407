use Rattle.std.proofs.Common.{arith, ◌∙◌}
use Rattle.std.proofs.lemmas.Result.{err_from_is_err_and}
use Rattle.lpres_reader.proofs.texts.LineLemmas.{front_nothing, front_byte}
use Rattle.lpres_reader.proofs.token.next_token.Goals as goal

pub returns-in-empty : goal.returns-in-empty
returns-in-empty c = front_nothing c.args.line.now c.after_blanks-line.result.now c.after_blanks-line.ensures (omega arith)

pub returns-in_ok-token_at-in-len1-up : goal.returns-in_ok-token_at-in-len1-up
returns-in_ok-token_at-in-len1-up c =
    let h = front_byte c.args.line.now c.after_blanks-line.result.now c.after_blanks-line.ensures (omega arith) in
    h ∙ c.in_ok-token_at-in-len1-up.ensures

pub returns-in_err-token_at-in-len1-up : goal.returns-in_err-token_at-in-len1-up
returns-in_err-token_at-in-len1-up c =
    let p = err_from_is_err_and c.from_residual.result c.from_residual.ensures.1 in
    let h = front_byte c.args.line.now c.after_blanks-line.result.now c.after_blanks-line.ensures (omega arith) in
    rw p.1 (h ∙ c.in_err-token_at-in-len1-up.ensures)
