use Rattle.std.proofs.Common.{arith}
use Rattle.worked_rows.proofs.KeptTails.{all_may}
use Rattle.worked_rows.proofs.step_cases.may_all_be_kept.Goals as goal

pub returns : goal.returns
returns c all =
    let width = c.requires in
    let end = c.width-c-end.ensures.width in
    let past = c.loop-c-test.false in
    all_may c.args.cover.now c.args.basis.now.rows (λ t first last none. c.loop-c.invariant t first (omega arith) none)
