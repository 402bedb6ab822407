-- What the text is refused for, the input is refused for.
use Rattle.std.proofs.lemmas.Result.{err_from_is_err_and}
use Rattle.pq_run.proofs.Causes.{unread_cause}
use Rattle.pq_run.proofs.input.read_presentation.Goals as goal

pub returns-in_err-read-clause-err : goal.returns-in_err-read-clause-err
returns-in_err-read-clause-err g c =
    let p = err_from_is_err_and c.from_residual-in_err-read.result c.from_residual-in_err-read.ensures.1 in
    rw (p.1, p.2)
    (unread_cause c.deref.result.now c.in_ok-text.text.items _ c.in_err-read.field-0.0 c.deref.ensures.value c.in_ok-text.ensures.within
    c.in_ok-text.ensures.whole c.in_err-read.ensures.refused)
