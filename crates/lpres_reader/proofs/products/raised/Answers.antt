use Rattle.std.proofs.Common.{arith}
use Rattle.std.proofs.lemmas.Result.{err_from_is_err_and}
use Rattle.lpres_reader.proofs.recipes.ProductLaws.{raised-short, raised-long}
use Rattle.lpres_reader.proofs.products.raised.Goals as goal

pub returns-in_err-check_letters : goal.returns-in_err-check_letters
returns-in_err-check_letters c =
    let p = err_from_is_err_and c.from_residual.result c.from_residual.ensures.1 in
    rw (
      p.1,
      p.2,
    ) (raised-long c.args.base c.args.negative c.args.digits.now c.size_of-size.result c.size_of-size.ensures
    (grind arith) c.in_err-check_letters.field-0.0 (rw c.letters.ensures.letters at c.in_err-check_letters.ensures))

pub returns : goal.returns
returns c =
    raised-short c.args.base c.args.negative c.args.digits.now c.size_of-size.result c.size_of-size.ensures (grind arith)
    (rw c.letters.ensures.letters at c.in_ok-check_letters.ensures) c.in_ok-raised.field-0 c.in_ok-raised.ensures
